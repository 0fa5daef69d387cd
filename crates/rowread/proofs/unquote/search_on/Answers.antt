-- One case a path: no quote is left in the word, a quote that closes, two quotes in the word, two quotes of which the second is in the next word.
use Rattle.std.proofs.Common.{◌≡◌, ◌+◌, ◌-◌, ◌≤◌, ◌<◌, length, drop, ℕ, List}
use Rattle.rowread.proofs.unquote.search_on.Goals as goal
use Rattle.rowread.proofs.unquote.search_on.Goals.{After-first, After-clear_first-marks, After-quotes_of-marks-2}
use native.Mathlib.Omega.{arith}
use mathlib.Core.Path.{sym, ◌∙◌}
use lib.ListN.{take, get_or}
use Rattle.rfc4180.specs.Csv.{quote}
use Rattle.base.specs.Little.{little}
use Rattle.rowread.specs.Marks as M
use Rattle.rowread.specs.Marks.{since}
use Rattle.rowread.proofs.Search.{since-zero, word-eight, word_bytes}
use Rattle.rowread.proofs.Quoted.{QuoteAt, grid-marks, grid-in, grid-quote, grid-cleared, some-mark, clear-here, turn-none, turn-close, turn_twice}

-- ---- the first quote that is left in the word, at i + j
module _ (c : After-first) where
  abbrev t : List ℕ
  t = c.args.t.now

  abbrev j : ℕ
  j = c.first.result

  in-word : j < 8
  in-word = grid-in t c.args.i c.args.p c.args.m c.requires.0 c.if-m-eq0.false j c.first.ensures

  quote-at : QuoteAt t c.args.p (c.args.i + j)
  quote-at = grid-quote t c.args.i c.args.p c.args.m c.requires.0 c.if-m-eq0.false j c.first.ensures

  without : (r : ℕ) → M.ClearedOf c.args.m r → r ≡ little (since (j + 1) (M.marks M.is_quote (take 8 (drop c.args.i t))))
  without = grid-cleared t c.args.i c.args.p c.args.m c.requires.0 c.if-m-eq0.false j c.first.ensures

module _ (c : After-clear_first-marks) where
  abbrev first-of-two : After-first
  first-of-two = (goal.at.clear_first-requires c).After-first

  second-in-word : j first-of-two + 1 < 8
  second-in-word = omega (arith, c.if-q-following.true)

  second_at : get_or (t first-of-two) (c.args.i + (j first-of-two + 1)) 0 ≡ quote
  second_at =
      let z : c.args.i + j first-of-two + 1 ≡ c.args.i + (j first-of-two + 1) = omega arith in
      rw z at c.if-t-q-ne-QUOTE.false

  second-left : c.clear_first-marks.result ≡ little (since (j first-of-two + 1) (M.marks M.is_quote (take 8 (drop c.args.i (t first-of-two)))))
  second-left = without first-of-two c.clear_first-marks.result c.clear_first-marks.ensures.0

module _ (c : After-quotes_of-marks-2) where
  abbrev last-of-word : After-first
  last-of-word = (goal.at.clear_first-requires-2 c).After-first

  abbrev following : ℕ
  following = c.args.i + 8

  is_last : j last-of-word ≡ 7
  is_last = omega (arith, in-word last-of-word, c.if-q-following.false)

  following-inside : following + 8 ≤ length (t last-of-word)
  following-inside = omega (arith, c.requires.1)

  following-at : get_or (t last-of-word) (following + 0) 0 ≡ quote
  following-at =
      let z : c.args.i + j last-of-word + 1 ≡ following + 0 = omega (arith, is_last) in
      rw z at c.if-t-q-ne-QUOTE.false

  following-left : c.quotes_of-marks-2.result ≡ little (since 0 (M.marks M.is_quote (take 8 (drop following (t last-of-word)))))
  following-left =
      let b = c.load-2.ensures in
      c.quotes_of-marks-2.ensures (take 8 (drop following (t last-of-word))) (word-eight (t last-of-word) following following-inside) (word_bytes (t last-of-word) following b.1) b.0
      ∙ since-zero (M.marks M.is_quote (take 8 (drop following (t last-of-word))))

pub returns-then-m-eq0 : goal.returns-then-m-eq0
returns-then-m-eq0 c =
    let a = c.args in
    let t = a.t.now in
    let g = c.requires.0 in
    let b = c.load.ensures in
    let i = a.i + 8 in
    let e = c.quotes_of-marks.ensures (take 8 (drop i t)) (word-eight t i (omega (arith, c.requires.1))) (word_bytes t i b.1) b.0 in
    turn-none t a.i a.p a.m g c.requires.1 c.quotes_of-marks.result c.if-m-eq0.true e

pub first-requires : goal.first-requires
first-requires c =
    let a = c.args in
    let t = a.t.now in
    let g = c.requires.0 in
    let n = c.if-m-eq0.false in
    ((since (a.p - a.i) (M.marks M.is_quote (take 8 (drop a.i t))), grid-marks t a.i a.p a.m g, g.quotes), omega (arith, n))

pub overflow_add-q : goal.overflow_add-q
overflow_add-q c = omega (arith, in-word (goal.at.overflow_add-q c).After-first, c.requires.0.inside)

pub overflow_add-q-2 : goal.overflow_add-q-2
overflow_add-q-2 c = omega (arith, in-word (goal.at.overflow_add-q-2 c).After-first, c.requires.0.inside)

pub bounds-t-q : goal.bounds-t-q
bounds-t-q c = omega (arith, in-word (goal.at.bounds-t-q c).After-first, c.requires.1)

-- ---- it closes the value
pub overflow_sub-result-then-t-q-ne-QUOTE : goal.overflow_sub-result-then-t-q-ne-QUOTE
overflow_sub-result-then-t-q-ne-QUOTE c = (quote-at (goal.at.overflow_sub-result-then-t-q-ne-QUOTE c).After-first).from

pub returns-then-t-q-ne-QUOTE : goal.returns-then-t-q-ne-QUOTE
returns-then-t-q-ne-QUOTE c =
    let x = (goal.at.returns-then-t-q-ne-QUOTE c).After-first in
    let a = c.args in
    turn-close (t x) a.i a.p a.m c.requires.0 c.requires.1 (a.i + j x) (quote-at x) (omega (arith, in-word x)) c.if-t-q-ne-QUOTE.true

-- ---- another follows it in the word
pub overflow_sub-result-then-q-following : goal.overflow_sub-result-then-q-following
overflow_sub-result-then-q-following c = omega (arith, (quote-at (goal.at.overflow_sub-result-then-q-following c).After-first).from)

pub clear_first-requires : goal.clear_first-requires
clear_first-requires c =
    let x = first-of-two c in
    let y = some-mark (t x) c.args.i (j x + 1) c.requires.0.inside (second-in-word c) (second_at c) in
    let z : c.clear_first-marks.result ≡ 0 → ⊥ = λ q. y (sym (second-left c) ∙ q) in
    omega (arith, z)

pub returns-then-q-following : goal.returns-then-q-following
returns-then-q-following c =
    let o = (goal.at.returns-then-q-following c).After-clear_first-marks in
    let x = first-of-two o in
    let a = c.args in
    let k = second-in-word o in
    let r = clear-here (t x) a.i (j x + 1) c.requires.0.inside k (second_at o) _ c.clear_first.result (second-left o) c.clear_first.ensures.0 in
    let y : a.i + j x + 2 - a.i ≡ j x + 1 + 1 = omega arith in
    turn_twice (t x) a.i a.p a.m c.requires.0 c.requires.1 (a.i + j x) (quote-at x) (omega (arith, in-word x)) a.i c.clear_first.result c.if-t-q-ne-QUOTE.false (omega arith) (record { low = omega arith; high = omega (arith, k); inside = c.requires.0.inside; quotes = rw y r })

-- ---- another follows it, the first byte of the next word
pub clear_first-requires-2 : goal.clear_first-requires-2
clear_first-requires-2 c =
    let y = some-mark (t (last-of-word c)) (following c) 0 (following-inside c) (omega arith) (following-at c) in
    let z : c.quotes_of-marks-2.result ≡ 0 → ⊥ = λ q. y (sym (following-left c) ∙ q) in
    omega (arith, z)

pub returns : goal.returns
returns c =
    let b = (goal.at.returns c).After-quotes_of-marks-2 in
    let x = last-of-word b in
    let a = c.args in
    let i = following b in
    let k = is_last b in
    let r = clear-here (t x) i 0 (following-inside b) (omega arith) (following-at b) _ c.clear_first-2.result (following-left b) c.clear_first-2.ensures.0 in
    let y : a.i + j x + 2 - i ≡ 0 + 1 = omega (arith, k) in
    turn_twice (t x) a.i a.p a.m c.requires.0 c.requires.1 (a.i + j x) (quote-at x) (omega (arith, in-word x)) i c.clear_first-2.result c.if-t-q-ne-QUOTE.false (omega arith) (record { low = omega (arith, k); high = omega (arith, k); inside = following-inside b; quotes = rw y r })
