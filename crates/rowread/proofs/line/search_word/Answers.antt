-- The invariant: the bytes before index d of the word were searched, and m has the marks from d on. A comma goes on; a quote, CR or LF ends the search;
-- with no mark left the whole word was searched.
use Rattle.std.proofs.Common.{◌≡◌, ◌+◌, ◌-◌, ◌<◌, length, take, drop}
use Rattle.rowread.proofs.line.search_word.Goals as goal
use native.Mathlib.Omega.{arith}
use mathlib.Core.Path.{refl, sym, ap, ◌∙◌}
use lib.ListN.{get_or, set, length-set}
use Rattle.rowread.proofs.line.search_word.Goals.{then-k-marks, else-k-marks}
use Rattle.rfc4180.specs.Csv.{comma}
use Rattle.rowread.specs.Marks as M
use Rattle.rowread.specs.Marks.{is_delimiter, since}
use Rattle.rowread.proofs.Search.{since-zero, since-marks, word-eight, word_bytes, word-done, word-cleared, word-found, stop-of, at-comma}

pub loop-m-init : goal.loop-m-init
loop-m-init c =
    let a = c.args in
    let l = c.load.ensures in
    let t = a.t.now in
    let m = c.delimiters_of-m.ensures (take 8 (drop a.i t)) (word-eight t a.i c.requires.long_bytes_in_bounds) (word_bytes t a.i l.1) l.0 in
    let z : a.i + 0 ≡ a.i = omega arith in
    (0, omega arith, m ∙ since-zero (M.marks is_delimiter (take 8 (drop a.i t))), omega (arith, c.requires.commas_le_i), refl, λ slots h. rw z h)

pub first-requires : goal.first-requires
first-requires c =
    let t = c.args.t.now in
    let l = c.loop-m in
    let bs = take 8 (drop c.args.i t) in
    let n = c.loop-m-test.true in
    ((since l.invariant.0 (M.marks is_delimiter bs), since-marks is_delimiter bs l.invariant.0 (word-eight t c.args.i c.requires.long_bytes_in_bounds), l.invariant.2), omega (arith, n))

pub overflow_add-q : goal.overflow_add-q
overflow_add-q c =
    let l = c.loop-m in
    let w = word-found c.args.t.now c.args.i l.invariant.0 l.m c.first.result c.requires.long_bytes_in_bounds l.invariant.2 c.loop-m-test.true c.first.ensures in
    omega (arith, c.requires.long_bytes_in_bounds, w.1.inside)

pub bounds-t-q : goal.bounds-t-q
bounds-t-q c =
    let l = c.loop-m in
    let w = word-found c.args.t.now c.args.i l.invariant.0 l.m c.first.result c.requires.long_bytes_in_bounds l.invariant.2 c.loop-m-test.true c.first.ensures in
    omega (arith, c.requires.long_bytes_in_bounds, w.1.inside)

pub returns-then-t-q-ne-COMMA : goal.returns-then-t-q-ne-COMMA
returns-then-t-q-ne-COMMA c =
    let t = c.args.t.now in
    let l = c.loop-m in
    let j = c.first.result in
    let w = word-found t c.args.i l.invariant.0 l.m j c.requires.long_bytes_in_bounds l.invariant.2 c.loop-m-test.true c.first.ensures in
    λ slots h. (w.1.on (l.invariant.5 slots h), (omega (arith, c.requires.long_bytes_in_bounds, w.1.inside), stop-of (get_or t (c.args.i + j) 0) w.1.here c.if-t-q-ne-COMMA.true))

pub overflow_sub-marks : goal.overflow_sub-marks
overflow_sub-marks c =
    let l = c.loop-m in
    let w = word-found c.args.t.now c.args.i l.invariant.0 l.m c.first.result c.requires.long_bytes_in_bounds l.invariant.2 c.loop-m-test.true c.first.ensures in
    omega (arith, l.invariant.3, w.1.from)

pub loop-m-preserved : goal.loop-m-preserved
loop-m-preserved c =
    let t = c.args.t.now in
    let i = c.args.i in
    let l = c.loop-m in
    let d = l.invariant.0 in
    let j = c.first.result in
    let bs = take 8 (drop i t) in
    let w = word-found t i d l.m j c.requires.long_bytes_in_bounds l.invariant.2 c.loop-m-test.true c.first.ensures in
    let r = word-cleared t i d j c.clear_first-m.result w.0 (c.clear_first-m.ensures.0 (since d (M.marks is_delimiter bs)) (since-marks is_delimiter bs d (word-eight t i c.requires.long_bytes_in_bounds)) l.invariant.2) in
    let e : get_or t (i + j) 0 ≡ comma = c.if-t-q-ne-COMMA.false in
    let h : i + j < length t = omega (arith, c.requires.long_bytes_in_bounds, w.1.inside) in
    let z : i + j + 1 ≡ i + (j + 1) = omega arith in
    let o = c.if-k-marks.marks in
    let p : (length o ≡ length l.marks) × (l.k < length l.marks → o ≡ set l.marks l.k (i + j - l.k)) =
    elim c.if-k-marks.branch [
      | then-k-marks x ↦ (ap length x.marks-is ∙ length-set l.marks l.k (i + j - l.k), λ y. x.marks-is)
      | else-k-marks x ↦ (ap length x.marks-is, λ y. absurd (omega (arith, y, x.if-k-marks.false)))
    ] in
    (j + 1, omega (arith, w.1.inside), r, omega (arith, l.invariant.3, w.1.from), p.0 ∙ l.invariant.4, λ slots g. rw z at (at-comma (w.1.on (l.invariant.5 slots g)) h o e p.1 p.0))

pub returns : goal.returns
returns c =
    let l = c.loop-m in
    let n : l.m ≡ 0 = c.loop-m-test.false in
    λ slots h. word-done c.args.t.now c.args.i l.invariant.0 c.requires.long_bytes_in_bounds l.invariant.1 (sym l.invariant.2 ∙ n) (l.invariant.5 slots h)
