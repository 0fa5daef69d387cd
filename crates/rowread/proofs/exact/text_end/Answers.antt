-- The invariant: the value from `from` on ends where the value from i on ends. The first delimiter ends it, found by marks or byte by byte.
use Rattle.std.proofs.Common.{◌≡◌, ◌+◌, ◌*◌, ◌≤◌, length, drop, true}
use Rattle.rowread.proofs.exact.text_end.Goals as goal
use native.Mathlib.Omega.{arith}
use mathlib.Core.Path.{sym, ◌∙◌}
use lib.ListN.{take, get_or}
use Rattle.rowread.specs.Marks as M
use Rattle.rowread.proofs.Laws.{plain_out, plain-stop, plain_turn}
use Rattle.rowread.proofs.Search.{marks-all, word-eight, word_bytes, word_first, word-plain, text-not, plain-skip}

pub first-requires : goal.first-requires
first-requires c =
    let t = c.args.t.now in
    let i = c.args.from + c.loop-k.k * 8 in
    let h : i + 8 ≤ length t = omega (arith, c.loop-k-test.true) in
    let b = c.load.ensures in
    let e = c.delimiters_of-m.ensures (take 8 (drop i t)) (word-eight t i h) (word_bytes t i b.1) b.0 in
    let n = c.if-m-ne0.true in
    ((M.marks M.is_delimiter (take 8 (drop i t)), marks-all (take 8 (drop i t)) (word-eight t i h), e), omega (arith, n))

pub overflow_add-result : goal.overflow_add-result
overflow_add-result c =
    let t = c.args.t.now in
    let i = c.args.from + c.loop-k.k * 8 in
    let h : i + 8 ≤ length t = omega (arith, c.loop-k-test.true) in
    let b = c.load.ensures in
    let e = c.delimiters_of-m.ensures (take 8 (drop i t)) (word-eight t i h) (word_bytes t i b.1) b.0 in
    let w = word_first t i c.delimiters_of-m.result c.first.result h e c.if-m-ne0.true c.first.ensures in
    omega (arith, w.0, h)

pub returns-then-m-ne0 : goal.returns-then-m-ne0
returns-then-m-ne0 c =
    let t = c.args.t.now in
    let i = c.args.from + c.loop-k.k * 8 in
    let h : i + 8 ≤ length t = omega (arith, c.loop-k-test.true) in
    let b = c.load.ensures in
    let e = c.delimiters_of-m.ensures (take 8 (drop i t)) (word-eight t i h) (word_bytes t i b.1) b.0 in
    let j = c.first.result in
    let w = word_first t i c.delimiters_of-m.result j h e c.if-m-ne0.true c.first.ensures in
    plain-stop t (i + j) (omega (arith, w.0, h)) (text-not (get_or t (i + j) 0) true w.1) ∙ sym (c.loop-k.invariant ∙ plain-skip j t i (omega (arith, w.0, h)) w.2)

pub loop-k-preserved : goal.loop-k-preserved
loop-k-preserved c =
    let t = c.args.t.now in
    let i = c.args.from + c.loop-k.k * 8 in
    let h : i + 8 ≤ length t = omega (arith, c.loop-k-test.true) in
    let b = c.load.ensures in
    let e = c.delimiters_of-m.ensures (take 8 (drop i t)) (word-eight t i h) (word_bytes t i b.1) b.0 in
    let z : i + 8 ≡ c.args.from + (c.loop-k.k + 1) * 8 = omega arith in
    rw z at (c.loop-k.invariant ∙ plain-skip 8 t i h (word-plain t i c.delimiters_of-m.result h e c.if-m-ne0.false))

pub returns-then-not-is_text : goal.returns-then-not-is_text
returns-then-not-is_text c =
    let l = c.loop-i in
    let t = c.args.t.now in
    plain-stop t l.i (omega (arith, c.loop-i-test.true)) (sym c.is_text.ensures ∙ c.if-not-is_text.true) ∙ sym l.invariant

pub loop-i-preserved : goal.loop-i-preserved
loop-i-preserved c =
    let l = c.loop-i in
    l.invariant ∙ plain_turn c.args.t.now l.i c.loop-i-test.true (sym c.is_text.ensures ∙ c.if-not-is_text.false)

pub returns : goal.returns
returns c =
    let l = c.loop-i in
    let e : length c.args.t.now ≡ l.i = omega arith in
    e ∙ plain_out c.args.t.now l.i c.loop-i-test.false ∙ sym l.invariant
