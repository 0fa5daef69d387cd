-- The invariant: the value is read and written up to p, and m has the marks of the word at i from p on (`Unquoting`, `Grid`). A turn goes on or
-- closes the value.
use Rattle.std.proofs.Common.{◌≡◌, ◌+◌, ◌-◌, ◌≤◌, length, drop, true, false}
use Rattle.rowread.proofs.unquote.unquote_by_marks.Goals as goal
use native.Mathlib.Omega.{arith}
use Rattle.rowread.proofs.unquote.unquote_by_marks.Goals.{then-write, else-write}
use mathlib.Core.Path.{◌∙◌}
use lib.ListN.{take, length-take, length-drop}
use lib.Seq.{sets}
use Rattle.rowread.specs.Marks as M
use Rattle.rowread.proofs.Search.{since-zero, word-eight, word_bytes}
use Rattle.rowread.proofs.Quoted.{both_ways, written-block, block-fits, un-start, un-more, un-whole, un-room}

pub loop-i-init : goal.loop-i-init
loop-i-init c =
    let a = c.args in
    let t = a.t.now in
    let b = c.load.ensures in
    let h : a.from + 8 ≤ length t = omega (arith, c.requires.searched_bytes_in_bounds.0) in
    let e = c.quotes_of-m.ensures (take 8 (drop a.from t)) (word-eight t a.from h) (word_bytes t a.from b.1) b.0 ∙ since-zero (M.marks M.is_quote (take 8 (drop a.from t))) in
    let z : a.from - a.from ≡ 0 = omega arith in
    (omega (arith, h), record { low = omega arith; high = omega arith; inside = h; quotes = rw z e }, un-start 16 a.write t a.from a.out.now a.to (omega (arith, h)))

pub copy_block-requires : goal.copy_block-requires
copy_block-requires c =
    let l = c.loop-i in
    let h = c.loop-i-test.true in
    let u = l.invariant.2 in
    (omega (arith, h, l.invariant.1.high, l.invariant.0), block-fits c.args.write c.args.t.now l.p l.out l.n (omega (arith, u.grows, u.upto, c.requires.searched_bytes_in_bounds.1)) u.inside (un-room u c.requires.room) c.if-write.true)

pub returns-in-Closed : goal.returns-in-Closed
returns-in-Closed c =
    let a = c.args in
    let t = a.t.now in
    let l = c.loop-i in
    let h = c.loop-i-test.true in
    let x = c.in-Closed in
    let e = rw x.is at c.search_on-x.ensures in
    let u = l.invariant.2 in
    let o = c.if-write.out in
    let put : (a.write ≡ false → o ≡ l.out) × (a.write ≡ true → o ≡ sets l.out l.n (take 16 (drop l.p t))) =
    elim c.if-write.branch [
      | then-write y ↦ (λ f. absurd (both_ways a.write y.if-write.true f), λ f. y.out-is ∙ y.copy_block.ensures)
      | else-write y ↦ (λ f. y.out-is, λ f. absurd (both_ways a.write f y.if-write.false))
    ] in
    let w = written-block a.write t l.out o l.p l.n x.copied put.0 put.1 (omega (arith, e.0)) (omega (arith, h, l.invariant.1.high, l.invariant.0)) in
    let k : length (take x.copied (drop l.p t)) ≡ x.copied = omega (arith, length-take x.copied (drop l.p t), length-drop l.p t, e.0, h, l.invariant.1.high, l.invariant.0) in
    un-whole u (take x.copied (drop l.p t)) (x.quote + 1) (l.n + x.copied - a.to) o e.1 (omega (arith, e.3)) (omega (arith, k, u.upto)) w

pub loop-i-preserved : goal.loop-i-preserved
loop-i-preserved c =
    let a = c.args in
    let t = a.t.now in
    let l = c.loop-i in
    let h = c.loop-i-test.true in
    let x = c.in-On in
    let e = rw x.is at c.search_on-x.ensures in
    let u = l.invariant.2 in
    let o = c.if-write.out in
    let put : (a.write ≡ false → o ≡ l.out) × (a.write ≡ true → o ≡ sets l.out l.n (take 16 (drop l.p t))) =
    elim c.if-write.branch [
      | then-write y ↦ (λ f. absurd (both_ways a.write y.if-write.true f), λ f. y.out-is ∙ y.copy_block.ensures)
      | else-write y ↦ (λ f. y.out-is, λ f. absurd (both_ways a.write f y.if-write.false))
    ] in
    let w = written-block a.write t l.out o l.p l.n x.copied put.0 put.1 (omega (arith, e.0)) (omega (arith, h, l.invariant.1.high, l.invariant.0)) in
    let k : length (take x.copied (drop l.p t)) ≡ x.copied = omega (arith, length-take x.copied (drop l.p t), length-drop l.p t, e.0, h, l.invariant.1.high, l.invariant.0) in
    (omega (arith, e.5.inside), e.5, un-more u (take x.copied (drop l.p t)) x.following (l.n + x.copied) o e.1 (omega (arith, e.2, k)) e.3 (omega (arith, k)) w)
