-- A byte that differs decides (`byte_decides`), and equal ones leave the rests to compare (`byte_goes_on`). Where one text ends, the lengths
-- decide (`ended`).
use Rattle.std.proofs.Common.{◌≡◌, ◌∙◌, ◌-◌, ◌+◌, ◌<◌, List, ℕ, length, take, drop, get_or, arith, length-drop}
use Rattle.std.specs.Ordering.{nat_cmp}
use Rattle.std.specs.declared.cmp.Ordering.TheVariants.{Less, Equal, Greater}
use Rattle.std.proofs.lemmas.List.{take_all}
use Rattle.std.proofs.cmp.SliceLoops.{ended}
use Rattle.key.proofs.Walk.{byte_decides, byte_goes_on, less_is, more_is, same_is, text-answer}
use Rattle.key.proofs.picks.order.Goals as goal

pub returns-then-b-i : goal.returns-then-b-i
returns-then-b-i c =
    let a = c.args.a.now in
    let b = c.args.b.now in
    let l = c.loop-i in
    let longer : length b < length a = omega (arith, c.loop-i-test.true, c.if-b-i.true) in
    ended a b l.i Greater (omega (arith, l.invariant.0, c.if-b-i.true, longer)) (more_is (length a) (length b) longer) nat_cmp ∙ l.invariant.1 ∙ text-answer a b

pub returns-then-a-i : goal.returns-then-a-i
returns-then-a-i c =
    let a = c.args.a.now in
    let b = c.args.b.now in
    let l = c.loop-i in
    byte_decides a b l.i (omega (arith, c.loop-i-test.true)) (omega (arith, c.if-b-i.false)) l.invariant.1 Less
    (less_is (get_or a l.i 0) (get_or b l.i 0) c.if-a-i.true) (λ e. cc)

pub returns-then-b-i-2 : goal.returns-then-b-i-2
returns-then-b-i-2 c =
    let a = c.args.a.now in
    let b = c.args.b.now in
    let l = c.loop-i in
    byte_decides a b l.i (omega (arith, c.loop-i-test.true)) (omega (arith, c.if-b-i.false)) l.invariant.1 Greater
    (more_is (get_or a l.i 0) (get_or b l.i 0) c.if-b-i-2.true) (λ e. cc)

pub returns-then-a-gt-SHORT : goal.returns-then-a-gt-SHORT
returns-then-a-gt-SHORT c =
    let a = c.args.a.now in
    let b = c.args.b.now in
    let i = c.loop-i.i in
    let all : (s : List ℕ) → take (length s - (i + 1)) (drop (i + 1) s) ≡ drop (i + 1) s = λ s. take_all (length s - (i + 1)) (drop (i + 1) s) (omega (arith, length-drop (i + 1) s)) in
    c.rests_order.ensures ∙ rw (all a, all b) (byte_goes_on a b i (omega (arith, c.loop-i-test.true)) (omega (arith, c.if-b-i.false)) c.loop-i.invariant.1 (omega (arith, c.if-a-i.false, c.if-b-i-2.false)))

pub returns-then-a-b : goal.returns-then-a-b
returns-then-a-b c =
    let a = c.args.a.now in
    let b = c.args.b.now in
    let l = c.loop-i in
    let i : l.i ≡ length a = omega (arith, c.loop-i-test.false, l.auto.i-end) in
    ended a b l.i Less (omega (arith, l.invariant.0, i)) (less_is (length a) (length b) c.if-a-b.true) nat_cmp ∙ l.invariant.1 ∙ text-answer a b

pub returns : goal.returns
returns c =
    let a = c.args.a.now in
    let b = c.args.b.now in
    let l = c.loop-i in
    let i : l.i ≡ length a = omega (arith, c.loop-i-test.false, l.auto.i-end) in
    let same : length b ≡ length a = omega (arith, l.invariant.0, i, c.if-a-b.false) in
    ended a b l.i Equal (omega (arith, l.invariant.0, i)) (rw same (same_is (length a))) nat_cmp ∙ l.invariant.1 ∙ text-answer a b
