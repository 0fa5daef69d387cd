-- The invariant: the scan is that of the width - k values from `from` on, with `to` bytes so far, and what is written so far is `RowState`. A value
-- followed by a comma is a turn (`scan-turn`, `state-next`); after the last one a row end must follow (`scan-last`, `state-whole`).
use Rattle.std.proofs.Common.{◌≡◌, ◌+◌, ◌-◌, length, drop, ℕ, true, false}
use Rattle.rfc4180.specs.Read.{values}
use Rattle.rowread.specs.Steps.{scan_of, slack_of}
use Rattle.rowread.proofs.exact.row.Goals as goal
use Rattle.rowread.proofs.exact.row.Goals.{In_ok-v, Joined-write, Else-k-width, then-write, else-write}
use Prim.Native.Nat.{suc}
use native.Mathlib.Omega.{arith}
use mathlib.Core.Path.{refl, sym, ap, ◌∙◌}
use lib.ListN.{get_or, set}
use Rattle.rfc4180.specs.Csv.{comma}
use Rattle.std.proofs.Common.{None}
use Rattle.rowread.specs.Steps.{scan_from}
use Rattle.rowread.proofs.Laws.{IsValue, is-value, is-bad, scan-start, scan-zero, scan-turn, scan-no-comma, scan-bad, scan-last, scan-no-end, end_fits, past}
use Rattle.rowread.proofs.Quoted.{both_ways}
use Rattle.rowread.proofs.Copies.{RowState, state-start, state-room, state-next, state-whole, state-broken, broken-row}

-- ---- a value was read
module _ (c : In_ok-v) where
  -- the offset after it, and its size
  abbrev next : ℕ
  next = c.in_ok-v.v.next

  abbrev size : ℕ
  size = c.in_ok-v.v.size

  is_read : IsValue c.args.t.now c.loop-k.from next size
  is_read = is-value c.args.t.now c.loop-k.from next size c.loop-k.invariant.0 c.in_ok-v.ensures.0

-- what is written with it
state : (c : Joined-write) → RowState (slack_of c.args.ahead) c.args.write c.args.t.now c.args.width c.args.out.now c.args.ends.now c.value.new.out c.if-write.ends (c.in_ok-v.v.next + 1) (c.loop-k.to + c.in_ok-v.v.size) (c.loop-k.k + 1)
state c =
    let l = c.loop-k in
    let w = c.args.write in
    let m = c.if-write.ends in
    let p : (w ≡ false → m ≡ l.ends) × (w ≡ true → m ≡ set l.ends l.k (l.to + c.in_ok-v.v.size)) =
    elim c.if-write.branch [
      | then-write y ↦ (λ f. absurd (both_ways w y.if-write.true f), λ f. y.ends-is)
      | else-write y ↦ (λ f. y.ends-is, λ f. absurd (both_ways w f y.if-write.false))
    ] in
    state-next l.invariant.3 c.loop-k-test.true _ m (l.to + c.in_ok-v.v.size) (is-value c.args.t.now l.from c.in_ok-v.v.next c.in_ok-v.v.size l.invariant.0 c.in_ok-v.ensures.0) refl c.in_ok-v.ensures.1 p

pub loop-k-init : goal.loop-k-init
loop-k-init c =
    let a = c.args in
    let e : a.width - 0 ≡ a.width = omega arith in
    (omega arith, omega arith, rw e (scan-start a.width a.t.now), state-start (slack_of a.ahead) a.write a.t.now a.width a.out.now a.ends.now c.requires)

pub value-requires-clause-field_room : goal.value-requires-clause-field_room
value-requires-clause-field_room c = state-room c.loop-k.invariant.3 c.requires c.loop-k-test.true

pub returns-in_err-v : goal.returns-in_err-v
returns-in_err-v c =
    let l = c.loop-k in
    let a = c.args in
    let t = a.t.now in
    let e = c.in_err-v.ensures in
    let n : a.width - l.k ≡ suc (a.width - l.k - 1) = omega (arith, c.loop-k-test.true) in
    let b = scan-bad t l.to l.from (a.width - l.k) (a.width - l.k - 1) n (is-bad t l.from e.0) ∙ sym l.invariant.2 in
    rw c.from_residual.ensures
    (b, broken-row b (λ f. (e.1.kept f ∙ (l.invariant.3.kept f).0, (l.invariant.3.kept f).1)) (e.1.same ∙ l.invariant.3.same) l.invariant.3.alike)

pub overflow_add-to : goal.overflow_add-to
overflow_add-to c =
    let r = is_read (goal.at.overflow_add-to c).In_ok-v in
    omega (arith, r.grows, r.inside, c.loop-k.invariant.1)

-- ---- the last value
pub returns-in_err-e : goal.returns-in_err-e
returns-in_err-e c =
    let x = (goal.at.returns-in_err-e c).In_ok-v in
    let l = c.loop-k in
    let o : c.args.width - l.k ≡ 1 = omega (arith, c.if-k-width.true) in
    let b = scan-no-end c.args.t.now l.to l.from (next x) (size x) (is_read x) c.in_err-e.ensures ∙ sym (l.invariant.2 ∙ rw o) in
    rw c.from_residual-in_err-e.ensures (b, state-broken (state (goal.at.returns-in_err-e c).Joined-write) b)

pub overflow_add-result : goal.overflow_add-result
overflow_add-result c = omega (arith, end_fits c.args.t.now c.in_ok-v.v.next c.in_ok-e.ensures.0 (λ z. omega (arith, c.in_ok-e.ensures.1, z)))

pub returns-then-k-width : goal.returns-then-k-width
returns-then-k-width c =
    let x = (goal.at.returns-then-k-width c).In_ok-v in
    let l = c.loop-k in
    let o : c.args.width - l.k ≡ 1 = omega (arith, c.if-k-width.true) in
    let b = scan-last c.args.t.now l.to l.from (next x) (size x) (is_read x) c.in_ok-e.e c.in_ok-e.ensures.0 (λ z. omega (arith, c.in_ok-e.ensures.1, z)) ∙ sym (l.invariant.2 ∙ rw o) in
    (b, state-whole (state (goal.at.returns-then-k-width c).Joined-write) (omega (arith, c.if-k-width.true)) _ b)

-- ---- a value that others follow
module _ (c : Else-k-width) where
  -- how many values follow it, but for one
  abbrev others : ℕ
  others = c.args.width - c.loop-k.k - 2

  two-left : c.args.width - c.loop-k.k ≡ suc (suc others)
  two-left = omega (arith, c.if-k-width.false, c.loop-k-test.true)

pub returns-then-get8-ne-COMMA : goal.returns-then-get8-ne-COMMA
returns-then-get8-ne-COMMA c =
    let o = (goal.at.returns-then-get8-ne-COMMA c).Else-k-width in
    let l = c.loop-k in
    let b = scan-no-comma c.args.t.now l.to l.from (c.args.width - l.k) (others o) (two-left o) (is_read (goal.at.returns-then-get8-ne-COMMA c).In_ok-v) (λ z. c.if-get8-ne-COMMA.true (c.get8.ensures ∙ z)) ∙ sym l.invariant.2 in
    (b, state-broken (state (goal.at.returns-then-get8-ne-COMMA c).Joined-write) b)

pub loop-k-preserved : goal.loop-k-preserved
loop-k-preserved c =
    let o = (goal.at.loop-k-preserved c).Else-k-width in
    let x = (goal.at.loop-k-preserved c).In_ok-v in
    let t = c.args.t.now in
    let l = c.loop-k in
    let k : get_or t (next x) 0 ≡ comma = sym c.get8.ensures ∙ c.if-get8-ne-COMMA.false in
    let y : c.args.width - (l.k + 1) ≡ suc (others o) = omega (arith, two-left o) in
    (omega (arith, past t (next x) 43 k), omega (arith, (is_read x).grows, l.invariant.1), l.invariant.2 ∙ scan-turn t l.to l.from (c.args.width - l.k) (others o) (two-left o) (is_read x) k ∙ rw y, state (goal.at.loop-k-preserved c).Joined-write)

-- ---- no value is asked for
pub returns : goal.returns
returns c =
    let a = c.args in
    let l = c.loop-k in
    let n : a.width - l.k ≡ 0 = omega (arith, c.loop-k-test.false) in
    let z : scan_of a.width a.t.now ≡ None = l.invariant.2 ∙ ap (λ (x : ℕ). scan_from (length a.t.now) l.to (values x (drop l.from a.t.now))) n ∙ scan-zero (length a.t.now) l.to (drop l.from a.t.now) in
    let b = sym z in
    (b, state-broken l.invariant.3 b)
