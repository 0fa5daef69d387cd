-- One turn is `digit_split`.
use Rattle.std.proofs.Common.{◌≡◌, ◌+◌, ◌-◌, ◌*◌, ◌^◌, ◌<◌, ℕ, ◌/◌}
use Rattle.std.specs.Int.Bits.{bit_xor}
use Rattle.checksum.specs.Register.{steps}
use Rattle.checksum.proofs.register.steps64.Goals as goal
use mathlib.Core.Path.{sym, ap, ap₂, subst, ◌∙◌}
use native.Mathlib.Nat.{div-eq_of_lt, lt_of_lt_of_le}
use native.Mathlib.Omega.{arith}
use lib.Pow.{pow_mono, shr_lt, shr-shr}
use lib.Bits.{xor_comm}
use Rattle.checksum.proofs.TableLaws.{digit_split}

pub loop-row-init : goal.loop-row-init
unfolding steps
loop-row-init c = sym (div-eq_of_lt (lt_of_lt_of_le c.ranges.x.fits (pow_mono {i = 64} {j = 70} (omega arith))))

pub loop-row-preserved : goal.loop-row-preserved
loop-row-preserved c =
    let l = c.loop-row in
    let start = c in
    let x = start.args.x in
    let d = c.digit_steps-r in
    let j = l.row - 1 in
    let up : 64 - 7 * (l.row - 1) - 7 ≡ 64 - 7 * l.row = omega arith in
    let down : 7 * (l.row - 1) + 7 ≡ 7 * l.row = omega arith in
    let all : 64 ≡ 64 - 7 * (l.row - 1) + 7 * (l.row - 1) = omega arith in
    xor_comm l.r d.result
    ∙ ap₂ bit_xor d.ensures (l.invariant ∙ sym (ap₂ steps up (shr-shr x (7 * j) 7 ∙ ap (λ (i : ℕ). x / 2 ^ i) down)))
    ∙ digit_split (64 - 7 * j) (x / 2 ^ (7 * j)) (shr_lt (64 - 7 * j) (7 * j) (subst (λ (i : ℕ). x < 2 ^ i) all start.ranges.x.fits))
