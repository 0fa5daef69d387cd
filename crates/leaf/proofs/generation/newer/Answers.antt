-- The wrapping difference, read as signed, is the definition's (`signed32_is`).
use Rattle.std.proofs.Common.{◌≡◌, ℕ, ◌+◌, ◌-◌, ◌%◌, ℤ, pos, w32, to_z, of_z, arith}
use Rattle.leaf.proofs.generation.newer.Goals as goal
use mathlib.Core.Path.{ap, ◌∙◌}
use lib.Signed.{lt_z}
use Rattle.base.specs.Number.{wrapping_sub32}
use Rattle.leaf.specs.Generation.{newer}
use Rattle.leaf.proofs.Numbers.{signed32_is, kept32}

pub returns : goal.returns
unfolding newer
returns c =
    let a = c.args.a in
    let b = c.args.b in
    let d : ℕ = (a + (4294967296 - b)) % 4294967296 in
    let e : wrapping_sub32 a b ≡ d = omega arith in
    rw e (ap (λ (z : ℤ). lt_z (pos 0) (to_z w32 (of_z w32 z))) (c.cast_signed.ensures ∙ signed32_is d) ∙ ap (lt_z (pos 0)) (kept32 d (omega arith)))
