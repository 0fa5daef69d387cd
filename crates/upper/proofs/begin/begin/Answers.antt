-- Another length than a region's is refused; else `begin_in`. The time is held as it is, since it fits an i64.
use Rattle.std.proofs.Common.{w64, ℤ, to_z, of_z, Err}
use Rattle.upper.proofs.begin.begin.Goals as goal
use mathlib.Core.Path.{ap, ◌∙◌}
use native.Mathlib.Omega.{arith}
use mir.ValLaws.{to_z-of_z}
use Rattle.refusal.specs.declared.Refusal.TheVariants.{Region}
use Rattle.lower.specs.Lower.{started}
use Rattle.upper.proofs.Laws.{begin-region}

pub returns-then-region-ne-REGION_SIZE : goal.returns-then-region-ne-REGION_SIZE
returns-then-region-ne-REGION_SIZE c =
    let s = c in
    let y = s.args in
    let z = to_z-of_z w64 y.at s.ranges.at in
    let d = begin-region y.region.now y.comparing y.at y.identity.now y.texts.now y.lengths.now (λ e. omega arith) in
    (c.refuse.ensures ∙ ap (λ (n : ℤ). record { answer = Err Region; writer = started (Err Region) y.comparing n }) z ∙ d.0, d.1)
