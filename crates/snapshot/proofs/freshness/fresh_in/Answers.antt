-- The time checked and the oldest time updated are the definition's two parts; the times are held as they are, since they fit an i64.
use Rattle.std.proofs.Common.{rules, ◌≡◌, w64}
use Rattle.header.specs.Header.{records_of}
use Rattle.snapshot.proofs.freshness.fresh_in.Goals as goal
use Rattle.snapshot.specs.Freshness.{days_of, used, updated_at, checked_at, freshness}
use mir.ValLaws.{to_z-of_z}
use mathlib.Core.Path.{◌∙◌}

pub returns : goal.returns
unfolding freshness
returns c =
    let a = c.args in
    let x = to_z-of_z w64 a.b.checked (record { sfits = search rules }) in
    let y = to_z-of_z w64 a.at c.ranges.at in
    let ch : _ ≡ checked_at a.at a.b = to_z-of_z w64 c.checked_at-checked.result (record { sfits = c.checked_at-checked.type_inv }) ∙ c.checked_at-checked.ensures ∙ rw (x, y) in
    let up = to_z-of_z w64 c.updated_in-updated.result (record { sfits = c.updated_in-updated.type_inv }) ∙ c.updated_in-updated.ensures
    ∙ (λ i. updated_at (y i) (used (days_of a.days) (records_of a.b.version (c.bank_of-l.ensures i) a.b.count))) in
    λ i. record { checked = ch i; updated = up i }
