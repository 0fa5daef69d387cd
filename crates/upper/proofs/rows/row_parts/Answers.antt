-- One case for each guard: region and order; then the row. The open table is one of the eight (`open-fits`). It holds of whatever sources
-- the state has.
use Rattle.std.proofs.Common.{true, false, []}
use Rattle.writer.specs.Parts.{whole_of, step_with}
use Rattle.upper.proofs.rows.row_parts.Goals as goal
use mathlib.Core.Path.{refl, ap, ◌∙◌}
use native.Mathlib.Omega.{arith}
use Rattle.writer.specs.declared.PartsStep.{PartsStep}
use Rattle.upper.specs.Upper.{row}
use Rattle.upper.proofs.Laws.{open-fits, upper-turn, upper-region}
use Rattle.base.proofs.Guards.{one-fails, both_hold}

pub returns-then-region-ne-REGION_SIZE : goal.returns-then-region-ne-REGION_SIZE
returns-then-region-ne-REGION_SIZE c =
    λ ss.
    let a = c.args in
    let d = upper-region a.region.now (whole_of a.b a.p ss a.tail.now) (row a.texts.now a.lengths.now) (λ e. omega arith) in
    (ap (λ (z : PartsStep). step_with a.b z ss a.tail.now) c.parts_stay.ensures ∙ d.0, d.1)

pub returns-then-may_append_parts-is_open : goal.returns-then-may_append_parts-is_open
returns-then-may_append_parts-is_open c =
    λ ss.
    let t = c in
    let o = t in
    let m = o in
    let a = m.args in
    let d = upper-turn a.region.now (whole_of a.b a.p ss a.tail.now) (row a.texts.now a.lengths.now) (omega arith) refl (one-fails (m.may_append_parts.ensures ss a.tail.now) o.is_open.ensures t.if-may_append_parts-is_open.true) in
    (ap (λ (z : PartsStep). step_with a.b z ss a.tail.now) c.parts_stay-then-may_append_parts-is_open.ensures ∙ d.0, d.1)

pub row_in-requires : goal.row_in-requires
row_in-requires c =
    let t = c in
    let o = t in
    let m = o in
    let a = m.args in (
      omega arith,
      λ ss. both_hold (m.may_append_parts.ensures ss a.tail.now) o.is_open.ensures t.if-may_append_parts-is_open.false,
      open-fits (whole_of a.b a.p [] []) (both_hold (m.may_append_parts.ensures [] []) o.is_open.ensures t.if-may_append_parts-is_open.false),
    )
