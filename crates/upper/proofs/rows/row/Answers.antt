-- The call on a whole state is the call on its parts and its tail; the sources stay.
use Rattle.writer.specs.Parts.{whole_of, step_with}
use Rattle.upper.proofs.rows.row.Goals as goal
use mathlib.Core.Path.{ap, ◌∙◌}
use Rattle.writer.specs.declared.Parts.{Parts}
use Rattle.upper.specs.Upper.{row, upper_step, upper_region}

pub returns : goal.returns
returns c =
    let d = c.row_parts-s in
    let e = c.parts_of-p.ensures in
    let a = c.args in
    let w = a.w in
    let u = row a.texts.now a.lengths.now in
    let x = d.ensures w.sources in (
      c.step_with.ensures ∙ x.0 ∙ ap (λ (q : Parts). upper_step a.region.now (whole_of w.beginning q w.sources w.tail) u) e,
      x.1 ∙ ap (λ (q : Parts). upper_region a.region.now (whole_of w.beginning q w.sources w.tail) u) e,
    )
