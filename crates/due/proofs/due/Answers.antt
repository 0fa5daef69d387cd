-- The call on a whole state is the call on its parts; the sources and the tail stay.
use Rattle.writer.specs.Parts.{whole_of}
use Rattle.due.proofs.due.Goals as goal
use mathlib.Core.Path.{ap, ◌∙◌}
use Rattle.writer.specs.declared.Parts.{Parts}
use Rattle.due.specs.Due.{due_step, due_region}

pub returns : goal.returns
returns c =
    let a = c.args in
    let w = a.w in
    let e = c.parts_of-p.ensures in
    let x = c.due_parts-s.ensures w.sources in (
      c.step_with.ensures ∙ x.0 ∙ ap (λ (p : Parts). due_step a.region.now (whole_of w.beginning p w.sources w.tail)) e,
      x.1 ∙ ap (λ (p : Parts). due_region a.region.now (whole_of w.beginning p w.sources w.tail)) e,
    )
