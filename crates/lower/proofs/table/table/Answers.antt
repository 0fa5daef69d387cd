use Rattle.writer.specs.Parts.{whole_of}
use Rattle.lower.proofs.table.table.Goals as goal
use mathlib.Core.Path.{ap, ◌∙◌}
use Rattle.writer.specs.declared.Parts.{Parts}
use Rattle.lower.specs.Lower.{table_step}

pub returns : goal.returns
returns c =
    let a = c.args in
    let w = a.w in
    c.step_with.ensures ∙ c.table_parts-s.ensures w.sources w.tail ∙ ap (λ (p : Parts). table_step (whole_of w.beginning p w.sources w.tail) a.table) c.parts_of-p.ensures
