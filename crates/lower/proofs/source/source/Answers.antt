use Rattle.std.proofs.Common.{List, Bool}
use Rattle.record.specs.declared.Source.{Source}
use Rattle.writer.specs.Parts.{whole_of, step_with}
use Rattle.lower.proofs.source.source.Goals as goal
use mathlib.Core.Path.{ap, ◌∙◌}
use Rattle.writer.specs.declared.Parts.{Parts}
use Rattle.lower.specs.Lower.{source_step}
use Rattle.lower.specs.Sources.{sources_with}

pub returns : goal.returns
returns c =
    let a = c.args in
    let w = a.w in
    let r = c.source_parts-r in
    let p = c.parts_of-p in
    c.step_with.ensures
    ∙ ap (λ (ss : List Source). step_with w.beginning r.result ss w.tail) (c.sources_with-sources.ensures ∙ ap (λ (d : Bool). sources_with d w.sources p.result.tables a.s) c.is_done.ensures)
    ∙ r.ensures a.s w.sources w.tail
    ∙ ap (λ (q : Parts). source_step (whole_of w.beginning q w.sources w.tail) a.s) p.ensures
