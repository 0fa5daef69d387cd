use Rattle.std.proofs.Common.{List, Bool}
use Rattle.record.specs.declared.Source.{Source}
use Rattle.writer.specs.Parts.{whole_of, step_with}
use Rattle.lower.proofs.table.end.Goals as goal
use mathlib.Core.Path.{ap, ◌∙◌}
use Rattle.writer.specs.declared.Parts.{Parts}
use Rattle.lower.specs.Lower.{end_step}
use Rattle.lower.specs.Sources.{sources_ended}

pub returns : goal.returns
returns c =
    let w = c.args.w in
    let e = c.end_parts-e in
    let p = c.parts_of-p in
    c.step_with.ensures
    ∙ ap (λ (ss : List Source). step_with w.beginning e.result.step ss w.tail) (c.sources_ended-sources.ensures ∙ ap (λ (d : Bool). sources_ended d w.sources p.result.tables e.result.block) c.is_done.ensures)
    ∙ e.ensures.0 w.sources w.tail
    ∙ ap (λ (q : Parts). end_step (whole_of w.beginning q w.sources w.tail)) p.ensures
