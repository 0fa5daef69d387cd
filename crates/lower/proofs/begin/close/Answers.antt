use Rattle.writer.specs.Parts.{whole_of}
use Rattle.lower.proofs.begin.close.Goals as goal
use mathlib.Core.Path.{ap, ◌∙◌}
use Rattle.writer.specs.declared.Parts.{Parts}
use Rattle.lower.specs.Lower.{close_step}

pub returns : goal.returns
returns c =
    let w = c.args.w in
    c.step_with.ensures ∙ c.close_parts-s.ensures w.sources w.tail ∙ ap (λ (p : Parts). close_step (whole_of w.beginning p w.sources w.tail)) c.parts_of-p.ensures
