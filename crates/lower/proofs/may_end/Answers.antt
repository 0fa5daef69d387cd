use Rattle.writer.specs.Parts.{whole_of}
use Rattle.lower.proofs.may_end.Goals as goal
use mathlib.Core.Path.{ap, ◌∙◌}
use Rattle.writer.specs.declared.Parts.{Parts}
use Rattle.lower.specs.Lower.{may_end}

pub returns : goal.returns
returns c =
    let w = c.args.w in
    c.may_end_parts.ensures w.sources w.tail ∙ ap (λ (p : Parts). may_end (whole_of w.beginning p w.sources w.tail)) c.parts_of-p.ensures
