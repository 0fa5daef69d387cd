use Rattle.writer.specs.Parts.{whole_of}
use Rattle.lower.proofs.append.bytes.Goals as goal
use mathlib.Core.Path.{ap, ◌∙◌}
use Rattle.writer.specs.declared.Parts.{Parts}
use Rattle.lower.specs.Lower.{bytes_step}

pub returns : goal.returns
returns c =
    let a = c.args in
    let w = a.w in
    c.step_with.ensures ∙ c.append_parts-s.ensures w.sources ∙ ap (λ (p : Parts). bytes_step (whole_of w.beginning p w.sources w.tail) a.offered.now) c.parts_of-p.ensures
