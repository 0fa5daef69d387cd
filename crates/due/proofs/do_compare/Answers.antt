use Rattle.std.proofs.Common.{Bool}
use Rattle.writer.specs.Parts.{whole_of, step_with}
use Rattle.due.proofs.do_compare.Goals as goal
use Rattle.writer.specs.declared.PartsStep.{PartsStep}
use mathlib.Core.Path.{ap, ◌∙◌}
use mathlib.Core.Bool.{◌||◌}
use Rattle.writer.specs.State.{did}
use Rattle.due.specs.Due.{with_emptied}
use Rattle.due.proofs.Laws.{compared}

pub returns : goal.returns
returns c =
    let d = c in
    let a = d.args in
    λ ss. ap (λ (s : PartsStep). step_with a.b s ss a.tail.now) c.parts_did.ensures ∙ ap did (c.with_emptied-v.ensures a.b ss a.tail.now ∙ ap (λ (t : Bool). with_emptied (whole_of a.b a.p ss a.tail.now) (a.p.contents.different || t)) d.differs.ensures ∙ compared a.region.now (whole_of a.b a.p ss a.tail.now) a.offset a.n)
