use Rattle.run.proofs.do_two.Goals as goal
use Rattle.writer.specs.Parts.{whole_of, step_with}
use Rattle.run.proofs.Laws.{two}

pub returns : goal.returns
returns c =
    let y = c.due_parts-d in
    let z = c.due_parts-c in
    let a = c.args in
    λ ss. two a.region.now (whole_of a.b a.p ss a.tail.now) (step_with a.b z.result ss a.tail.now) (step_with a.b y.result ss a.tail.now) z.new.region y.new.region (z.ensures ss).0 (z.ensures ss).1 (y.ensures ss).0 (y.ensures ss).1
