use Rattle.run.proofs.do_due.Goals as goal
use Rattle.writer.specs.Parts.{whole_of, step_with}
use Rattle.run.proofs.Laws.{one-two}

pub returns : goal.returns
returns c =
    let y = c.flush_two in
    let z = c.due_parts-a in
    let a = c.args in
    λ ss. one-two a.region.now (whole_of a.b a.p ss a.tail.now) (step_with a.b z.result ss a.tail.now) z.new.region (z.ensures ss).0 (z.ensures ss).1 (whole_of a.b y.result ss a.tail.now) y.new.region (y.ensures ss).0 (y.ensures ss).1
