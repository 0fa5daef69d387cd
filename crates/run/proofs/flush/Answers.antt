use Rattle.run.proofs.flush.Goals as goal
use Rattle.run.specs.Appends.{dues}
use Rattle.run.proofs.Laws.{joined}

pub returns : goal.returns
returns c =
    let q = c.flush_parts-q in
    let p = c.parts_of-p in
    let a = c.args in
    joined a.region.now a.w dues p.result q.result a.w.tail c.whole.result q.new.region p.ensures q.ensures c.whole.ensures
