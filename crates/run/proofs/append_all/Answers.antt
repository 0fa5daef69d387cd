use Rattle.run.proofs.append_all.Goals as goal
use Rattle.run.specs.Appends.{appends}
use Rattle.run.proofs.Laws.{joined}

pub returns : goal.returns
returns c =
    let q = c.append_all_parts-q in
    let p = c.parts_of-p in
    let a = c.args in
    joined a.region.now a.w (appends a.bytes.now) p.result q.result q.new.tail c.whole.result q.new.region p.ensures q.ensures c.whole.ensures
