use Rattle.std.proofs.Common.{◌++◌}
use Rattle.run.proofs.flush_append.Goals as goal
use Rattle.run.specs.Appends.{dues, appends}
use Rattle.run.proofs.Laws.{joined}

pub returns : goal.returns
returns c =
    let q = c.flush_append_parts-q in
    let p = c.parts_of-p in
    let a = c.args in
    joined a.region.now a.w (dues ++ appends a.bytes.now) p.result q.result q.new.tail c.whole.result q.new.region p.ensures q.ensures c.whole.ensures
