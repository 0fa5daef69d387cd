-- With nothing left, the state and region so far are those of the whole run (`fed-all-writer`, `fed-all-region`).
use Rattle.std.proofs.Common.{◌≤◌, length, rules}
use Rattle.writer.specs.Parts.{whole_of}
use Rattle.run.specs.Run.{ran_writer, ran_region}
use Rattle.run.specs.Appends.{appends}
use Rattle.run.proofs.Laws.{fed-all-writer, fed-all-region}
use Rattle.run.proofs.append_all_parts.Goals as goal

pub returns : goal.returns
returns c =
    let a = c.args in
    let l = c.loop-rest in
    let n : length l.rest.now ≤ 0 = search rules in
    let bs = a.bytes.now in
    λ ss. (
      fed-all-writer l.region (whole_of a.b l.q ss l.tail) l.rest.now 0 n (ran_writer a.region.now (whole_of a.b a.p ss a.tail.now) (appends bs)) (l.invariant.2 ss).0,
      fed-all-region l.region (whole_of a.b l.q ss l.tail) l.rest.now 0 n (ran_region a.region.now (whole_of a.b a.p ss a.tail.now) (appends bs)) (l.invariant.2 ss).1,
    )
