use Rattle.std.proofs.Common.{◌++◌}
use Rattle.run.proofs.flush_append_line.Goals as goal
use Rattle.writer.specs.Parts.{whole_of}
use Rattle.run.specs.Appends.{dues, appends}
use Rattle.run.proofs.Laws.{then-writer, then-region}

pub returns : goal.returns
returns c =
    let z = c.flush_append_parts in
    let s = c.flush_parts-q in
    let a = c.args in
    let r = s.new.region in
    λ ss. (
      then-writer a.region.now (whole_of a.b a.p ss a.tail.now) dues (dues ++ appends a.bytes.now) (whole_of a.b s.result ss a.tail.now) r (s.ensures ss).0 (s.ensures ss).1 (whole_of a.b z.result ss z.new.tail) (z.ensures ss).0,
      then-region a.region.now (whole_of a.b a.p ss a.tail.now) dues (dues ++ appends a.bytes.now) (whole_of a.b s.result ss a.tail.now) r (s.ensures ss).0 (s.ensures ss).1 z.new.region (z.ensures ss).1,
    )
