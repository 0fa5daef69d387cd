-- One byte, then what is due, is the first part of the run (`one-fed`).
use Rattle.run.proofs.append_one.Goals as goal
use native.Mathlib.Omega.{arith}
use Rattle.writer.specs.Parts.{whole_of, step_with}
use Rattle.run.proofs.Laws.{one-fed}

pub returns : goal.returns
returns c =
    let q = c.flush_parts-q in
    let s = c.append_parts-s in
    let z = c in
    let a = z.args in
    let t = s.new.tail in
    (omega arith, z.requires, λ ss. one-fed a.region.now (whole_of a.b a.p ss a.tail.now) a.bytes.now z.requires (step_with a.b s.result ss t) (s.ensures ss) (whole_of a.b q.result ss t) q.new.region (q.ensures ss).0 (q.ensures ss).1)
