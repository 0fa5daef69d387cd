use Rattle.std.proofs.Common.{sym, ap, ◌∙◌, length, arith}
use Rattle.bloom.proofs.set_all.Goals as goal
use Rattle.bloom.proofs.Bits.{length-bit}
use Rattle.bloom.proofs.Calls.{within-at, visited, all-visited, none-seen, none-set}

pub visit-all-requires : goal.visit-all-requires
visit-all-requires c =
    let h = within-at _ c.args.positions.now c.loop-p.p-index c.requires (omega arith) in
    omega (arith, h, c.loop-p.invariant.same_length)

pub loop-p-preserved : goal.loop-p-preserved
loop-p-preserved c =
    let l = c.loop-p in
    let ps = c.args.positions.now in
    let v = c.visit-all in
    record {
      same_length = ap length v.ensures.1 ∙ length-bit _ _ ∙ l.invariant.same_length;
      answer = visited l.bits ps l.p-index (omega arith) v.new.bits v.ensures.1 l.all _ v.ensures.0 ∙ l.invariant.answer;
      filter = all-visited l.bits ps l.p-index (omega arith) v.new.bits v.ensures.1 ∙ l.invariant.filter;
    }

pub returns : goal.returns
returns c =
    let l = c.loop-p in
    let ps = c.args.positions.now in
    (sym (none-seen l.bits ps l.p-index (omega arith) l.all) ∙ l.invariant.answer, sym (none-set l.bits ps l.p-index (omega arith)) ∙ l.invariant.filter)
