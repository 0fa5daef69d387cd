-- A byte that differs is passed over, one that is equal ends the search, and past the end nothing is found.
use Rattle.std.proofs.Common.{sym, ◌∙◌, arith}
use Rattle.program.proofs.Search.{passes, found, ends}
use Rattle.program.proofs.text.find.Goals as goal

pub returns-then-s-i : goal.returns-then-s-i
returns-then-s-i c = found c.args.s.now c.loop-i.i c.args.b (omega arith) c.if-s-i.true ∙ c.loop-i.invariant

pub loop-i-preserved : goal.loop-i-preserved
loop-i-preserved c = sym (passes c.args.s.now c.loop-i.i c.args.b (omega arith) c.if-s-i.false) ∙ c.loop-i.invariant

pub returns : goal.returns
returns c = ends c.args.s.now c.loop-i.i c.args.b (omega arith) ∙ c.loop-i.invariant
