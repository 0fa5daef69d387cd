use Rattle.std.proofs.Common.{true, false}
use Rattle.writer.proofs.data_due.Goals as goal
use borrow.Author.Tests.{eq-eqb, ne_eqb}
use Rattle.writer.specs.State.{data_due}

pub returns-then-t-eq0 : goal.returns-then-t-eq0
unfolding data_due
returns-then-t-eq0 c = rw (eq-eqb _ _ c.if-t-eq0.true)

pub returns : goal.returns
unfolding data_due
returns c = rw (ne_eqb _ _ c.if-t-eq0.false)
