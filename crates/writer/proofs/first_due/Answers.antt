use Rattle.std.proofs.Common.{true, false}
use Rattle.writer.proofs.first_due.Goals as goal
use borrow.Author.Tests.{eq-eqb, ne_eqb}
use Rattle.writer.specs.State.{first_due}

pub returns-then-comparing : goal.returns-then-comparing
unfolding first_due
returns-then-comparing c = rw c.if-comparing.true

pub returns-then-t-eq0 : goal.returns-then-t-eq0
unfolding first_due
returns-then-t-eq0 c = rw (c.if-comparing.false, eq-eqb _ _ c.if-t-eq0.true)

pub returns : goal.returns
unfolding first_due
returns c = rw (c.if-comparing.false, ne_eqb _ _ c.if-t-eq0.false) c.data_due.ensures
