use Rattle.std.proofs.Common.{true, false}
use Rattle.cstate.proofs.active_of.Goals as goal
use borrow.Author.Tests.{eq-eqb, ne_eqb}
use Rattle.cstate.specs.State.{active_of}

pub returns-then-active-eq-SOME_ACTIVE : goal.returns-then-active-eq-SOME_ACTIVE
unfolding active_of
returns-then-active-eq-SOME_ACTIVE c = rw (c.if-stage-active.true, eq-eqb _ _ c.if-active-eq-SOME_ACTIVE.true)

pub returns-then-stage-active : goal.returns-then-stage-active
unfolding active_of
returns-then-stage-active c = rw (c.if-stage-active.true, ne_eqb _ _ c.if-active-eq-SOME_ACTIVE.false)

pub returns : goal.returns
unfolding active_of
returns c = rw c.if-stage-active.false
