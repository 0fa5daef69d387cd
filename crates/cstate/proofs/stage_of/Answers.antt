-- One case for each number; any other number is the stage Idle, as in the definition.
use Rattle.std.proofs.Common.{true, false}
use Rattle.cstate.proofs.stage_of.Goals as goal
use borrow.Author.Tests.{eq-eqb, ne_eqb}
use Rattle.cstate.specs.State.{stage_of}

pub returns-then-kind-eq-ERASE_STAGE : goal.returns-then-kind-eq-ERASE_STAGE
unfolding stage_of
returns-then-kind-eq-ERASE_STAGE c = rw (eq-eqb _ _ c.if-kind-eq-ERASE_STAGE.true)

pub returns-then-kind-eq-WRITE_STAGE : goal.returns-then-kind-eq-WRITE_STAGE
unfolding stage_of
returns-then-kind-eq-WRITE_STAGE c = rw (ne_eqb _ _ c.if-kind-eq-ERASE_STAGE.false, eq-eqb _ _ c.if-kind-eq-WRITE_STAGE.true)

pub returns-then-kind-eq-COMPARE_STAGE : goal.returns-then-kind-eq-COMPARE_STAGE
unfolding stage_of
returns-then-kind-eq-COMPARE_STAGE c = rw (ne_eqb _ _ c.if-kind-eq-ERASE_STAGE.false, ne_eqb _ _ c.if-kind-eq-WRITE_STAGE.false, eq-eqb _ _ c.if-kind-eq-COMPARE_STAGE.true)

pub returns-then-kind-eq-HEADER_WRITTEN_STAGE : goal.returns-then-kind-eq-HEADER_WRITTEN_STAGE
unfolding stage_of
returns-then-kind-eq-HEADER_WRITTEN_STAGE c = rw (ne_eqb _ _ c.if-kind-eq-ERASE_STAGE.false, ne_eqb _ _ c.if-kind-eq-WRITE_STAGE.false, ne_eqb _ _ c.if-kind-eq-COMPARE_STAGE.false, eq-eqb _ _ c.if-kind-eq-HEADER_WRITTEN_STAGE.true)

pub returns-then-kind-eq-COMMITTED_STAGE : goal.returns-then-kind-eq-COMMITTED_STAGE
unfolding stage_of
returns-then-kind-eq-COMMITTED_STAGE c = rw (ne_eqb _ _ c.if-kind-eq-ERASE_STAGE.false, ne_eqb _ _ c.if-kind-eq-WRITE_STAGE.false, ne_eqb _ _ c.if-kind-eq-COMPARE_STAGE.false, ne_eqb _ _ c.if-kind-eq-HEADER_WRITTEN_STAGE.false, eq-eqb _ _ c.if-kind-eq-COMMITTED_STAGE.true)

pub returns : goal.returns
unfolding stage_of
returns c = rw (ne_eqb _ _ c.if-kind-eq-ERASE_STAGE.false, ne_eqb _ _ c.if-kind-eq-WRITE_STAGE.false, ne_eqb _ _ c.if-kind-eq-COMPARE_STAGE.false, ne_eqb _ _ c.if-kind-eq-HEADER_WRITTEN_STAGE.false, ne_eqb _ _ c.if-kind-eq-COMMITTED_STAGE.false)
