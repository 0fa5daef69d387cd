-- Closed and not compared: the header. Else nothing.
use Rattle.std.proofs.Common.{ℕ, true, false}
use Rattle.bankcore.proofs.lower_calls.idle_operation.Goals as goal
use mathlib.Core.Path.{ap}
use Rattle.header.specs.Header.{header_size}
use Rattle.bankcore.specs.Operation.{idle_operation, operation, operation_header}

pub returns-then-t-b : goal.returns-then-t-b
unfolding idle_operation
returns-then-t-b c = rw c.if-t-b.true (ap (λ (n : ℕ). operation operation_header n 0 header_size) c.target.ensures)

pub returns : goal.returns
unfolding idle_operation
returns c = rw c.if-t-b.false c.no_operation.ensures
