-- One case for each operation: the arm's test is the definition's, which computes once the operation is known.
use Rattle.writer.proofs.operation_ok.Goals as goal
use mathlib.Core.Path.{sym, ap}
use Rattle.writer.specs.State.{operation_ok}

pub returns-in-Erase : goal.returns-in-Erase
unfolding operation_ok
returns-in-Erase c = let a = c.args in sym (ap (operation_ok a.comparing a.t) c.in-Erase.is)

pub returns-in-Write : goal.returns-in-Write
unfolding operation_ok
returns-in-Write c = let a = c.args in sym (ap (operation_ok a.comparing a.t) c.in-Write.is)

pub returns-in-Compare : goal.returns-in-Compare
unfolding operation_ok
returns-in-Compare c = let a = c.args in sym (ap (operation_ok a.comparing a.t) c.in-Compare.is)
