-- One case for each stage: the arm's test is the definition's, which computes once the stage is known.
use Rattle.writer.proofs.stage_ok.Goals as goal
use mathlib.Core.Path.{sym, ap, ◌∙◌}
use mathlib.Core.Bool.{not}
use Rattle.writer.specs.State.{stage_ok}

pub returns-in-Idle : goal.returns-in-Idle
unfolding stage_ok
returns-in-Idle c = let a = c.args in ap not c.is_due.ensures ∙ sym (ap (stage_ok a.comparing a.t) c.in-Idle.is)

pub returns-in-Due : goal.returns-in-Due
unfolding stage_ok
returns-in-Due c = let a = c.args in rw (c.is_due-in-Due.ensures, c.operation_ok.ensures) (sym (ap (stage_ok a.comparing a.t) c.in-Due.is))

pub returns-in-HeaderWritten : goal.returns-in-HeaderWritten
unfolding stage_ok
returns-in-HeaderWritten c = let a = c.args in sym (ap (stage_ok a.comparing a.t) c.in-HeaderWritten.is)

pub returns-in-Committed : goal.returns-in-Committed
unfolding stage_ok
returns-in-Committed c = let a = c.args in sym (ap (stage_ok a.comparing a.t) c.in-Committed.is)
