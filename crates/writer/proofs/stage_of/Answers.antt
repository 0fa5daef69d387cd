use Rattle.std.proofs.Common.{true, false}
use Rattle.writer.proofs.stage_of.Goals as goal
use mathlib.Core.Path.{sym, ap, ◌∙◌}
use Rattle.writer.specs.declared.Stage.TheVariants.{Due}
use Rattle.writer.specs.State.{stage_of}

pub returns-then-is_due : goal.returns-then-is_due
unfolding stage_of
returns-then-is_due c = rw (sym c.is_due.ensures ∙ c.if-is_due.true) (ap Due c.first_due-o.ensures)

pub returns : goal.returns
unfolding stage_of
returns c = rw (sym c.is_due.ensures ∙ c.if-is_due.false)
