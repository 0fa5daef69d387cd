-- The stage stays while an operation is due; else it follows from the contents that are closed.
use Rattle.lower.proofs.begin.with_closed.Goals as goal
use mathlib.Core.Path.{sym, ap, ◌∙◌}
use Rattle.writer.specs.declared.Stage.{Stage}
use Rattle.lower.specs.Lower.{with_closed, closed_contents}

pub returns-then-is_due : goal.returns-then-is_due
unfolding with_closed
returns-then-is_due c = λ ss tail. rw (sym c.is_due.ensures ∙ c.if-is_due.true)

pub returns : goal.returns
unfolding with_closed
returns c =
    λ ss tail.
    let a = c.args in
    rw (sym c.is_due.ensures ∙ c.if-is_due.false)
    (ap (λ (s : Stage). record { stage = s; beginning = a.b; contents = closed_contents a.p.contents; tables = a.p.tables; sources = ss; tail = tail }) c.stage_of-stage.ensures)
