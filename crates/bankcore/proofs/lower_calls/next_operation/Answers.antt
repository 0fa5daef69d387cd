-- One case for each stage.
use Rattle.due.specs.Due as Due
use Rattle.bankcore.proofs.lower_calls.next_operation.Goals as goal
use mathlib.Core.Path.{sym, ap, ◌∙◌}
use Rattle.bankcore.specs.Operation.{next_operation}

pub returns-in-Idle : goal.returns-in-Idle
unfolding next_operation
returns-in-Idle c =
    let a = c.args in
    c.idle_operation.ensures ∙ sym (ap (next_operation a.b a.t) c.in-Idle.is)

pub returns-in-Due : goal.returns-in-Due
unfolding next_operation
returns-in-Due c =
    let a = c.args in
    c.due_operation.ensures ∙ sym (ap (next_operation a.b a.t) c.in-Due.is)

pub returns-in-HeaderWritten : goal.returns-in-HeaderWritten
unfolding next_operation
returns-in-HeaderWritten c =
    let a = c.args in
    c.word_operation.ensures ∙ sym (ap (next_operation a.b a.t) c.in-HeaderWritten.is)

pub returns-in-Committed : goal.returns-in-Committed
unfolding next_operation
returns-in-Committed c =
    let a = c.args in
    c.no_operation.ensures ∙ sym (ap (next_operation a.b a.t) c.in-Committed.is)
