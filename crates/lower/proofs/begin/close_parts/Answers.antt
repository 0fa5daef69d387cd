-- Two cases: closed, or out of order and unchanged.
use Rattle.writer.specs.Parts.{whole_of, step_with}
use Rattle.lower.proofs.begin.close_parts.Goals as goal
use mathlib.Core.Path.{ap, ◌∙◌}
use Rattle.writer.specs.declared.PartsStep.{PartsStep}
use Rattle.writer.specs.State.{did}
use Rattle.base.proofs.Guards.{one-fails-not, both-hold-not}
use Rattle.lower.proofs.Laws.{close-done, close-turn}

pub returns-then-may_append_parts-is_open : goal.returns-then-may_append_parts-is_open
returns-then-may_append_parts-is_open c =
    λ ss tail.
    let a = c.args in
    ap (λ (s : PartsStep). step_with a.b s ss tail) c.parts_stay.ensures ∙ close-turn (whole_of a.b a.p ss tail) (one-fails-not (c.may_append_parts.ensures ss tail) c.is_open.ensures c.if-may_append_parts-is_open.true)

pub returns : goal.returns
returns c =
    λ ss tail.
    let a = c.args in
    ap (λ (s : PartsStep). step_with a.b s ss tail) c.parts_did.ensures ∙ ap did (c.with_closed-q.ensures ss tail) ∙ close-done (whole_of a.b a.p ss tail) (both-hold-not (c.may_append_parts.ensures ss tail) c.is_open.ensures c.if-may_append_parts-is_open.false)
