-- Sources and tail are set in either case; what the state had of them before doesn't matter (`rest-set`).
use Rattle.cstate.proofs.after_parts.Goals as goal
use mathlib.Core.Path.{ap, ◌∙◌}
use Rattle.cstate.specs.Answers.{is_answer, with_rest}
use Rattle.cstate.proofs.Rest.{rest-set}

pub returns : goal.returns
returns c =
    let a = c.args in
    let v = ap (with_rest a.sources a.tail) c.state_after-v.ensures ∙ rest-set (is_answer a.s.answer) a.b a.s.parts a.state a.sources a.tail in
    λ i. record { numbers = c.from-numbers.ensures i; state = v i }
