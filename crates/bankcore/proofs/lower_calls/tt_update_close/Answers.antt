-- The call on the state's parts is the call on the state, with the state's own sources and tail.
use Rattle.cstate.specs.State.{writer_of}
use Rattle.bankcore.proofs.lower_calls.tt_update_close.Goals as goal
use mathlib.Core.Path.{refl, ap, ◌∙◌}
use Rattle.writer.specs.declared.Step.{Step}
use Rattle.writer.specs.Parts.{whole_of}
use Rattle.cstate.specs.Answers.{after}
use Rattle.cstate.proofs.Rest.{parts-after}
use Rattle.lower.specs.Lower.{close_step}

pub returns : goal.returns
unfolding writer_of
returns c =
    let x = c.close_parts-s in
    let p = c.from-p in
    let o = c.from-b in
    let a = c.args in
    let s = a.state in
    c.after_parts.ensures
    ∙ parts-after o.result x.result s.sources s.tail s (λ e. (refl, refl))
    ∙ ap (λ (t : Step). after t s) (x.ensures s.sources s.tail ∙ (λ i. close_step (whole_of (o.ensures i) (p.ensures i) s.sources s.tail)))
