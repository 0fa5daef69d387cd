-- The call on the state's parts is the call on the state; refused bytes leave the tail (`refused-bytes`).
use Rattle.cstate.specs.State.{writer_of}
use Rattle.bankcore.proofs.lower_calls.tt_update_bytes.Goals as goal
use mathlib.Core.Path.{refl, sym, ap, ◌∙◌}
use Rattle.writer.specs.declared.Step.{Step}
use Rattle.writer.specs.Parts.{whole_of}
use Rattle.cstate.specs.Answers.{after}
use Rattle.cstate.proofs.Rest.{parts-after}
use Rattle.lower.specs.Lower.{bytes_step}
use Rattle.cstate.specs.Answers.{is_answer}
use Rattle.bankcore.proofs.Laws.{refused-bytes}

pub returns : goal.returns
unfolding writer_of
returns c =
    let x = c.append_parts-s in
    let p = c.from-p in
    let o = c.from-b in
    let a = c.args in
    let s = a.state in
    let f = x.ensures s.sources in
    let w = whole_of o.result p.result s.sources s.tail in
    c.after_parts.ensures
    ∙ parts-after o.result x.result s.sources x.new.tail s (λ e. (refl, ap (λ (t : Step). t.writer.tail) f ∙ refused-bytes w a.bytes.now (sym (ap (λ (t : Step). is_answer t.answer) f) ∙ e)))
    ∙ ap (λ (t : Step). after t s) (f ∙ (λ i. bytes_step (whole_of (o.ensures i) (p.ensures i) s.sources s.tail) a.bytes.now))
