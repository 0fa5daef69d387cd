-- The call on the state's parts is the call on the state; a refused call leaves the sources (`not_done`).
use Rattle.std.proofs.Common.{Bool, List}
use Rattle.cstate.specs.State.{writer_of}
use Rattle.bankcore.proofs.lower_calls.tt_update_source.Goals as goal
use mathlib.Core.Path.{refl, ap, ◌∙◌}
use Rattle.writer.specs.declared.Step.{Step}
use Rattle.writer.specs.Parts.{whole_of}
use Rattle.cstate.specs.Answers.{after}
use Rattle.cstate.proofs.Rest.{parts-after}
use Rattle.record.specs.declared.Source.{Source}
use Rattle.writer.specs.Parts.{step_with}
use Rattle.bankcore.proofs.Laws.{not_done}
use Rattle.lower.specs.Lower.{source_step}
use Rattle.lower.specs.Sources.{sources_with}

pub returns : goal.returns
unfolding writer_of
returns c =
    let w = c.sources_with-sources in
    let d = c.is_done in
    let x = c.source_parts-s in
    let p = c.from-p in
    let o = c.from-b in
    let r = c.decode-r in
    let s = c.args.state in
    let k : Bool → List Source = λ t. sources_with t s.sources p.result.tables r.result in
    c.after_parts.ensures
    ∙ parts-after o.result x.result w.result s.tail s (λ e. (w.ensures ∙ ap k (d.ensures ∙ not_done x.result.answer e), refl))
    ∙ ap (λ (t : Step). after t s) (ap (λ (ss : List Source). step_with o.result x.result ss s.tail) (w.ensures ∙ ap k d.ensures) ∙ x.ensures r.result s.sources s.tail ∙ (λ i. source_step (whole_of (o.ensures i) (p.ensures i) s.sources s.tail) (r.ensures i)))
