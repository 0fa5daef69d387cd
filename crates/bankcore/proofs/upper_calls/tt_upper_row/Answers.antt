-- The call on the state's parts is the call on the state; a refused row leaves the tail (`upper-left`).
use Rattle.cstate.specs.State.{writer_of}
use Rattle.bankcore.proofs.upper_calls.tt_upper_row.Goals as goal
use mathlib.Core.Path.{refl, sym, ap, ◌∙◌}
use Rattle.writer.specs.declared.Step.{Step}
use Rattle.writer.specs.Parts.{whole_of}
use Rattle.cstate.specs.Answers.{after}
use Rattle.cstate.proofs.Rest.{parts-after}
use Rattle.upper.specs.Upper.{upper_step, upper_region, row}
use Rattle.cstate.specs.Answers.{is_answer}
use Rattle.writer.specs.declared.Writer.{Writer}
use Rattle.upper.proofs.Laws.{upper-left}
use Rattle.bankcore.proofs.Laws.{not_done}

pub returns : goal.returns
unfolding writer_of
returns c =
    let x = c.row_parts-s in
    let p = c.from-p in
    let o = c.from-b in
    let a = c.args in
    let s = a.state in
    let u = row a.texts.now a.lengths.now in
    let f = x.ensures s.sources in
    let w = whole_of o.result p.result s.sources s.tail in
    record {
      value = c.after_parts.ensures
          ∙ parts-after o.result x.result s.sources x.new.tail s (λ e. (refl, ap (λ (t : Step). t.writer.tail) f.0 ∙ ap (λ (v : Writer). v.tail) (upper-left a.region.now w u (not_done (upper_step a.region.now w u).answer (sym (ap (λ (t : Step). is_answer t.answer) f.0) ∙ e)))))
          ∙ ap (λ (t : Step). after t s) (f.0 ∙ (λ i. upper_step a.region.now (whole_of (o.ensures i) (p.ensures i) s.sources s.tail) u));
      region_after = f.1 ∙ (λ i. upper_region a.region.now (whole_of (o.ensures i) (p.ensures i) s.sources s.tail) u);
    }
