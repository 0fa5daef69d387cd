-- Out of range it is refused; else the next operation of the writer's parts is that of the writer.
use Rattle.std.proofs.Common.{true, false}
use Rattle.cstate.specs.State.{writer_of}
use Rattle.bankcore.proofs.lower_calls.tt_update_operation.Goals as goal
use mathlib.Core.Path.{sym, ap, ◌∙◌}
use Rattle.writer.specs.Parts.{whole_of}
use Rattle.writer.specs.State.{in_range}
use Rattle.bankcore.specs.Operation.{next_operation, no_operation}
use Rattle.bankcore.proofs.Laws.{out_of_range, within-range}

pub returns-then-not-parts_in_range : goal.returns-then-not-parts_in_range
unfolding in_range writer_of
returns-then-not-parts_in_range c =
    let r = c in
    let p = r.from-p in
    let o = r.from-b in
    let s = r.args.state in
    let h = sym r.parts_in_range.ensures ∙ c.if-not-parts_in_range.true in
    c.no_operation.ensures
    ∙ ap no_operation c.number_u32.ensures
    ∙ sym (out_of_range (writer_of s) (sym (λ i. in_range (whole_of (o.ensures i) (p.ensures i) s.sources s.tail)) ∙ h))

pub returns : goal.returns
unfolding in_range writer_of
returns c =
    let r = c in
    let p = r.from-p in
    let o = r.from-b in
    let s = r.args.state in
    let h = sym r.parts_in_range.ensures ∙ c.if-not-parts_in_range.false in
    c.next_operation.ensures
    ∙ (λ i. next_operation (o.ensures i) (p.ensures i).contents (p.ensures i).stage)
    ∙ sym (within-range (writer_of s) (sym (λ i. in_range (whole_of (o.ensures i) (p.ensures i) s.sources s.tail)) ∙ h))
