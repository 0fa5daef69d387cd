-- One case for each guard: the region's length, the state's ranges; then what the stage has due. It holds of whatever sources the state
-- has.
use Rattle.writer.specs.Parts.{whole_of, step_with}
use Rattle.due.proofs.due_parts.Goals as goal
use mathlib.Core.Path.{sym, ap, ◌∙◌}
use native.Mathlib.Omega.{arith}
use Rattle.writer.specs.declared.PartsStep.{PartsStep}
use Rattle.writer.specs.State.{in_range}
use Rattle.due.proofs.Laws.{due-stage, due-turn, due-region, region-stage, region-turn, region-other}

pub returns-then-region-ne-REGION_SIZE : goal.returns-then-region-ne-REGION_SIZE
returns-then-region-ne-REGION_SIZE c =
    λ ss.
    let a = c.args in
    let w = whole_of a.b a.p ss a.tail.now in
    (ap (λ (s : PartsStep). step_with a.b s ss a.tail.now) c.parts_stay.ensures ∙ due-region a.region.now w (λ e. omega arith), region-other a.region.now w (λ e. omega arith))

pub returns-then-not-parts_in_range : goal.returns-then-not-parts_in_range
unfolding in_range
returns-then-not-parts_in_range c =
    λ ss.
    let r = c in
    let a = r.args in
    let w = whole_of a.b a.p ss a.tail.now in
    let h = sym r.parts_in_range.ensures ∙ c.if-not-parts_in_range.true in
    (ap (λ (s : PartsStep). step_with a.b s ss a.tail.now) c.parts_stay-then-not-parts_in_range.ensures ∙ due-turn a.region.now w (omega arith) h, region-turn a.region.now w h)

pub in_stage-requires : goal.in_stage-requires
unfolding in_range
in_stage-requires c =
    let r = c in
    (omega arith, sym r.parts_in_range.ensures ∙ c.if-not-parts_in_range.false)

pub returns : goal.returns
unfolding in_range
returns c =
    λ ss.
    let s = c in
    let r = s in
    let a = r.args in
    let w = whole_of a.b a.p ss a.tail.now in
    let h = sym r.parts_in_range.ensures ∙ s.if-not-parts_in_range.false in
    (s.in_stage.ensures.0 ss ∙ due-stage a.region.now w (omega arith) h, s.in_stage.ensures.1 ∙ region-stage a.region.now w (omega arith) h)
