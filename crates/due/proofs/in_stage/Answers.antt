-- Only the stage Due has an operation; in the other three the answer is that none is due, and no operation is done.
use Rattle.flash.specs.Flash.{performed}
use Rattle.writer.specs.Parts.{whole_of, step_with}
use Rattle.due.proofs.in_stage.Goals as goal
use Rattle.writer.specs.declared.PartsStep.{PartsStep}
use mathlib.Core.Path.{sym, ap, ◌∙◌}
use Rattle.writer.specs.declared.Stage.{Stage}
use Rattle.writer.specs.State.{target}
use Rattle.due.specs.Due.{ops_of, step_of}

pub returns-in-Idle : goal.returns-in-Idle
unfolding performed
returns-in-Idle c =
    let a = c.args in
    let h = c.in-Idle.is in (
      λ ss. ap (λ (s : PartsStep). step_with a.b s ss a.tail.now) c.none_due.ensures ∙ sym (ap (step_of a.region.now (whole_of a.b a.p ss a.tail.now)) h),
      sym (ap (λ (x : Stage). performed (target a.b.active) (ops_of a.tail.now x) a.region.now) h),
    )

pub returns-in-HeaderWritten : goal.returns-in-HeaderWritten
unfolding performed
returns-in-HeaderWritten c =
    let a = c.args in
    let h = c.in-HeaderWritten.is in (
      λ ss. ap (λ (s : PartsStep). step_with a.b s ss a.tail.now) c.none_due-in-HeaderWritten.ensures ∙ sym (ap (step_of a.region.now (whole_of a.b a.p ss a.tail.now)) h),
      sym (ap (λ (x : Stage). performed (target a.b.active) (ops_of a.tail.now x) a.region.now) h),
    )

pub returns-in-Committed : goal.returns-in-Committed
unfolding performed
returns-in-Committed c =
    let a = c.args in
    let h = c.in-Committed.is in (
      λ ss. ap (λ (s : PartsStep). step_with a.b s ss a.tail.now) c.none_due-in-Committed.ensures ∙ sym (ap (step_of a.region.now (whole_of a.b a.p ss a.tail.now)) h),
      sym (ap (λ (x : Stage). performed (target a.b.active) (ops_of a.tail.now x) a.region.now) h),
    )
