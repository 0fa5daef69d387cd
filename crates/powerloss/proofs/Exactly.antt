-- An operation is due exactly if the tail is full, or after closing while bytes are unwritten: the test `is_due` says so, and a stage within
-- its ranges agrees with that test.
use mathlib.Core.Path.{◌≡◌, refl, sym, ap, ◌∙◌}
use mathlib.Core.Bool.{Bool, true, false, ◌&&◌, ◌||◌, false≢true}
use mathlib.Core.Logic.{inl, inr}
use mathlib.Core.List.{List, []}
use Prim.Native.Nat.{ℕ}
use native.Mathlib.Omega.{arith}
use borrow.Author.Tests.{eq-eqb, eqb-true, lt-ltb, ltb-true}
use lib.Dec.{ltb, eqb}
use lib.ListN.{length}
use Rattle.base.specs.Number.{pick}
use Rattle.region.specs.Region.{region_size}
use Rattle.base.proofs.Bools.{and_left, and_right}
use Rattle.writer.specs.declared.Operation.TheVariants.{Erase, Write, Compare}
use Rattle.writer.specs.declared.Stage.{Stage}
use Rattle.writer.specs.declared.Stage.TheVariants.{Idle, Due, HeaderWritten, Committed}
use Rattle.writer.specs.declared.Answer.TheVariants.{Done, NoneDue}
use Rattle.writer.specs.declared.Contents.{Contents}
use Rattle.writer.specs.declared.Writer.{Writer}
use Rattle.writer.specs.State.{is_due, operation_ok, in_range, stage_ok, tail_size}
use Rattle.writer.proofs.Laws.{ranged}
use Rattle.due.specs.Due.{ops_of, due_ops, step_of, due_step}
use Rattle.powerloss.specs.History.{is_done}
use Rattle.powerloss.specs.Machine.{found, next_all}
use Rattle.powerloss.proofs.Range.{or-true, true-false, due-ok, headed-end, committed-end, idle-due}
use Rattle.powerloss.proofs.Answers.{empty-due}
use Rattle.powerloss.proofs.Uppers.{inv-found, inv-all}
use Rattle.powerloss.proofs.States.{reached}
use Rattle.powerloss.specs.Ranges.{SomethingDue, Exactly, DueInRange}
use Rattle.powerloss.specs.Operations.{DueExactly}
use Rattle.refusal.specs.declared.Refusal.{Refusal}
use Rattle.writer.specs.declared.Answer.{Answer}
use Rattle.std.specs.Prelude.{Ok, Result}

-- ---- the condition as a test

unwritten-due : (t : Contents) → SomethingDue t → is_due t ≡ true
unfolding is_due
unwritten-due t (inl e) = rw (eq-eqb t.fill tail_size (omega arith))
unwritten-due t (inr h) = rw (h.0, lt-ltb 0 t.fill (omega (arith, h.1))) (or-true (eqb t.fill tail_size))

unwritten-by : (t : Contents) (z : Bool) → eqb t.fill tail_size ≡ z → (z || (t.closed && ltb 0 t.fill)) ≡ true → SomethingDue t
unwritten-by t true f e = inl (omega (arith, eqb-true t.fill tail_size f))
unwritten-by t false f e = inr (and_left t.closed (ltb 0 t.fill) e, omega (arith, ltb-true 0 t.fill (and_right t.closed (ltb 0 t.fill) e)))

due-unwritten : (t : Contents) → is_due t ≡ true → SomethingDue t
unfolding is_due
due-unwritten t e = unwritten-by t (eqb t.fill tail_size) refl e

not-due : (t : Contents) (d : Bool) → is_due t ≡ d → (SomethingDue t → ⊥) → is_due t ≡ false
not-due t true e n = absurd (n (due-unwritten t e))
not-due t false e n = e

-- ---- a stage within its ranges

answer-is : (region : List ℕ) (w : Writer) (c : Bool) (st : Stage) → stage_ok c w.contents st ≡ true → (step_of region w st).answer ≡ pick (is_due w.contents) (Ok Done) (Ok NoneDue)
answer-is region w c Idle k = rw (idle-due c w.contents k)
answer-is region w c (Due o) k = rw (due-ok c w.contents o k).0
answer-is region w c HeaderWritten k = rw (empty-due w.contents (headed-end c w.contents k).empty)
answer-is region w c Committed k = rw (empty-due w.contents (committed-end c w.contents k).empty)

pub compare_ops : (t : Contents) (tail : List ℕ) (st : Stage) → stage_ok true t st ≡ true → ops_of tail st ≡ []
unfolding operation_ok
compare_ops t tail Idle k = refl
compare_ops t tail (Due (Erase n)) k = absurd (false≢true (due-ok true t (Erase n) k).1)
compare_ops t tail (Due (Write a n)) k = absurd (false≢true (due-ok true t (Write a n) k).1)
compare_ops t tail (Due (Compare a n)) k = refl
compare_ops t tail HeaderWritten k = refl
compare_ops t tail Committed k = refl

due-op : (t : Contents) (tail : List ℕ) (st : Stage) → stage_ok false t st ≡ true → is_due t ≡ true → length (ops_of tail st) ≡ 1
unfolding operation_ok
due-op t tail Idle k d = true-false (is_due t) d (idle-due false t k)
due-op t tail (Due (Erase n)) k d = refl
due-op t tail (Due (Write a n)) k d = refl
due-op t tail (Due (Compare a n)) k d = absurd (false≢true (due-ok false t (Compare a n) k).1)
due-op t tail HeaderWritten k d = true-false (is_due t) d (empty-due t (headed-end false t k).empty)
due-op t tail Committed k d = true-false (is_due t) d (empty-due t (committed-end false t k).empty)

no-op : (c : Bool) (t : Contents) (tail : List ℕ) (st : Stage) → stage_ok c t st ≡ true → is_due t ≡ false → ops_of tail st ≡ []
no-op c t tail Idle k d = refl
no-op c t tail (Due o) k d = true-false (is_due t) (due-ok c t o k).0 d
no-op c t tail HeaderWritten k d = refl
no-op c t tail Committed k d = refl

-- ---- the call

is-done : (d : Bool) → ◌≡◌ {A = Result Answer Refusal} (pick d (Ok Done) (Ok NoneDue)) (Ok Done) → d ≡ true
is-done true e = refl
is-done false e = absurd (false≢true (ap is_done e))

module _ (region : List ℕ) (w : Writer) (l : length region ≡ region_size) (r : in_range w ≡ true) where
  ok : stage_ok w.beginning.comparing w.contents w.stage ≡ true
  ok = (ranged w r).stage

  ok_in : (c : Bool) → w.beginning.comparing ≡ c → stage_ok c w.contents w.stage ≡ true
  ok_in c e = ap (λ (x : Bool). stage_ok x w.contents w.stage) (sym e) ∙ ok

  answered : (due_step region w).answer ≡ pick (is_due w.contents) (Ok Done) (Ok NoneDue)
  unfolding due_step
  answered = rw (eq-eqb (length region) region_size l, r) (answer-is region w w.beginning.comparing w.stage ok)

  pub ops-are : due_ops region w ≡ ops_of w.tail w.stage
  unfolding due_ops
  ops-are = rw (eq-eqb (length region) region_size l, r)

  when : (d : Bool) → is_due w.contents ≡ d → (due_step region w).answer ≡ pick d (Ok Done) (Ok NoneDue)
  when d e = answered ∙ ap (λ (x : Bool). pick x (Ok Done) (Ok NoneDue)) e

  exactly : Exactly region w
  exactly =
      record {
        then· = λ h. when true (unwritten-due w.contents h);
        only = λ e. due-unwritten w.contents (is-done (is_due w.contents) (sym answered ∙ e));
        else· = λ n. when false (not-due w.contents (is_due w.contents) refl n);
        never = λ e h. false≢true (ap is_done (sym e ∙ when true (unwritten-due w.contents h)));
        one = λ c h. ap length ops-are ∙ due-op w.contents w.tail w.stage (ok_in false c) (unwritten-due w.contents h);
        nothing = λ n. ops-are ∙ no-op w.beginning.comparing w.contents w.tail w.stage ok (not-due w.contents (is_due w.contents) refl n);
        compares = λ c. ops-are ∙ compare_ops w.contents w.tail w.stage (ok_in true c);
      }

pub due-exactly : DueInRange
due-exactly = exactly

pub reached-exactly : DueExactly
reached-exactly region events l y p w e =
    let r = next_all (found region) events in
    let h = inv-all events (found region) p (inv-found region l y) in
    exactly r.region w h.kept.size (reached region events l y p w e)
