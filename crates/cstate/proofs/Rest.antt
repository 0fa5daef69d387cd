-- What a call on parts gives back is what the call gives back, if a refused one leaves the state's own sources and tail.
use mathlib.Core.Path.{◌≡◌, refl}
use mathlib.Core.Bool.{Bool, true, false}
use mathlib.Core.List.{List}
use Prim.Native.Nat.{ℕ}
use Rattle.base.specs.Number.{pick}
use Rattle.record.specs.declared.Source.{Source}
use Rattle.writer.specs.declared.Beginning.{Beginning}
use Rattle.writer.specs.declared.Parts.{Parts}
use Rattle.writer.specs.declared.PartsStep.{PartsStep}
use Rattle.writer.specs.Parts.{whole_of, step_with}
use Rattle.cstate.specs.declared.State.{State}
use Rattle.cstate.specs.State.{saved_of}
use Rattle.cstate.specs.Answers.{is_answer, of_answer, with_rest, after, after_parts}

-- a state by its parts, whatever sources and tail it had before they are set
pub rest-set : (t : Bool) (b : Beginning) (p : Parts) (was : State) (ss : List Source) (tail : List ℕ)
    → with_rest ss tail (pick t (saved_of (whole_of b p was.sources was.tail)) was) ≡ with_rest ss tail (pick t (saved_of (whole_of b p ss tail)) was)
unfolding saved_of
rest-set true b p was ss tail = refl
rest-set false b p was ss tail = refl

rest-kept : (t : Bool) (b : Beginning) (p : Parts) (was : State) (ss : List Source) (tail : List ℕ) → (t ≡ false → (ss ≡ was.sources) × (tail ≡ was.tail))
    → with_rest ss tail (pick t (saved_of (whole_of b p ss tail)) was) ≡ pick t (saved_of (whole_of b p ss tail)) was
unfolding saved_of
rest-kept true b p was ss tail e = refl
rest-kept false b p was ss tail e = λ i. with_rest ((e refl).0 i) ((e refl).1 i) was

pub parts-after : (b : Beginning) (s : PartsStep) (ss : List Source) (tail : List ℕ) (was : State) → (is_answer s.answer ≡ false → (ss ≡ was.sources) × (tail ≡ was.tail)) → after_parts b s ss tail was ≡ after (step_with b s ss tail) was
parts-after b s ss tail was e = λ i. record { numbers = of_answer s.answer; state = rest-kept (is_answer s.answer) b s.parts was ss tail e i }
