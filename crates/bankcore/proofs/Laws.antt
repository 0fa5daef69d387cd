-- What C gets back. Sources and tail are returned without looking at the answer. Either way they are the definition's, since a refused call leaves both.
use mathlib.Core.Path.{◌≡◌, refl, sym, ap}
use mathlib.Core.Bool.{Bool, true, false, false≢true}
use mathlib.Core.List.{List}
use Prim.Native.Nat.{ℕ, ◌+◌}
use lib.Dec.{leb}
use lib.ListN.{length, take}
use Rattle.base.specs.Number.{pick}
use Rattle.refusal.specs.declared.Refusal.TheVariants.{Full, Turn}
use Rattle.refusal.specs.Refusal.{number_of}
use Rattle.writer.specs.declared.Writer.{Writer}
use Rattle.writer.specs.declared.Answer.TheVariants.{Done, Appended, NoneDue, Same, Different}
use Rattle.writer.specs.State.{stays, position, is_due, is_done, in_range}
use Rattle.lower.specs.Lower.{may_append, accepted, with_bytes, appended, bytes_step}
use Rattle.cstate.specs.Answers.{is_answer}
use Rattle.bankcore.specs.BankAnswers.{of_bank_row, as_bank_row}
use Rattle.bankcore.specs.RowAnswers.{of_read}
use Rattle.bankcore.specs.Operation.{no_operation, next_operation, operation_of}
use Rattle.region.specs.Region.{capacity}
use Rattle.std.specs.Prelude.{Ok, Err, Some, None, Result, Option}
use Rattle.refusal.specs.declared.Refusal.{Refusal}
use Rattle.rowread.specs.declared.Span.{Span}
use Rattle.writer.specs.declared.Answer.{Answer}

-- a refused call isn't done
pub not_done : (a : Result Answer Refusal) → is_answer a ≡ false → is_done a ≡ false
not_done (Ok Done) e = absurd (false≢true (sym e))
not_done (Ok (Appended n)) e = refl
not_done (Ok NoneDue) e = refl
not_done (Ok Same) e = refl
not_done (Ok Different) e = refl
not_done (Err r) e = refl

module _ (w : Writer) where
  refused-by : (m f d : Bool) (n : ℕ) (v : Writer) → let s = pick m (pick f (pick d (record { answer = Ok (Appended 0); writer = w }) (record { answer = Ok (Appended n); writer = v })) (stays w Full)) (stays w Turn) in is_answer s.answer ≡ false → s.writer.tail ≡ w.tail
  refused-by true true true n v e = refl
  refused-by true true false n v e = absurd (false≢true (sym e))
  refused-by true false d n v e = refl
  refused-by false f d n v e = refl

  -- refused bytes leave the tail
  pub refused-bytes : (xs : List ℕ) → is_answer (bytes_step w xs).answer ≡ false → (bytes_step w xs).writer.tail ≡ w.tail
  unfolding bytes_step appended
  refused-bytes xs e =
      let n = accepted w.contents (length xs) in
      refused-by (may_append w) (leb (position w.contents + length xs) capacity) (is_due w.contents) n (with_bytes w (take n xs)) e

-- a row's numbers are the same for a bank's row
pub as_row : (x : Result (Option Span) Refusal) → as_bank_row (of_read x) ≡ of_bank_row x
as_row (Ok (Some s)) = refl
as_row (Ok None) = refl
as_row (Err r) = refl

-- the next operation: refused out of range, else by the stage
pub out_of_range : (w : Writer) → in_range w ≡ false → operation_of w ≡ no_operation (number_of Turn)
unfolding operation_of
out_of_range w e = ap (λ (b : Bool). pick b (next_operation w.beginning w.contents w.stage) (no_operation (number_of Turn))) e

pub within-range : (w : Writer) → in_range w ≡ true → operation_of w ≡ next_operation w.beginning w.contents w.stage
unfolding operation_of
within-range w e = ap (λ (b : Bool). pick b (next_operation w.beginning w.contents w.stage) (no_operation (number_of Turn))) e
