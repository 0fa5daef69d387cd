-- Appending takes all bytes offered, or fills the tail, or takes none while an operation is due; and after the second commit call both are
-- refused. By the cases of each call's tests.
use mathlib.Core.Path.{◌≡◌, refl, sym, ap, ◌∙◌}
use mathlib.Core.Bool.{Bool, true, false, ◌&&◌, false≢true, and-false}
use mathlib.Core.Logic.{◌⊎◌, inl, inr}
use mathlib.Core.List.{List}
use Prim.Native.Nat.{ℕ, ◌+◌, ◌-◌}
use native.Mathlib.Omega.{arith}
use borrow.Author.Tests.{eq-eqb, leb-true, leb-false}
use lib.Dec.{leb, eqb}
use lib.ListN.{length, take, length-take}
use Rattle.base.specs.Number.{pick}
use Rattle.base.proofs.Bools.{and_left}
use Rattle.refusal.specs.declared.Refusal.TheVariants.{Region, Full, Turn}
use Rattle.region.specs.Region.{region_size, capacity}
use Rattle.writer.specs.declared.Stage.TheVariants.{Committed}
use Rattle.writer.specs.declared.Answer.TheVariants.{Done, Appended, NoneDue, Same, Different}
use Rattle.writer.specs.declared.Writer.{Writer}
use Rattle.writer.specs.declared.Step.{Step}
use Rattle.writer.specs.State.{position, is_due, in_range, did, stays, tail_size}
use Rattle.writer.proofs.Laws.{ranged, fill-fits}
use Rattle.lower.specs.Lower.{may_append, accepted, with_bytes, appended, bytes_step}
use Rattle.due.specs.Due.{with_stage}
use Rattle.commit.specs.Commit.{is_idle, is_header_written, commit_step, word_step}
use Rattle.powerloss.specs.History.{is_done}
use Rattle.powerloss.specs.Ranges.{AppendsAll, TwoCommits}
use Rattle.std.specs.Prelude.{Ok, Err, Result, Option, ℤ}
use Rattle.refusal.specs.declared.Refusal.{Refusal}
use Rattle.writer.specs.declared.Answer.{Answer}

-- ---- bytes

abbrev count_in : Result Answer Refusal → ℕ
count_in (Ok (Appended n)) = n
count_in (Ok Done) = 0
count_in (Ok NoneDue) = 0
count_in (Ok Same) = 0
count_in (Ok Different) = 0
count_in (Err r) = 0

abbrev is_appended : Result Answer Refusal → Bool
is_appended (Ok (Appended n)) = true
is_appended (Ok Done) = false
is_appended (Ok NoneDue) = false
is_appended (Ok Same) = false
is_appended (Ok Different) = false
is_appended (Err r) = false

abbrev AllOrFull : Writer → List ℕ → ℕ → Step → Type 0
AllOrFull w xs n s = ((is_due w.contents ≡ true) × (n ≡ 0)) ⊎ ((n ≡ length xs) ⊎ (s.writer.contents.fill ≡ tail_size))

abbrev some_bytes : Writer → List ℕ → Step
some_bytes w xs = record { answer = Ok (Appended (accepted w.contents (length xs))); writer = with_bytes w (take (accepted w.contents (length xs)) xs) }

-- the tail has space for all of them, or it is full then
when-appended : (w : Writer) (xs : List ℕ) (n : ℕ) → in_range w ≡ true → (f : Bool) → leb (length xs) (tail_size - w.contents.fill) ≡ f → ◌≡◌ {A = Result Answer Refusal} (Ok (Appended (accepted w.contents (length xs)))) (Ok (Appended n))
    → AllOrFull w xs n (some_bytes w xs)
unfolding with_bytes
when-appended w xs n r true f e = inr (inl (omega (arith, ap count_in e, leb-true (length xs) (tail_size - w.contents.fill) f)))
when-appended w xs n r false f e =
    let l = length-take (accepted w.contents (length xs)) xs in
    inr (inr (omega (arith, l, leb-false (length xs) (tail_size - w.contents.fill) f, fill-fits w.contents (ranged w r).contents)))

when-due : (w : Writer) (xs : List ℕ) (n : ℕ) → in_range w ≡ true → (d : Bool) → is_due w.contents ≡ d
    → (pick {A = Step} d (record { answer = Ok (Appended 0); writer = w }) (some_bytes w xs)).answer ≡ Ok (Appended n)
    → AllOrFull w xs n (pick {A = Step} d (record { answer = Ok (Appended 0); writer = w }) (some_bytes w xs))
when-due w xs n r true d e = inl (d, sym (ap count_in e))
when-due w xs n r false d e = when-appended w xs n r (leb (length xs) (tail_size - w.contents.fill)) refl e

by_tests : (w : Writer) (xs : List ℕ) (n : ℕ) (a f : Bool) → may_append w ≡ a → (pick a (pick f (appended w xs) (stays w Full)) (stays w Turn)).answer ≡ Ok (Appended n)
    → AllOrFull w xs n (pick a (pick f (appended w xs) (stays w Full)) (stays w Turn))
unfolding appended
by_tests w xs n true true a e = when-due w xs n (and_left (in_range w) _ a) (is_due w.contents) refl e
by_tests w xs n true false a e = absurd (false≢true (ap is_appended e))
by_tests w xs n false f a e = absurd (false≢true (ap is_appended e))

pub appends-all : AppendsAll
unfolding bytes_step
appends-all w xs n e = by_tests w xs n (may_append w) (leb (position w.contents + length xs) capacity) refl e

-- ---- commits

second-by : (w : Writer) (a b : Bool) → (pick a (pick b (did (with_stage w Committed)) (stays w Turn)) (stays w Region)).answer ≡ Ok Done
    → (pick a (pick b (did (with_stage w Committed)) (stays w Turn)) (stays w Region)).writer.stage ≡ Committed
second-by w true true e = refl
second-by w true false e = absurd (false≢true (ap is_done e))
second-by w false b e = absurd (false≢true (ap is_done e))

second_call : (region : List ℕ) (w : Writer) → (word_step region w).answer ≡ Ok Done → (word_step region w).writer.stage ≡ Committed
unfolding word_step
second_call region w e = second-by w (eqb (length region) region_size) (in_range w && is_header_written w.stage) e

no-first : (region : List ℕ) (w : Writer) (stamp : Option ℤ) (current : Bool) → length region ≡ region_size → w.stage ≡ Committed → (commit_step region w stamp current).answer ≡ Err Turn
unfolding commit_step
no-first region w stamp current l e =
    let m : (in_range w && (w.contents.closed && is_idle w.stage)) ≡ false =
    ap (λ (x : Bool). in_range w && (w.contents.closed && x)) (ap is_idle e) ∙ ap (λ (x : Bool). in_range w && x) (and-false w.contents.closed) ∙ and-false (in_range w) in
    rw (eq-eqb (length region) region_size l, m)

no_second : (region : List ℕ) (w : Writer) → length region ≡ region_size → w.stage ≡ Committed → (word_step region w).answer ≡ Err Turn
unfolding word_step
no_second region w l e =
    let m : (in_range w && is_header_written w.stage) ≡ false = ap (λ (x : Bool). in_range w && x) (ap is_header_written e) ∙ and-false (in_range w) in
    rw (eq-eqb (length region) region_size l, m)

pub two-commits : TwoCommits
two-commits = record { second = second_call; no_first = no-first; no_second = no_second }
