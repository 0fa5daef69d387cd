-- Runs of lower calls: a run in two parts is one after the other; due calls change nothing in a stage with nothing due; and the loop that
-- appends bytes chunk by chunk has, after i bytes, the rest of the run left.
use mathlib.Core.Path.{◌≡◌, refl, sym, ap, ◌∙◌}
use mathlib.Core.Bool.{Bool, true, false, ◌&&◌}
use mathlib.Core.List.{List, [], ◌∷◌, ◌++◌}
use Prim.Native.Nat.{ℕ, ◌≤◌}
use native.Mathlib.Omega.{arith}
use lib.Dec.{eqb}
use lib.ListN.{length, take, drop, drop_of_length-le}
use Rattle.base.specs.Number.{pick}
use Rattle.refusal.specs.declared.Refusal.TheVariants.{Region, Turn}
use Rattle.region.specs.Region.{region_size}
use Rattle.flash.specs.Flash.{Op, performed}
use Rattle.writer.specs.declared.Stage.{Stage}
use Rattle.writer.specs.declared.Stage.TheVariants.{Idle, Due, HeaderWritten, Committed}
use Rattle.writer.specs.declared.Parts.{Parts}
use Rattle.writer.specs.declared.Writer.{Writer}
use Rattle.writer.specs.Parts.{parts_of, whole_of}
use Rattle.writer.specs.declared.Step.{Step}
use Rattle.writer.specs.State.{stays, in_range, target}
use Rattle.lower.specs.Lower.{bytes_step}
use Rattle.due.specs.Due.{due_step, due_ops, due_region, step_of, ops_of}
use Rattle.run.specs.Run.{Lower, bytes, due, lower_step, lower_ops, lower_region, ran_writer, ran_region}
use Rattle.run.specs.Appends.{dues, appends}
use Rattle.run.specs.PartsRun.{Ran}

-- ---- what is due

-- a stage in which nothing is due
abbrev pub quiet : Stage → Bool
quiet (Due o) = false
quiet Idle = true
quiet HeaderWritten = true
quiet Committed = true

module _ (region : List ℕ) (w : Writer) where
  by-step : (t r : Bool) (s : Stage) → quiet s ≡ true → (pick t (pick r (step_of region w s) (stays w Turn)) (stays w Region)).writer ≡ w
  by-step true true (Due o) e = cc
  by-step true true Idle e = refl
  by-step true true HeaderWritten e = refl
  by-step true true Committed e = refl
  by-step true false s e = refl
  by-step false r s e = refl

  by-ops : (t : Bool) (s : Stage) → quiet s ≡ true → pick t (ops_of w.tail s) [] ≡ []
  by-ops true (Due o) e = cc
  by-ops true Idle e = refl
  by-ops true HeaderWritten e = refl
  by-ops true Committed e = refl
  by-ops false s e = refl

  pub quiet_step : quiet w.stage ≡ true → (due_step region w).writer ≡ w
  unfolding due_step
  quiet_step e = by-step (eqb (length region) region_size) (in_range w) w.stage e

  pub quiet-region : quiet w.stage ≡ true → lower_region region w due ≡ region
  unfolding lower_ops due_ops performed
  quiet-region e = ap (λ (ops : List Op). performed (target w.beginning.active) ops region) (by-ops (eqb (length region) region_size && in_range w) w.stage e)

  -- a due call changes nothing there
  pub quiet-writer : (cs : List Lower) → quiet w.stage ≡ true → ran_writer region w (due ∷ cs) ≡ ran_writer region w cs
  unfolding ran_writer lower_step
  quiet-writer cs e = λ i. ran_writer (quiet-region e i) (quiet_step e i) cs

  pub quiet-ran : (cs : List Lower) → quiet w.stage ≡ true → ran_region region w (due ∷ cs) ≡ ran_region region w cs
  unfolding ran_region lower_step
  quiet-ran cs e = λ i. ran_region (quiet-region e i) (quiet_step e i) cs

  pub quiet-dues-writer : (cs : List Lower) → quiet w.stage ≡ true → ran_writer region w (dues ++ cs) ≡ ran_writer region w cs
  quiet-dues-writer cs e = quiet-writer (due ∷ due ∷ cs) e ∙ quiet-writer (due ∷ cs) e ∙ quiet-writer cs e

  pub quiet-dues-ran : (cs : List Lower) → quiet w.stage ≡ true → ran_region region w (dues ++ cs) ≡ ran_region region w cs
  quiet-dues-ran cs e = quiet-ran (due ∷ due ∷ cs) e ∙ quiet-ran (due ∷ cs) e ∙ quiet-ran cs e

  pub quiet-flush : (s : Stage) → w.stage ≡ s → quiet s ≡ true → (w ≡ ran_writer region w dues) × (region ≡ ran_region region w dues)
  unfolding ran_writer ran_region
  quiet-flush s h e = let q = ap quiet h ∙ e in (sym (quiet-dues-writer [] q), sym (quiet-dues-ran [] q))

  pub quiet-two : (s : Stage) → w.stage ≡ s → quiet s ≡ true → (w ≡ ran_writer region w (due ∷ due ∷ [])) × (region ≡ ran_region region w (due ∷ due ∷ []))
  unfolding ran_writer ran_region
  quiet-two s h e = let q = ap quiet h ∙ e in (sym (quiet-writer (due ∷ []) q ∙ quiet-writer [] q), sym (quiet-ran (due ∷ []) q ∙ quiet-ran [] q))

-- ---- runs

pub ran-append-writer : (xs ys : List Lower) (region : List ℕ) (w : Writer) → ran_writer region w (xs ++ ys) ≡ ran_writer (ran_region region w xs) (ran_writer region w xs) ys
unfolding ran_writer ran_region
ran-append-writer [] ys region w = refl
ran-append-writer (c ∷ xs) ys region w = ran-append-writer xs ys (lower_region region w c) (lower_step region w c).writer

pub ran-append-region : (xs ys : List Lower) (region : List ℕ) (w : Writer) → ran_region region w (xs ++ ys) ≡ ran_region (ran_region region w xs) (ran_writer region w xs) ys
unfolding ran_writer ran_region
ran-append-region [] ys region w = refl
ran-append-region (c ∷ xs) ys region w = ran-append-region xs ys (lower_region region w c) (lower_step region w c).writer

pub appends-append : (xs ys : List ℕ) → appends (xs ++ ys) ≡ appends xs ++ appends ys
unfolding appends
appends-append [] ys = refl
appends-append (x ∷ xs) ys = ap (λ (cs : List Lower). bytes (x ∷ []) ∷ (dues ++ cs)) (appends-append xs ys)

-- a run in two parts
module _ (region : List ℕ) (w : Writer) (xs ys : List Lower) (v : Writer) (r : List ℕ) (a : v ≡ ran_writer region w xs) (b : r ≡ ran_region region w xs) where
  pub then-writer : (u : Writer) → u ≡ ran_writer r v ys → u ≡ ran_writer region w (xs ++ ys)
  then-writer u e = e ∙ (λ i. ran_writer (b i) (a i) ys) ∙ sym (ran-append-writer xs ys region w)

  pub then-region : (u : List ℕ) → u ≡ ran_region r v ys → u ≡ ran_region region w (xs ++ ys)
  then-region u e = e ∙ (λ i. ran_region (b i) (a i) ys) ∙ sym (ran-append-region xs ys region w)

-- due calls
module _ (region : List ℕ) (w : Writer) where
  pub two : (a b : Step) (r₁ r₂ : List ℕ) → a ≡ due_step region w → r₁ ≡ due_region region w → b ≡ due_step r₁ a.writer → r₂ ≡ due_region r₁ a.writer → (b.writer ≡ ran_writer region w (due ∷ due ∷ [])) × (r₂ ≡ ran_region region w (due ∷ due ∷ []))
  unfolding ran_writer ran_region lower_step lower_ops due_region
  two a b r₁ r₂ ea e₁ eb e₂ =
      let wa = ap (λ (s : Step). s.writer) ea in
      (ap (λ (s : Step). s.writer) eb ∙ (λ i. (due_step (e₁ i) (wa i)).writer), e₂ ∙ (λ i. due_region (e₁ i) (wa i)))

  pub one-two : (a : Step) (r₁ : List ℕ) → a ≡ due_step region w → r₁ ≡ due_region region w → (v : Writer) (r : List ℕ) → v ≡ ran_writer r₁ a.writer (due ∷ due ∷ []) → r ≡ ran_region r₁ a.writer (due ∷ due ∷ []) → (v ≡ ran_writer region w dues) × (r ≡ ran_region region w dues)
  unfolding ran_writer ran_region lower_step lower_ops due_region
  one-two a r₁ ea e₁ v r e f =
      let wa = ap (λ (s : Step). s.writer) ea in
      (e ∙ (λ i. ran_writer (e₁ i) (wa i) (due ∷ due ∷ [])), f ∙ (λ i. ran_region (e₁ i) (wa i) (due ∷ due ∷ [])))

-- a byte, then what is due
pub one-fed : (region : List ℕ) (w : Writer) (bs : List ℕ) → 1 ≤ length bs → (s : Step) → s ≡ bytes_step w (take 1 bs) → (v : Writer) (r : List ℕ) → v ≡ ran_writer region s.writer dues → r ≡ ran_region region s.writer dues
    → (ran_writer r v (appends (drop 1 bs)) ≡ ran_writer region w (appends bs)) × (ran_region r v (appends (drop 1 bs)) ≡ ran_region region w (appends bs))
unfolding appends ran_writer ran_region lower_step lower_ops performed
one-fed region w [] h s e v r a b = absurd (omega arith)
one-fed region w (x ∷ xs) h s e v r a b = (
  then-writer region s.writer dues (appends xs) v r a b (ran_writer r v (appends xs)) refl ∙ ap (λ (t : Step). ran_writer region t.writer (dues ++ appends xs)) e,
  then-region region s.writer dues (appends xs) v r a b (ran_region r v (appends xs)) refl ∙ ap (λ (t : Step). ran_region region t.writer (dues ++ appends xs)) e,
)

-- ---- the loop that appends all bytes

module _ (region : List ℕ) (w : Writer) (bs : List ℕ) (i : ℕ) (h : length bs ≤ i) where
  pub fed-all-writer : (x : Writer) → ran_writer region w (appends (drop i bs)) ≡ x → w ≡ x
  unfolding appends ran_writer
  fed-all-writer x e = ap (λ (l : List ℕ). ran_writer region w (appends l)) (sym (drop_of_length-le bs h)) ∙ e

  pub fed-all-region : (x : List ℕ) → ran_region region w (appends (drop i bs)) ≡ x → region ≡ x
  unfolding appends ran_region
  fed-all-region x e = ap (λ (l : List ℕ). ran_region region w (appends l)) (sym (drop_of_length-le bs h)) ∙ e

-- a run on a whole state, by its parts
pub joined : (region : List ℕ) (w : Writer) (cs : List Lower) (p q : Parts) (tail : List ℕ) (v : Writer) (r : List ℕ) → p ≡ parts_of w → Ran region w.beginning p w.tail cs q tail r → v ≡ whole_of w.beginning q w.sources tail
    → (v ≡ ran_writer region w cs) × (r ≡ ran_region region w cs)
joined region w cs p q tail v r e f h =
    let ss = w.sources in
    (h ∙ (f ss).0 ∙ ap (λ (x : Parts). ran_writer region (whole_of w.beginning x ss w.tail) cs) e, (f ss).1 ∙ ap (λ (x : Parts). ran_region region (whole_of w.beginning x ss w.tail) cs) e)
