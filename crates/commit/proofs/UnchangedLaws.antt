-- The call `unchanged`, case by case; and two lists compared element by element: as std compares them, and by index.
use mathlib.Core.Path.{◌≡◌, refl, sym, ap, ◌∙◌}
use mathlib.Core.Bool.{Bool, true, false, ◌&&◌}
use mathlib.Core.List.{List, [], ◌∷◌}
use Prim.Native.Nat.{ℕ, zero, suc, ◌+◌, ◌*◌, ◌≤◌, ◌<◌}
use native.Mathlib.Omega.{arith}
use native.Mathlib.Numerals.{add-one}
use native.Mathlib.Nat.{add-mul, one-mul}
use Rattle.std.specs.List.{list_all, range_with_len}
use Rattle.std.specs.Cmp.Lexicographic.{pointwise}
use lib.ListN.{length, take, drop, get_or}
use lib.Seq.{drop-cons}
use borrow.Author.Tests.{eq-eqb, ne_eqb}
use Rattle.base.specs.Number.{pick}
use Rattle.base.specs.Lists.{many}
use Rattle.refusal.specs.declared.Refusal.TheVariants.{Region, Turn}
use Rattle.region.specs.Region.{region_size}
use Rattle.writer.specs.declared.Writer.{Writer}
use Rattle.writer.specs.declared.Answer.TheVariants.{Same, Different}
use Rattle.writer.specs.State.{stays}
use Rattle.commit.specs.Unchanged.{same_each, is_unchanged, may_ask, unchanged_step}
use Rattle.std.specs.Prelude.{Ok, Result}
use Rattle.refusal.specs.declared.Refusal.{Refusal}
use Rattle.writer.specs.declared.Answer.{Answer}

-- ---- unchanged

module _ (region : List ℕ) (w : Writer) where
  pub asked : (a : Result Answer Refusal) (same : Bool) → length region ≡ region_size → may_ask w ≡ true → same ≡ is_unchanged region w w.beginning.active → a ≡ pick same (Ok Same) (Ok Different)
      → record { answer = a; writer = w } ≡ unchanged_step region w
  unfolding unchanged_step
  asked a same e m s h = rw (eq-eqb (length region) region_size e, m, ← s) (ap (λ (x : Result Answer Refusal). record { answer = x; writer = w }) h)

  pub asked-turn : length region ≡ region_size → may_ask w ≡ false → stays w Turn ≡ unchanged_step region w
  unfolding unchanged_step
  asked-turn e m = rw (eq-eqb (length region) region_size e, m)

  pub asked-region : (length region ≡ region_size → ⊥) → stays w Region ≡ unchanged_step region w
  unfolding unchanged_step
  asked-region e = rw (ne_eqb (length region) region_size e)

-- ---- one by one

no_length : (n : ℕ) → suc n ≡ 0 → ⊥
no_length n e = omega arith

module _ {A : Type 0} (f : A → A → Bool) where
  -- two lists of one length, compared as std compares
  pub same-pointwise : (xs ys : List A) → length xs ≡ length ys → pointwise f xs ys ≡ same_each f xs ys
  unfolding same_each
  same-pointwise [] [] e = refl
  same-pointwise [] (b ∷ ys) e = absurd (no_length (length ys) (sym e))
  same-pointwise (a ∷ xs) [] e = absurd (no_length (length xs) e)
  same-pointwise (a ∷ xs) (b ∷ ys) e = ap (λ t. f a b && t) (same-pointwise xs ys (omega arith))

  -- a list compared with what is read, by index
  pub same-read : (g : List ℕ → ℕ → A) (step : ℕ) (l : List ℕ) (at : ℕ) (xs : List A) (z : A) (k n : ℕ) → k + n ≤ length xs
      → list_all (λ i. f (get_or xs i z) (g l (at + i * step))) (range_with_len k n) ≡ same_each f (take n (drop k xs)) (many g step l (at + k * step) n)
  unfolding same_each many
  same-read g step l at xs z k zero h = refl
  same-read g step l at xs z k (suc n) h =
      let e : at + (k + 1) * step ≡ at + k * step + step = omega (arith, add-mul k 1 step, one-mul step) in
      let lt : k < length xs = omega arith in
      rw (drop-cons xs k z lt)
      (ap (λ t. f (get_or xs k z) (g l (at + k * step)) && t)
      (same-read g step l at xs z (k + 1) n (omega arith)
      ∙ ap (λ (m : ℕ). same_each f (take n (drop (k + 1) xs)) (many g step l m n)) e
      ∙ ap (λ (m : ℕ). same_each f (take n (drop m xs)) (many g step l (at + k * step + step) n)) (add-one k)))
