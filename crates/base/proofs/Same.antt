-- `same` is equality of bytes, by induction on both lists. For a loop that compares without leaving early: if nothing differs so far, the
-- result is that of the rests; once a byte differs it is false.
use mathlib.Core.Path.{◌≡◌, refl, ap}
use mathlib.Core.Bool.{Bool, true, false, false≢true}
use mathlib.Core.List.{List, [], ◌∷◌}
use Prim.Native.Nat.{ℕ, ◌<◌}
use native.Mathlib.Omega.{arith}
use lib.ListN.{length}
use lib.Dec.{eqb}
use Rattle.std.specs.Cmp.Lexicographic.{pointwise}
use Rattle.std.specs.Prelude.{nat_eq}
use borrow.Author.Tests.{eqb-true, eq-eqb}
use Rattle.base.specs.Number.{pick}
use Rattle.base.specs.Same.{same, SameIsEqual}
use Rattle.base.proofs.Bools.{both_true}

-- ---- same means equal

pub same_self : (s : List ℕ) → same s s ≡ true
unfolding same
same_self [] = refl
same_self (a ∷ s) = rw (eq-eqb a a refl) (same_self s)

pub same-means : (s t : List ℕ) → same s t ≡ true → s ≡ t
unfolding same
same-means [] [] e = refl
same-means [] (b ∷ t) e = absurd (false≢true e)
same-means (a ∷ s) [] e = absurd (false≢true e)
same-means (a ∷ s) (b ∷ t) e =
    let h = both_true (eqb a b) (same s t) e in
    rw (eqb-true a b h.0, same-means s t h.1)

pub same-is-equal : SameIsEqual
same-is-equal s t = (same-means s t, λ e. rw e (same_self t))

-- ---- std's `==` of slices

pub same-pointwise : (s t : List ℕ) → pointwise nat_eq s t ≡ same s t
unfolding same
same-pointwise [] [] = refl
same-pointwise [] (b ∷ t) = refl
same-pointwise (a ∷ s) [] = refl
same-pointwise (a ∷ s) (b ∷ t) = grind (arith, same-pointwise s t)

-- ---- different lengths

pub shorter : (s t : List ℕ) → length s < length t → same s t ≡ false
unfolding same
shorter [] [] h = absurd (omega arith)
shorter [] (b ∷ t) h = refl
shorter (a ∷ s) [] h = refl
shorter (a ∷ s) (b ∷ t) h = rw (shorter s t (omega arith)) (go (eqb a b))
  where
    go : (c : Bool) → pick c false false ≡ false
    go true = refl
    go false = refl

pub other_length : (x k : List ℕ) → (length x ≡ length k → ⊥) → same x k ≡ false
other_length x k h = go (same x k) refl
  where
    go : (t : Bool) → same x k ≡ t → same x k ≡ false
    go true e = absurd (h (ap length (same-means x k e)))
    go false e = e
