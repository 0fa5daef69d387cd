-- A stored key compared part by part. Where it begins with a part, the next one is compared with what is left; where it doesn't, it doesn't
-- begin with the joined parts either.
use mathlib.Core.Path.{◌≡◌, refl, ap, ◌∙◌, sym}
use mathlib.Core.Bool.{Bool, true, false}
use mathlib.Core.List.{List, [], ◌∷◌, ◌++◌, append_assoc, append-nil}
use Prim.Native.Nat.{ℕ, suc, ◌+◌, ◌<◌}
use native.Mathlib.Omega.{arith}
use lib.Dec.{eqb}
use borrow.Author.Tests.{ne_eqb}
use lib.ListN.{length, length-append, take, drop, get_or, take-append-drop}
use Rattle.std.proofs.Common.{Option, Some, None, is_some}
use Rattle.std.proofs.lemmas.List.{append_cancel_left}
use denote.Ref.{Bor}
use Rattle.base.specs.Same.{same}
use Rattle.base.proofs.Same.{same_self, same-means}
use Rattle.key.specs.Layout.{joined}
use Rattle.key.specs.Steps.{Left}
use Rattle.key.proofs.Put.{step, joined-append}

pub then_left : (x s t rest : List ℕ) → x ≡ s ++ rest → (r : Option (Bor (List ℕ))) → Left rest t r → Left x (s ++ t) r
then_left x s t rest e (Some r) h = e ∙ ap (λ (l : List ℕ). s ++ l) h ∙ sym (append_assoc s t r.now)
then_left x s t rest e None h = λ l q. h l (append_cancel_left s rest (t ++ l) (sym e ∙ q ∙ append_assoc s t l))

pub not_left : (x s t : List ℕ) → Left x s None → Left x (s ++ t) None
not_left x s t h l q = h (t ++ l) (q ∙ append_assoc s t l)

-- a loop over the parts, after the first i
module _ {A : Type 0} (g : A → List ℕ) (d : A) (xs : List A) (i : ℕ) (h : i < length xs) (y : A) (e : y ≡ get_or xs i d)
    (x rest : List ℕ) (so_far : x ≡ joined g (take i xs) ++ rest) where
  pub goes_on : (r : List ℕ) → rest ≡ g y ++ r → x ≡ joined g (take (i + 1) xs) ++ r
  goes_on r m =
      so_far ∙ ap (λ (l : List ℕ). joined g (take i xs) ++ l) m
      ∙ sym (append_assoc (joined g (take i xs)) (g y) r)
      ∙ ap (λ (l : List ℕ). l ++ r) (sym (step g d xs i h y e))

  pub stops : Left rest (g y) None → Left x (joined g xs) None
  stops m r q =
      m (joined g (drop (i + 1) xs) ++ r)
      (append_cancel_left (joined g (take i xs)) rest (g y ++ (joined g (drop (i + 1) xs) ++ r))
      (sym so_far ∙ q
      ∙ ap (λ (l : List A). joined g l ++ r) (sym (take-append-drop (i + 1) xs))
      ∙ ap (λ (l : List ℕ). l ++ r) (joined-append g (take (i + 1) xs) (drop (i + 1) xs) ∙ ap (λ (l : List ℕ). l ++ joined g (drop (i + 1) xs)) (step g d xs i h y e))
      ∙ append_assoc (joined g (take i xs) ++ g y) (joined g (drop (i + 1) xs)) r
      ∙ append_assoc (joined g (take i xs)) (g y) (joined g (drop (i + 1) xs) ++ r)))

-- ---- the whole key

module _ (x k : List ℕ) where
  pub not_same : (x ≡ k → ⊥) → false ≡ same x k
  not_same h = go (same x k) refl
    where
      go : (b : Bool) → same x k ≡ b → false ≡ same x k
      go true e = absurd (h (same-means x k e))
      go false e = sym e

  pub is_same : x ≡ k → true ≡ same x k
  is_same e = rw e (sym (same_self k))

  pub differs : Left x k None → false ≡ same x k
  differs h = not_same (λ e. h [] (e ∙ sym (append-nil k)))

pub whole : (x k r : List ℕ) → x ≡ k ++ r → (b : Bool) → b ≡ eqb (length r) 0 → b ≡ same x k
whole x k [] e b h = h ∙ is_same x k (e ∙ append-nil k)
whole x k (y ∷ r) e b h =
    let n : length x ≡ length k + suc (length r) = ap length e ∙ length-append k (y ∷ r) in
    let f : b ≡ false = h ∙ ne_eqb (suc (length r)) 0 (λ z. omega arith) in
    f ∙ not_same x k (λ q. omega (arith, n, ap length q))

-- keys of one length are the same if one begins with the other
pub told : (x k : List ℕ) → length x ≡ length k → (r : Option (Bor (List ℕ))) → Left x k r → (b : Bool) → b ≡ is_some r → b ≡ same x k
told x k e (Some r) h b q =
    let n : length r.now ≡ 0 = omega (arith, e, ap length h ∙ length-append k r.now) in
    q ∙ whole x k r.now h true (rw n refl)
told x k e None h b q = q ∙ differs x k h
