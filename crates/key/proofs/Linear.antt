-- The order of picks is linear. It is shown once that `lex` over any linear order is linear, and used twice: for texts over bytes, and for
-- picks over texts.
use mathlib.Core.Path.{◌≡◌, refl, ap, ◌∙◌, sym}
use mathlib.Core.List.{List, [], ◌∷◌}
use Prim.Native.Nat.compare
use Prim.Native.Nat.{ℕ, zero, suc, compare, Ordering}
use Rattle.key.specs.Order.{or_else, lex, text_order, pick_order}

abbrev pub flip : Ordering → Ordering
flip Ordering.lt = Ordering.gt
flip Ordering.eq = Ordering.eq
flip Ordering.gt = Ordering.lt

pub record Linear {A : Type 0} (cmp : A → A → Ordering) : Type 0 where
  pub self : (a : A) → cmp a a ≡ Ordering.eq
  pub same : (a b : A) → cmp a b ≡ Ordering.eq → a ≡ b
  pub turned : (a b : A) → cmp b a ≡ flip (cmp a b)
  pub chain : (a b c : A) → cmp a b ≡ Ordering.lt → cmp b c ≡ Ordering.lt → cmp a c ≡ Ordering.lt

-- ---- numbers

n-self : (n : ℕ) → compare n n ≡ Ordering.eq
n-self zero = compare.zero-zero
n-self (suc n) = compare.suc-suc n n ∙ n-self n

pub no_eq : {A : Type 0} (o : Ordering) → o ≡ Ordering.lt → o ≡ Ordering.eq → A
no_eq o p q = cc

pub no-gt : {A : Type 0} (o : Ordering) → o ≡ Ordering.gt → o ≡ Ordering.eq → A
no-gt o p q = cc

pub no_lt : {A : Type 0} (o : Ordering) → o ≡ Ordering.gt → o ≡ Ordering.lt → A
no_lt o p q = cc

n-same : (m n : ℕ) → compare m n ≡ Ordering.eq → m ≡ n
n-same zero zero e = refl
n-same zero (suc n) e = no_eq _ (compare.zero-suc n) e
n-same (suc m) zero e = no-gt _ (compare.suc-zero m) e
n-same (suc m) (suc n) e = ap suc (n-same m n (sym (compare.suc-suc m n) ∙ e))

n-turned : (m n : ℕ) → compare n m ≡ flip (compare m n)
n-turned zero zero = compare.zero-zero ∙ ap flip (sym compare.zero-zero)
n-turned zero (suc n) = compare.suc-zero n ∙ ap flip (sym (compare.zero-suc n))
n-turned (suc m) zero = compare.zero-suc m ∙ ap flip (sym (compare.suc-zero m))
n-turned (suc m) (suc n) = compare.suc-suc n m ∙ n-turned m n ∙ ap flip (sym (compare.suc-suc m n))

n-chain : (a b c : ℕ) → compare a b ≡ Ordering.lt → compare b c ≡ Ordering.lt → compare a c ≡ Ordering.lt
n-chain zero zero c e f = no_eq _ e compare.zero-zero
n-chain zero (suc b) zero e f = no_lt _ (compare.suc-zero b) f
n-chain zero (suc b) (suc c) e f = compare.zero-suc c
n-chain (suc a) zero c e f = no_lt _ (compare.suc-zero a) e
n-chain (suc a) (suc b) zero e f = no_lt _ (compare.suc-zero b) f
n-chain (suc a) (suc b) (suc c) e f =
    compare.suc-suc a c ∙ n-chain a b c (sym (compare.suc-suc a b) ∙ e) (sym (compare.suc-suc b c) ∙ f)

pub numbers : Linear compare
numbers = record { self = n-self; same = n-same; turned = n-turned; chain = n-chain }

-- ---- lists

split-eq : (o r : Ordering) → or_else o r ≡ Ordering.eq → (o ≡ Ordering.eq) × (r ≡ Ordering.eq)
split-eq Ordering.lt r e = no_eq _ refl e
split-eq Ordering.eq r e = (refl, e)
split-eq Ordering.gt r e = no-gt _ refl e

flip-else : (o r : Ordering) → or_else (flip o) (flip r) ≡ flip (or_else o r)
flip-else Ordering.lt r = refl
flip-else Ordering.eq r = refl
flip-else Ordering.gt r = refl

module _ {A : Type 0} (cmp : A → A → Ordering) (o : Linear cmp) where
  l-self : (s : List A) → lex cmp s s ≡ Ordering.eq
  l-self [] = refl
  l-self (a ∷ s) = rw (o.self a) (l-self s)

  l-same : (s t : List A) → lex cmp s t ≡ Ordering.eq → s ≡ t
  l-same [] [] e = refl
  l-same [] (b ∷ t) e = no_eq _ refl e
  l-same (a ∷ s) [] e = no-gt _ refl e
  l-same (a ∷ s) (b ∷ t) e =
      let h = split-eq (cmp a b) (lex cmp s t) e in
      rw (o.same a b h.0, l-same s t h.1)

  l-turned : (s t : List A) → lex cmp t s ≡ flip (lex cmp s t)
  l-turned [] [] = refl
  l-turned [] (b ∷ t) = refl
  l-turned (a ∷ s) [] = refl
  l-turned (a ∷ s) (b ∷ t) = rw (o.turned a b, l-turned s t) (flip-else (cmp a b) (lex cmp s t))

  step : (a b c : A) (r r' r'' : Ordering) (x y : Ordering) → cmp a b ≡ x → cmp b c ≡ y
      → (r ≡ Ordering.lt → r' ≡ Ordering.lt → r'' ≡ Ordering.lt)
      → or_else x r ≡ Ordering.lt → or_else y r' ≡ Ordering.lt → or_else (cmp a c) r'' ≡ Ordering.lt
  step a b c r r' r'' Ordering.lt Ordering.lt hx hy k e f = rw (o.chain a b c hx hy)
  step a b c r r' r'' Ordering.lt Ordering.eq hx hy k e f = rw (← o.same b c hy, hx)
  step a b c r r' r'' Ordering.eq Ordering.lt hx hy k e f = rw (o.same a b hx, hy)
  step a b c r r' r'' Ordering.eq Ordering.eq hx hy k e f = rw (o.same a b hx, hy) (k e f)
  step a b c r r' r'' Ordering.gt y hx hy k e f = no_lt _ refl e
  step a b c r r' r'' Ordering.lt Ordering.gt hx hy k e f = no_lt _ refl f
  step a b c r r' r'' Ordering.eq Ordering.gt hx hy k e f = no_lt _ refl f

  l-chain : (s t u : List A) → lex cmp s t ≡ Ordering.lt → lex cmp t u ≡ Ordering.lt → lex cmp s u ≡ Ordering.lt
  l-chain [] [] u e f = no_eq _ e refl
  l-chain [] (b ∷ t) [] e f = no_lt _ refl f
  l-chain [] (b ∷ t) (c ∷ u) e f = refl
  l-chain (a ∷ s) [] u e f = no_lt _ refl e
  l-chain (a ∷ s) (b ∷ t) [] e f = no_lt _ refl f
  l-chain (a ∷ s) (b ∷ t) (c ∷ u) e f =
      step a b c (lex cmp s t) (lex cmp t u) (lex cmp s u) (cmp a b) (cmp b c) refl refl (l-chain s t u) e f

  pub lists : Linear (lex cmp)
  lists = record { self = l-self; same = l-same; turned = l-turned; chain = l-chain }

pub on_texts : Linear text_order
unfolding text_order
on_texts = lists compare numbers

pub on-picks : Linear pick_order
unfolding pick_order
on-picks = lists text_order on_texts
