-- The code's order of texts and picks is the definitions': std's order of two lists is `lex`; and two picks compared text by text, where
-- equal ones leave the rests to compare and the first different one decides.
use mathlib.Core.Path.{◌≡◌, refl, ap, ◌∙◌, sym}
use mathlib.Core.List.{[], ◌∷◌}
use Prim.Native.Nat.compare
use Prim.Native.Nat.{ℕ, zero, suc, ◌+◌, ◌≤◌, ◌<◌, compare, Ordering}
use native.Mathlib.Nat.{le_of_suc-le-suc, not-suc-le-zero}
use native.Mathlib.Numerals.{add-one}
use lib.ListN.{length, drop, get_or, drop_of_length-le}
use lib.Seq.{drop-cons}
use Rattle.std.specs.declared.cmp.Ordering.{Ordering as Answer}
use Rattle.std.specs.declared.cmp.Ordering.TheVariants.{Less, Equal, Greater}
use Rattle.std.specs.Ordering.{nat_cmp, ordering_then, is_ne}
use mathlib.Core.Bool.{true, false, false≢true}
use Rattle.std.specs.Cmp.Lexicographic.{slice_cmp}
use Rattle.std.proofs.lemmas.Cmp.{ranked, by_ranked}
use Rattle.std.proofs.cmp.SliceLoops.{Rest}
use Rattle.key.specs.Order.{or_else, lex, Text, Pick, text_order, pick_order}
use Rattle.key.specs.Steps.{answer_of}
use Rattle.key.proofs.Linear.{flip, numbers}

n-lt : (m n : ℕ) → m < n → compare m n ≡ Ordering.lt
n-lt m zero h = absurd (not-suc-le-zero h)
n-lt zero (suc n) h = compare.zero-suc n
n-lt (suc m) (suc n) h = compare.suc-suc m n ∙ n-lt m n (le_of_suc-le-suc h)

n-gt : (m n : ℕ) → n < m → compare m n ≡ Ordering.gt
n-gt m n h = numbers.turned n m ∙ ap flip (n-lt n m h)

number-answer : (m n : ℕ) → nat_cmp m n ≡ answer_of (compare m n)
number-answer m n =
    by_ranked (m < n) (m ≡ n) (n < m) (nat_cmp m n) (ranked m n (nat_cmp m n) refl)
    (λ e h. e ∙ sym (ap answer_of (n-lt m n h)))
    (λ e h. e ∙ sym (ap answer_of {x = compare m n} {y = Ordering.eq} (rw h (numbers.self n))))
    (λ e h. e ∙ sym (ap answer_of (n-gt m n h)))

pub more_is : (m n : ℕ) → n < m → Greater ≡ nat_cmp m n
more_is m n h = sym (number-answer m n ∙ ap answer_of (n-gt m n h))

pub less_is : (m n : ℕ) → m < n → Less ≡ nat_cmp m n
less_is m n h = sym (number-answer m n ∙ ap answer_of (n-lt m n h))

pub same_is : (n : ℕ) → Equal ≡ nat_cmp n n
same_is n = sym (number-answer n n ∙ ap answer_of (numbers.self n))

then-answer : (o r : Ordering) → ordering_then (answer_of o) (answer_of r) ≡ answer_of (or_else o r)
then-answer Ordering.lt r = refl
then-answer Ordering.eq r = refl
then-answer Ordering.gt r = refl

text-lex : (s t : Text) → slice_cmp nat_cmp s t ≡ answer_of (lex compare s t)
text-lex [] [] = refl
text-lex [] (b ∷ t) = refl
text-lex (a ∷ s) [] = refl
text-lex (a ∷ s) (b ∷ t) = rw (number-answer a b, text-lex s t) (then-answer (compare a b) (lex compare s t))

pub text-answer : (s t : Text) → slice_cmp nat_cmp s t ≡ answer_of (text_order s t)
unfolding text_order
text-answer s t = text-lex s t

-- a byte that differs decides
differing : (o r : Answer) → (o ≡ Equal → ⊥) → ordering_then o r ≡ o
differing Less r h = refl
differing Equal r h = absurd (h refl)
differing Greater r h = refl

pub byte_decides : (s t : Text) (i : ℕ) → i < length s → i < length t → Rest (slice_cmp nat_cmp) s t i → (o : Answer) → o ≡ nat_cmp (get_or s i 0) (get_or t i 0)
    → (o ≡ Equal → ⊥) → o ≡ answer_of (text_order s t)
byte_decides s t i hs ht so_far o here h =
    let rest = slice_cmp nat_cmp (drop (i + 1) s) (drop (i + 1) t) in
    let heads : slice_cmp nat_cmp (drop i s) (drop i t) ≡ ordering_then (nat_cmp (get_or s i 0) (get_or t i 0)) rest = rw (add-one, drop-cons s i 0 hs, drop-cons t i 0 ht) in
    sym (differing o rest h) ∙ ap (λ (k : Answer). ordering_then k rest) here ∙ sym heads ∙ so_far ∙ text-answer s t

-- equal bytes leave the rests to compare
pub byte_goes_on : (s t : Text) (i : ℕ) → i < length s → i < length t → Rest (slice_cmp nat_cmp) s t i → get_or s i 0 ≡ get_or t i 0
    → answer_of (text_order (drop (i + 1) s) (drop (i + 1) t)) ≡ answer_of (text_order s t)
byte_goes_on s t i hs ht so_far e =
    let rest = slice_cmp nat_cmp (drop (i + 1) s) (drop (i + 1) t) in
    let heads : slice_cmp nat_cmp (drop i s) (drop i t) ≡ ordering_then (nat_cmp (get_or s i 0) (get_or t i 0)) rest = rw (add-one, drop-cons s i 0 hs, drop-cons t i 0 ht) in
    let equal : ordering_then (nat_cmp (get_or s i 0) (get_or t i 0)) rest ≡ rest = rw (e, ← same_is (get_or t i 0)) in
    sym (text-answer (drop (i + 1) s) (drop (i + 1) t)) ∙ sym equal ∙ sym heads ∙ so_far ∙ text-answer s t

-- ---- picks, text by text

pub ne-true : (o : Answer) → true ≡ is_ne o → o ≡ Equal → ⊥
ne-true Less h e = cc
ne-true Equal h e = absurd (false≢true (sym h))
ne-true Greater h e = cc

pub ne-false : (o : Answer) → false ≡ is_ne o → o ≡ Equal
ne-false Less h = absurd (false≢true h)
ne-false Equal h = refl
ne-false Greater h = absurd (false≢true h)

heads : (p q : Pick) (f : ℕ) → f < length p → f < length q
    → lex text_order (drop f p) (drop f q) ≡ or_else (text_order (get_or p f []) (get_or q f [])) (lex text_order (drop (f + 1) p) (drop (f + 1) q))
heads p q f hp hq = rw (add-one, drop-cons p f [] hp, drop-cons q f [] hq)

differ : (x r : Ordering) → (answer_of x ≡ Equal → ⊥) → or_else x r ≡ x
differ Ordering.lt r h = refl
differ Ordering.eq r h = absurd (h refl)
differ Ordering.gt r h = refl

agree : (x r : Ordering) → answer_of x ≡ Equal → or_else x r ≡ r
agree Ordering.lt r h = cc
agree Ordering.eq r h = refl
agree Ordering.gt r h = cc

pub all_same : (p q : Pick) (f : ℕ) → length p ≤ f → length q ≤ f → lex text_order p q ≡ lex text_order (drop f p) (drop f q)
    → Equal ≡ answer_of (pick_order p q)
unfolding pick_order
all_same p q f hp hq e =
    let ended : lex text_order (drop f p) (drop f q) ≡ Ordering.eq = rw (drop_of_length-le p hp, drop_of_length-le q hq) in
    sym (ap answer_of (e ∙ ended))

module _ (p q : Pick) (f : ℕ) (o : Answer) (hp : f < length p) (hq : f < length q)
    (so_far : lex text_order p q ≡ lex text_order (drop f p) (drop f q)) (here : o ≡ answer_of (text_order (get_or p f []) (get_or q f []))) where
  pub found : (o ≡ Equal → ⊥) → o ≡ answer_of (pick_order p q)
  unfolding pick_order
  found h =
      here ∙ ap answer_of (sym (so_far ∙ heads p q f hp hq ∙ differ (text_order (get_or p f []) (get_or q f [])) _ (λ e. h (here ∙ e))))

  pub further : o ≡ Equal → lex text_order p q ≡ lex text_order (drop (f + 1) p) (drop (f + 1) q)
  further h = so_far ∙ heads p q f hp hq ∙ agree (text_order (get_or p f []) (get_or q f [])) _ (sym here ∙ h)

  -- the last texts decide where all before them are equal
  pub last_decides : length p ≤ f + 1 → length q ≤ f + 1 → o ≡ answer_of (pick_order p q)
  last_decides ep eq = go o refl
    where
      go : (k : Answer) → o ≡ k → o ≡ answer_of (pick_order p q)
      go Less e = found (λ h. let d : Less ≡ Equal = sym e ∙ h in cc)
      go Equal e = e ∙ all_same p q (f + 1) ep eq (further e)
      go Greater e = found (λ h. let d : Greater ≡ Equal = sym e ∙ h in cc)
