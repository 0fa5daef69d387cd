-- Texts by their offsets: text k is what is between offsets k and k + 1, each at most the end of the bytes. So cutting by offsets gives the
-- texts of the definition, and the fields of a pick.
use mathlib.Core.Path.{◌≡◌, refl, ap, ◌∙◌, sym}
use mathlib.Core.Bool.{Bool, true, false}
use mathlib.Core.List.{List, [], ◌∷◌, ◌++◌}
use mathlib.Core.Logic.{⊎_elim}
use Prim.Native.Nat.{ℕ, zero, suc, ◌+◌, ◌-◌, ◌*◌, ◌≤◌, ◌<◌, min}
use native.Mathlib.Nat.{add_assoc, add-zero, zero-add, not-suc-le-zero, le_of_suc-le-suc}
use native.Mathlib.Numerals.{add-one}
use native.Mathlib.Omega.{arith}
use lib.ListN.{length, take, drop, get_or, drop_of_length-le, length-drop, get_or-eq_default}
use lib.Seq.{take-suc, take_all}
use Rattle.std.proofs.lemmas.Bool.{cases_lt}
use lib.Dec.{leb}
use borrow.Author.Tests.{leb-true, leb-false}
use Rattle.key.specs.Order.{Text, Pick, field_count}
use Rattle.key.specs.Picks.{sum, text, pick_of, firsts}
use Rattle.key.specs.Steps.{offset_of, Offsets, Rising, between}

-- ---- offsets

sum-append : (s t : List ℕ) → sum (s ++ t) ≡ sum s + sum t
unfolding sum
sum-append [] t = sym (zero-add (sum t))
sum-append (n ∷ s) t = rw (sum-append s t) (sym (add_assoc n (sum s) (sum t)))

sum_more : (l : List ℕ) (i : ℕ) → i < length l → sum (take (i + 1) l) ≡ sum (take i l) + get_or l i 0
unfolding sum
sum_more l i h = rw (add-one, take-suc l i 0 h, sum-append (take i l) (get_or l i 0 ∷ [])) (ap (λ (n : ℕ). sum (take i l) + n) (add-zero (get_or l i 0)))

sum_past : (l : List ℕ) (i : ℕ) → length l ≤ i → sum (take (i + 1) l) ≡ sum (take i l) + get_or l i 0
sum_past l i h =
    ap sum (take_all (i + 1) l (omega arith) ∙ sym (take_all i l h))
    ∙ sym (ap (λ (n : ℕ). sum (take i l) + n) (get_or-eq_default l 0 h) ∙ add-zero (sum (take i l)))

sum-next : (l : List ℕ) (i : ℕ) → sum (take (i + 1) l) ≡ sum (take i l) + get_or l i 0
sum-next l i = ⊎_elim (sum_more l i) (sum_past l i) (cases_lt i (length l))

module _ (b : Text) (l : List ℕ) where
  pub offset-none : 0 ≡ offset_of b l 0
  unfolding offset_of sum
  offset-none = omega arith

  pub offset-within : (k : ℕ) → offset_of b l k ≤ length b
  unfolding offset_of
  offset-within k = omega arith

  pub offset-next : (k : ℕ) → offset_of b l (k + 1) ≡ min (length b) (offset_of b l k + get_or l k 0)
  unfolding offset_of
  offset-next k = let e = sum-next l k in omega arith

-- a start past the end is the end
drop_min : (s : Text) (n : ℕ) → drop (min (length s) n) s ≡ drop n s
drop_min s n = go (leb n (length s)) refl
  where
    go : (t : Bool) → leb n (length s) ≡ t → drop (min (length s) n) s ≡ drop n s
    go true e =
        let h : n ≤ length s = leb-true _ _ e in
        let k : min (length s) n ≡ n = omega arith in
        rw k
    go false e =
        let h : length s < n = leb-false _ _ e in
        drop_of_length-le s {i = min (length s) n} (omega arith) ∙ sym (drop_of_length-le s {i = n} (omega arith))

-- a length that reaches past the end gives what there is
take-up-to : (s : Text) (m n : ℕ) → m ≡ min (length s) n → take m s ≡ take n s
take-up-to s m n e =
    ⊎_elim
    (λ (h : n < length s). let k : m ≡ n = omega arith in rw k)
    (λ (h : length s ≤ n). take_all m s (omega arith) ∙ sym (take_all n s h))
    (cases_lt n (length s))

drop-offset : (b : Text) (l : List ℕ) (k : ℕ) → drop (offset_of b l k) b ≡ drop (sum (take k l)) b
unfolding offset_of
drop-offset b l k = drop_min b (sum (take k l))

between-text : (b : Text) (l : List ℕ) (k : ℕ)
    → take (offset_of b l (k + 1) - offset_of b l k) (drop (offset_of b l k) b) ≡ text b l k
unfolding text
between-text b l k =
    take-up-to (drop (offset_of b l k) b) (offset_of b l (k + 1) - offset_of b l k) (get_or l k 0)
    (omega (arith, offset-next b l k, offset-within b l k, length-drop (offset_of b l k) b))
    ∙ ap (take (get_or l k 0)) (drop-offset b l k)

module _ (b : Text) (l : List ℕ) (m : ℕ) (starts : List ℕ) (all : Offsets b l m starts) where
  pub between_is : (k : ℕ) → k < m → between b starts k ≡ text b l k
  unfolding between
  between_is k h = rw (all k (omega arith), all (k + 1) (omega arith)) (between-text b l k)

  pub rising : length starts ≡ m + 1 → Rising starts (length b)
  rising e = record {
    rises = λ k h. omega (arith, all k (omega arith), all (k + 1) (omega arith), offset-next b l k, offset-within b l k);
    within = λ k h. omega (arith, all k (omega arith), offset-within b l k);
  }

pub between-length : (b : Text) (starts : List ℕ) (k : ℕ) → Rising starts (length b) → k + 1 < length starts
    → length (between b starts k) ≡ get_or starts (k + 1) 0 - get_or starts k 0
unfolding between
between-length b starts k r h =
    lib.Seq.length-take-le (get_or starts (k + 1) 0 - get_or starts k 0) (drop (get_or starts k 0) b)
    (omega (arith, length-drop (get_or starts k 0) b, r.rises k h, r.within (k + 1) h))

-- ---- the fields of a pick

module _ (t : ℕ → Text) (i : ℕ) where
  pub five : length (pick_of t i) ≡ 5
  unfolding pick_of
  five = refl

  pub plain : (f : ℕ) → f < 4 → t (i * field_count + f) ≡ get_or (pick_of t i) f []
  unfolding pick_of
  plain zero h = ap t (add-zero (i * field_count))
  plain (suc zero) h = refl
  plain (suc (suc zero)) h = refl
  plain (suc (suc (suc zero))) h = refl
  plain (suc (suc (suc (suc f)))) h = absurd (let k : suc (suc (suc (suc f))) < 4 = h in omega arith)

  pub with_code : (code : Text) → code ≡ t (i * field_count + 2) → 0 < length code → [] ≡ get_or (pick_of t i) 4 []
  unfolding pick_of
  with_code [] e h = absurd (omega arith)
  with_code (x ∷ xs) e h = rw (← e)

  pub no_code : (code : Text) → code ≡ t (i * field_count + 2) → length code ≤ 0 → t (i * field_count + 4) ≡ get_or (pick_of t i) 4 []
  unfolding pick_of
  no_code [] e h = rw (← e)
  no_code (x ∷ xs) e h = absurd (omega arith)

-- ---- the same texts make the same picks

pub pick_same : (t u : ℕ → Text) (n : ℕ) → ((k : ℕ) → k < n * field_count → t k ≡ u k) → (i : ℕ) → i < n → pick_of t i ≡ pick_of u i
unfolding pick_of
pick_same t u n e i h =
    let a : t (i * field_count) ≡ u (i * field_count) = e (i * field_count) (omega arith) in
    let b : t (i * field_count + 1) ≡ u (i * field_count + 1) = e (i * field_count + 1) (omega arith) in
    let c : t (i * field_count + 2) ≡ u (i * field_count + 2) = e (i * field_count + 2) (omega arith) in
    let d : t (i * field_count + 3) ≡ u (i * field_count + 3) = e (i * field_count + 3) (omega arith) in
    let f : t (i * field_count + 4) ≡ u (i * field_count + 4) = e (i * field_count + 4) (omega arith) in
    rw (a, b, c, d, f)

pub firsts_same : (n : ℕ) (f g : ℕ → Pick) → ((i : ℕ) → i < n → f i ≡ g i) → firsts n f ≡ firsts n g
unfolding firsts
firsts_same zero f g e = refl
firsts_same (suc n) f g e = rw (e 0 (omega arith), firsts_same n (λ k. f (suc k)) (λ k. g (suc k)) (λ i h. e (suc i) (omega arith)))

pub firsts-length : (n : ℕ) (f : ℕ → Pick) → length (firsts n f) ≡ n
unfolding firsts
firsts-length zero f = refl
firsts-length (suc n) f = ap suc (firsts-length n (λ k. f (suc k)))

pub firsts_at : (n : ℕ) (f : ℕ → Pick) (i : ℕ) → i < n → get_or (firsts n f) i [] ≡ f i
unfolding firsts
firsts_at zero f i h = absurd (not-suc-le-zero h)
firsts_at (suc n) f zero h = refl
firsts_at (suc n) f (suc i) h = firsts_at n (λ k. f (suc k)) i (le_of_suc-le-suc h)
