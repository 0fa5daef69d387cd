-- What the size test gives: a pick has at most 141 bytes, since code or name is empty, and n picks at most 141 n.
use mathlib.Core.Path.{◌≡◌, refl}
use mathlib.Core.Bool.{Bool, true, false}
use mathlib.Core.List.{List, [], ◌∷◌}
use mathlib.Core.Logic.{inl, inr, ⊎_elim}
use Prim.Native.Nat.{ℕ, zero, suc, ◌+◌, ◌-◌, ◌*◌, ◌%◌, ◌≤◌, ◌<◌, Ordering, suc-le-suc, zero-le}
use native.Mathlib.Nat.{not-suc-le-zero}
use native.Mathlib.Numerals.{add-one}
use native.Mathlib.Omega.{arith}
use Rattle.std.proofs.lemmas.Bool.{cases_lt}
use lib.ListN.{length, get_or, length-append}
use borrow.Author.Tests.{leb-true}
use Rattle.base.specs.Number.{pick}
use Rattle.base.proofs.Bools.{both_true}
use Rattle.key.specs.Order.{Text, Pick, pick_order, field_count}
use Rattle.key.specs.Picks.{pick_of, unless_code, firsts, insert_by, insert, distinct, In}
use Rattle.key.specs.Layout.{every, sized, sizes, joined, field, entry, longest_entry}
use Rattle.key.specs.Steps.{Rising, between, Small}
use Rattle.key.proofs.Sort.{sorts}
use Rattle.key.proofs.TextOffsets.{firsts-length, between-length}

second-false : (a : Bool) → pick a false false ≡ false
second-false true = refl
second-false false = refl

module _ (t : ℕ → Bool) where
  pub every-none : every 0 t ≡ true
  unfolding every
  every-none = refl

  pub every_more : (k : ℕ) → every k t ≡ true → t k ≡ true → every (k + 1) t ≡ true
  unfolding every
  every_more k e h = rw (add-one, e, h)

  pub every-not : (n k : ℕ) → k < n → t k ≡ false → every n t ≡ false
  unfolding every
  every-not zero k h e = absurd (not-suc-le-zero h)
  every-not (suc n) k h e =
      ⊎_elim (λ (w : k < n). rw (every-not n k w e)) (λ (w : n ≤ k). let z : k ≡ n = omega arith in rw (← z, e) (second-false (every k t))) (cases_lt k n)

  pub every-at : (n k : ℕ) → every n t ≡ true → k < n → t k ≡ true
  unfolding every
  every-at zero k e h = absurd (not-suc-le-zero h)
  every-at (suc n) k e h =
      let b = both_true (every n t) (t n) e in
      ⊎_elim (λ (w : k < n). every-at n k b.0 w) (λ (w : n ≤ k). let z : k ≡ n = omega arith in rw z b.1) (cases_lt k n)

pub every-same : (t u : ℕ → Bool) (n : ℕ) → ((k : ℕ) → k < n → t k ≡ u k) → every n t ≡ every n u
unfolding every
every-same t u zero e = refl
every-same t u (suc n) e = rw (every-same t u n (λ k h. e k (omega arith)), e n (omega arith))

-- the code or the name is empty
unless-both : (c t : Text) → length c ≤ 16 → length t ≤ 64 → length c + length (unless_code c t) ≤ 64
unless-both [] t hc ht = omega arith
unless-both (x ∷ c) t hc ht = omega arith

module _ (t : ℕ → Text) (n : ℕ) (fits : every (n * field_count) (sized t) ≡ true) where
  within : (k m : ℕ) → k < n * field_count → k % 5 ≡ m → length (t k) ≤ get_or sizes m 0
  within k m h e = rw (← e) (leb-true _ _ (every-at (sized t) (n * field_count) k fits h))

  pub entry-small : Small (pick_of t) n
  unfolding pick_of joined
  entry-small i h =
      let t0 : length (t (i * field_count)) ≤ 8 = within (i * field_count) 0 (omega arith) (omega arith) in
      let t1 : length (t (i * field_count + 1)) ≤ 32 = within (i * field_count + 1) 1 (omega arith) (omega arith) in
      let t2 : length (t (i * field_count + 2)) ≤ 16 = within (i * field_count + 2) 2 (omega arith) (omega arith) in
      let t3 : length (t (i * field_count + 3)) ≤ 32 = within (i * field_count + 3) 3 (omega arith) (omega arith) in
      let t4 : length (t (i * field_count + 4)) ≤ 64 = within (i * field_count + 4) 4 (omega arith) (omega arith) in
      let u = unless-both (t (i * field_count + 2)) (t (i * field_count + 4)) t2 t4 in
      simp length-append (omega arith)

-- how many bytes a pick has, by the offsets of its texts

unless-code : (c t : Text) → 0 < length c → length (unless_code c t) ≡ 0
unless-code [] t h = absurd (omega arith)
unless-code (x ∷ c) t h = refl

unless-none : (c t : Text) → length c ≡ 0 → length (unless_code c t) ≡ length t
unless-none [] t h = refl
unless-none (x ∷ c) t h = absurd (omega arith)

module _ (b : Text) (s : List ℕ) (r : Rising s (length b)) (i : ℕ) (h : i * field_count + field_count < length s) where
  gap : (j n : ℕ) → j + 1 ≡ n → n < length s → (length (between b s j) ≡ get_or s n 0 - get_or s j 0) × (get_or s j 0 ≤ get_or s n 0)
  gap j n e w = rw (← e) (between-length b s j r (omega arith), r.rises j (omega arith))

  pub up : (get_or s (i * field_count) 0 ≤ get_or s (i * field_count + 4) 0) × (get_or s (i * field_count) 0 ≤ get_or s (i * field_count + 5) 0)
  up =
      let g0 = gap (i * field_count) (i * field_count + 1) (omega arith) (omega arith) in
      let g1 = gap (i * field_count + 1) (i * field_count + 2) (omega arith) (omega arith) in
      let g2 = gap (i * field_count + 2) (i * field_count + 3) (omega arith) (omega arith) in
      let g3 = gap (i * field_count + 3) (i * field_count + 4) (omega arith) (omega arith) in
      let g4 = gap (i * field_count + 4) (i * field_count + 5) (omega arith) (omega arith) in
      (omega arith, omega arith)

  pub entry-coded : get_or s (i * field_count + 2) 0 < get_or s (i * field_count + 3) 0 → get_or s (i * field_count + 4) 0 - get_or s (i * field_count) 0 + 5 ≡ length (entry (pick_of (between b s) i))
  unfolding pick_of joined
  entry-coded w =
      let g0 = gap (i * field_count) (i * field_count + 1) (omega arith) (omega arith) in
      let g1 = gap (i * field_count + 1) (i * field_count + 2) (omega arith) (omega arith) in
      let g2 = gap (i * field_count + 2) (i * field_count + 3) (omega arith) (omega arith) in
      let g3 = gap (i * field_count + 3) (i * field_count + 4) (omega arith) (omega arith) in
      let u = unless-code (between b s (i * field_count + 2)) (between b s (i * field_count + 4)) (omega arith) in
      simp length-append (omega arith)

  pub entry-plain : get_or s (i * field_count + 3) 0 ≤ get_or s (i * field_count + 2) 0 → get_or s (i * field_count + 5) 0 - get_or s (i * field_count) 0 + 5 ≡ length (entry (pick_of (between b s) i))
  unfolding pick_of joined
  entry-plain w =
      let g0 = gap (i * field_count) (i * field_count + 1) (omega arith) (omega arith) in
      let g1 = gap (i * field_count + 1) (i * field_count + 2) (omega arith) (omega arith) in
      let g2 = gap (i * field_count + 2) (i * field_count + 3) (omega arith) (omega arith) in
      let g3 = gap (i * field_count + 3) (i * field_count + 4) (omega arith) (omega arith) in
      let g4 = gap (i * field_count + 4) (i * field_count + 5) (omega arith) (omega arith) in
      let u = unless-none (between b s (i * field_count + 2)) (between b s (i * field_count + 4)) (omega arith) in
      simp length-append (omega arith)

of-firsts : (n : ℕ) (f : ℕ → Pick) (x : Pick) → In x (firsts n f) → (i : ℕ) × (i < n) × (x ≡ f i)
unfolding firsts
of-firsts zero f x m = absurd m
of-firsts (suc n) f x m =
    ⊎_elim (λ w. (zero, suc-le-suc zero-le, w))
    (λ w. let t = of-firsts n (λ k. f (suc k)) x w in (suc t.0, suc-le-suc t.1, t.2)) m

all_small : (s : List Pick) → ((p : Pick) → In p s → length (entry p) ≤ longest_entry) → length (joined entry s) ≤ 141 * length s
unfolding joined
all_small [] h = omega arith
all_small (p ∷ s) h =
    let a : length (joined field p) ≤ longest_entry = h p (inl refl) in
    let r = all_small s (λ q m. h q (inr m)) in
    omega (arith, length-append (joined field p) (joined entry s))

pub small : (n : ℕ) (f : ℕ → Pick) → Small f n → length (joined entry (distinct (firsts n f))) ≤ 141 * length (distinct (firsts n f))
small n f h =
    all_small (distinct (firsts n f))
    (λ p m. let t = of-firsts n f p ((sorts (firsts n f)).from p m) in rw t.2 (h t.0 t.1))

-- ---- no more picks than were passed

insert-by-count : (o : Ordering) (p q : Pick) (qs f : List Pick) → length f ≤ suc (length qs) → length (insert_by o p q qs f) ≤ suc (suc (length qs))
insert-by-count Ordering.lt p q qs f h = omega arith
insert-by-count Ordering.eq p q qs f h = omega arith
insert-by-count Ordering.gt p q qs f h = omega arith

insert-count : (p : Pick) (s : List Pick) → length (insert p s) ≤ suc (length s)
unfolding insert
insert-count p [] = omega arith
insert-count p (q ∷ qs) = insert-by-count (pick_order p q) p q qs (insert p qs) (insert-count p qs)

distinct-count : (ps : List Pick) → length (distinct ps) ≤ length ps
unfolding distinct
distinct-count [] = omega arith
distinct-count (p ∷ ps) = let h = distinct-count ps in omega (arith, insert-count p (distinct ps))

pub few : (n : ℕ) (f : ℕ → Pick) → length (distinct (firsts n f)) ≤ n
few n f = omega (arith, distinct-count (firsts n f), firsts-length n f)
