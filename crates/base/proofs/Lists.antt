-- Lists made of elements of one size: what a loop leaves that fills an array, writes such elements or reads them back. Each law of a loop
-- says that one more turn makes the list for j the one for j + 1.
use mathlib.Core.Path.{◌≡◌, refl, ap, ◌∙◌, sym}
use mathlib.Core.List.{List, [], ◌∷◌, ◌++◌, append_assoc, append-nil}
use Prim.Native.Nat.{ℕ, suc, zero, ◌+◌, ◌*◌, ◌-◌, ◌<◌, ◌≤◌}
use native.Mathlib.Omega.{arith}
use native.Mathlib.Nat.{add-zero, zero-add, suc-add, suc-mul, mul-suc, mul-zero, zero-sub, zero-mul}
use native.Mathlib.Numerals.{add-one, unary_clauses}
use lib.ListN.{length, set, get_or, drop, take, length-append, replicate}
use lib.Seq.{sets, sets-eq, take_at, drop_at, take-suc, length-take-le, set_at, drop-cons, append_snoc, drop-drop, take-take}
use Rattle.std.proofs.lemmas.List.{drop-take}
use Rattle.std.specs.Simd.{first_chunks}
use Rattle.base.specs.Lists.{many, puts, fill}

module _ {A : Type 0} (f : List ℕ → ℕ → A) (step : ℕ) (l : List ℕ) where
  pub length-many : (at n : ℕ) → length (many f step l at n) ≡ n
  unfolding many
  length-many at zero = refl
  length-many at (suc n) = ap suc (length-many (at + step) n)

  -- one more element at the end
  pub many_more : (at n : ℕ) → many f step l at (suc n) ≡ many f step l at n ++ (f l (at + n * step) ∷ [])
  unfolding many
  many_more at zero = let e : at + 0 * step ≡ at = omega arith in rw e
  many_more at (suc n) =
      let e : at + suc n * step ≡ at + step + n * step = omega (arith, suc-mul n step) in
      rw e (ap (λ (t : List A). f l at ∷ t) (many_more (at + step) n))

  -- a turn of a loop that fills
  pub many-set : (at n : ℕ) (d : List A) (z x : A) → n < length d → x ≡ f l (at + n * step)
      → set (many f step l at n ++ drop n d) n x ≡ many f step l at (n + 1) ++ drop (n + 1) d
  many-set at n d z x h e =
      ap (λ (t : List A). set (many f step l at n ++ t) n x) (drop-cons d n z h)
      ∙ set_at (many f step l at n) (get_or d n z) (drop (suc n) d) x n (length-many at n)
      ∙ rw (add-one, many_more at n, e) (sym (append_snoc (many f step l at n) (f l (at + n * step)) (drop (suc n) d)))

pub drop-fill : {A : Type 0} (d : A) (n k : ℕ) → drop k (fill d n) ≡ fill d (n - k)
unfolding fill
drop-fill d n zero = simp unary_clauses
drop-fill d zero (suc k) = rw zero-sub
drop-fill d (suc n) (suc k) = simp unary_clauses (drop-fill d n k)

pub length-fill : {A : Type 0} (d : A) (n : ℕ) → length (fill d n) ≡ n
unfolding fill
length-fill d zero = refl
length-fill d (suc n) = ap suc (length-fill d n)

fill_more : (n : ℕ) → fill {A = ℕ} 0 (suc n) ≡ fill {A = ℕ} 0 n ++ (0 ∷ [])
unfolding fill
fill_more zero = refl
fill_more (suc n) = ap (λ (t : List ℕ). 0 ∷ t) (fill_more n)

pub clear-more : (l : List ℕ) (j : ℕ) → j < length l → set (fill {A = ℕ} 0 j ++ drop j l) j 0 ≡ fill {A = ℕ} 0 (j + 1) ++ drop (j + 1) l
clear-more l j h =
    ap (λ (t : List ℕ). set (fill {A = ℕ} 0 j ++ t) j 0) (drop-cons l j 0 h)
    ∙ set_at (fill {A = ℕ} 0 j) (get_or l j 0) (drop (suc j) l) 0 j (length-fill {A = ℕ} 0 j)
    ∙ rw (add-one, fill_more j) (sym (append_snoc (fill {A = ℕ} 0 j) 0 (drop (suc j) l)))

-- one store after the other equals both at once
pub sets-sets : (l a b : List ℕ) (i : ℕ) → sets (sets l i a) (i + length a) b ≡ sets l i (a ++ b)
sets-sets l [] b i = rw (add-zero i)
sets-sets l (x ∷ a) b i =
    let e : i + suc (length a) ≡ suc i + length a = omega arith in
    rw e (sets-sets (set l i x) a b (suc i))

module _ {A : Type 0} (g : A → List ℕ) (k : ℕ) (each : (x : A) → length (g x) ≡ k) where
  pub length-puts : (xs : List A) → length (puts g xs) ≡ length xs * k
  unfolding puts
  length-puts [] = sym (zero-mul k)
  length-puts (x ∷ xs) = length-append (g x) (puts g xs) ∙ omega (arith, each x, length-puts xs, suc-mul (length xs) k)

  pub puts-append : (xs ys : List A) → puts g (xs ++ ys) ≡ puts g xs ++ puts g ys
  unfolding puts
  puts-append [] ys = refl
  puts-append (x ∷ xs) ys = rw (puts-append xs ys) (sym (append_assoc (g x) (puts g xs) (puts g ys)))

  -- a turn of a loop that writes
  pub puts-more : (xs : List A) (j at : ℕ) (z : A) (l : List ℕ) → j < length xs
      → sets (sets l at (puts g (take j xs))) (at + j * k) (g (get_or xs j z)) ≡ sets l at (puts g (take (j + 1) xs))
  unfolding puts
  puts-more xs j at z l h =
      let n : length (puts g (take j xs)) ≡ j * k = length-puts (take j xs) ∙ ap (λ (m : ℕ). m * k) (length-take-le j xs (omega arith)) in
      rw (← n, add-one, take-suc xs j z h, puts-append) (sets-sets l (puts g (take j xs)) (g (get_or xs j z)) at ∙ rw append-nil)

-- the same for bytes
pub bytes-more : (s : List ℕ) (j at : ℕ) (l : List ℕ) → j < length s → set (sets l at (take j s)) (at + j) (get_or s j 0) ≡ sets l at (take (j + 1) s)
bytes-more s j at l h =
    let n : length (take j s) ≡ j = length-take-le j s (omega arith) in
    let e : sets (sets l at (take j s)) (at + length (take j s)) (get_or s j 0 ∷ []) ≡ sets l at (take j s ++ (get_or s j 0 ∷ [])) = sets-sets l (take j s) (get_or s j 0 ∷ []) at in
    rw (add-one, take-suc s j 0 h) (rw n at e)

pub replicate-fill : {A : Type 0} (d : A) (n : ℕ) → replicate n d ≡ fill d n
unfolding fill
replicate-fill d zero = refl
replicate-fill d (suc n) = ap (λ t. d ∷ t) (replicate-fill d n)

-- what is left of a new array that a loop fills
pub drop-new : {A : Type 0} (d : A) (k n : ℕ) → drop n (replicate k d) ≡ fill d (k - n)
drop-new d k n = ap (drop n) (replicate-fill d k) ∙ drop-fill d k n

-- two stores, the length of the first given as a number
pub next : (l a b : List ℕ) (i k : ℕ) → length a ≡ k → sets (sets l i a) (i + k) b ≡ sets l i (a ++ b)
next l a b i k e = rw (← e) (sets-sets l a b i)

puts-join : {A : Type 0} (g : A → List ℕ) (xs : List A) (x : A) → puts g (xs ++ (x ∷ [])) ≡ puts g xs ++ g x
unfolding puts
puts-join g [] x = append-nil (g x)
puts-join g (y ∷ xs) x = ap (λ (t : List ℕ). g y ++ t) (puts-join g xs x) ∙ sym (append_assoc (g y) (puts g xs) (g x))

-- a turn of a loop that writes, if only the length of what is written so far is known
pub puts-next : {A : Type 0} (g : A → List ℕ) (xs : List A) (j at m : ℕ) (z : A) (l : List ℕ) → j < length xs → length (puts g (take j xs)) ≡ m
    → sets (sets l at (puts g (take j xs))) (at + m) (g (get_or xs j z)) ≡ sets l at (puts g (take (j + 1) xs))
puts-next g xs j at m z l h e = rw (add-one, take-suc xs j z h, puts-join g (take j xs) (get_or xs j z)) (next l (puts g (take j xs)) (g (get_or xs j z)) at m e)

pub length-puts-next : {A : Type 0} (g : A → List ℕ) (xs : List A) (j : ℕ) (z : A) → j < length xs → length (puts g (take (j + 1) xs)) ≡ length (puts g (take j xs)) + length (g (get_or xs j z))
length-puts-next g xs j z h = rw (add-one, take-suc xs j z h, puts-join g (take j xs) (get_or xs j z)) (length-append (puts g (take j xs)) (g (get_or xs j z)))

pub fill-split : {A : Type 0} (d : A) (m n : ℕ) → fill d (m + n) ≡ fill d m ++ fill d n
unfolding fill
fill-split d zero n = ap (fill d) (zero-add n)
fill-split d (suc m) n = rw (suc-add m n) (ap (λ t. d ∷ t) (fill-split d m n))

-- a store in the middle
pub sets-mid : (p x v q : List ℕ) (k : ℕ) → length p ≡ k → length x ≡ length v → sets (p ++ (x ++ q)) k v ≡ p ++ (v ++ q)
sets-mid p x v q k e f =
    let n : length (p ++ (x ++ q)) ≡ k + (length v + length q) = length-append p (x ++ q) ∙ omega (arith, length-append x q) in
    let g : p ++ (x ++ q) ≡ (p ++ x) ++ q = simp append_assoc in
    let d : drop (k + length v) (p ++ (x ++ q)) ≡ q = rw g (drop_at (p ++ x) q (k + length v) (length-append p x ∙ omega arith)) in
    sets-eq v (p ++ (x ++ q)) k (omega arith) ∙ rw (take_at p (x ++ q) k e, d) (append_assoc p v q)

-- what `as_chunks` gives at an index
pub chunk-at : {A : Type 0} (d : List A) (n k : ℕ) (l : List A) (i : ℕ) → i < k → get_or (first_chunks n k l) i d ≡ take n (drop (n * i) l)
chunk-at d n zero l i h = absurd (omega arith)
chunk-at d n (suc k) l zero h = rw (mul-zero n)
chunk-at d n (suc k) l (suc i) h = let g : i < k = omega arith in let e : n * i + n ≡ n + n * i = omega arith in rw (mul-suc n i) (chunk-at d n k (drop n l) i g ∙ ap (take n) (drop-drop (n * i) n l ∙ rw e))

-- a part of a part
pub part-part : {A : Type 0} (m k n i : ℕ) (l : List A) → k + m ≤ n → take m (drop k (take n (drop i l))) ≡ take m (drop (i + k) l)
part-part {A} m k n i l h =
    let e : n ≡ k + (n - k) = omega arith in
    ap (λ (z : ℕ). take m (drop k (take z (drop i l)))) e
    ∙ ap (take m) (drop-take k (n - k) (drop i l))
    ∙ take-take m (n - k) (drop k (drop i l)) (omega arith)
    ∙ ap (take m) (drop-drop k i l)

-- a part of what `as_chunks` gives of a part, at an index
pub chunk-part : {A : Type 0} (d : List A) (m k n j t at i : ℕ) (l : List A) → k + m ≤ n → i < j → n * i + n ≤ t
    → take m (drop k (get_or (first_chunks n j (take t (drop at l))) i d)) ≡ take m (drop (at + (n * i + k)) l)
chunk-part {A} d m k n j t at i l h g b =
    ap (λ (c : List A). take m (drop k c)) (chunk-at d n j (take t (drop at l)) i g)
    ∙ part-part m k n (n * i) (take t (drop at l)) h
    ∙ part-part m (n * i + k) t at l (omega arith)

-- what `as_chunks` gives of the first t elements, at an index
pub chunk-of : {A : Type 0} (d : List A) (n j t i : ℕ) (l : List A) → i < j → n * i + n ≤ t → get_or (first_chunks n j (take t l)) i d ≡ take n (drop (n * i) l)
chunk-of {A} d n j t i l h b = chunk-at d n j (take t l) i h ∙ part-part n (n * i) t 0 l b ∙ ap (λ (k : ℕ). take n (drop k l)) (zero-add (n * i))

-- the same of t elements from `at` on
pub chunk-in : {A : Type 0} (d : List A) (n j t at i : ℕ) (l : List A) → i < j → n * i + n ≤ t
    → get_or (first_chunks n j (take t (drop at l))) i d ≡ take n (drop (at + n * i) l)
chunk-in d n j t at i l h b = chunk-of d n j t i (drop at l) h b ∙ ap (take n) (drop-drop (n * i) at l)
