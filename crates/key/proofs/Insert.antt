-- A pick inserted into the sorted ones: the search finds the first one that isn't below it, and moving the rest up by one gives the
-- definition's `insert`. Adding the picks from the last to the first gives `distinct`.
use mathlib.Core.Path.{◌≡◌, refl, ap, ◌∙◌, sym}
use mathlib.Core.List.{List, [], ◌∷◌, ◌++◌, map, append_assoc}
use Prim.Native.Nat.{ℕ, zero, suc, ◌+◌, ◌-◌, ◌≤◌, ◌<◌, Ordering}
use native.Mathlib.Nat.{not-suc-le-zero, le_of_suc-le-suc}
use native.Mathlib.Numerals.{add-one}
use native.Mathlib.Omega.{arith}
use lib.ListN.{length, take, drop, get_or, set, length-append, length-map, length-take, length-drop, drop_of_length-le, take-append-drop}
use Rattle.std.proofs.lemmas.List.{map-append, take-map, drop-map, take_at, set_at, drop-take}
use lib.Seq.{paste, take-suc, take-take, drop-cons, length-take-le, append_snoc}
use Rattle.key.specs.Order.{Pick, pick_order}
use Rattle.key.specs.Picks.{insert_by, insert, distinct, firsts}
use Rattle.std.proofs.Common.{Some, None}
use Rattle.std.specs.declared.cmp.Ordering.{Ordering as Answer}
use Rattle.std.specs.declared.cmp.Ordering.TheVariants.{Less, Equal, Greater}
use Rattle.key.specs.Steps.{answer_of, Goes, Ordered, Below}
use Rattle.key.proofs.TextOffsets.{firsts-length, firsts_at}

is_lt : (o : Ordering) → answer_of o ≡ Less → o ≡ Ordering.lt
is_lt Ordering.lt h = refl
is_lt Ordering.eq h = cc
is_lt Ordering.gt h = cc

is_eq : (o : Ordering) → answer_of o ≡ Equal → o ≡ Ordering.eq
is_eq Ordering.lt h = cc
is_eq Ordering.eq h = refl
is_eq Ordering.gt h = cc

is_gt : (o : Ordering) → answer_of o ≡ Greater → o ≡ Ordering.gt
is_gt Ordering.lt h = cc
is_gt Ordering.eq h = cc
is_gt Ordering.gt h = refl

-- ---- the search for the index

module _ (p : Pick) (s : List Pick) (k : ℕ) (so_far : insert p s ≡ take k s ++ insert p (drop k s)) where
  pub goes_end : length s ≤ k → k ≤ length s → Goes p s (Some k)
  unfolding insert
  goes_end h g = (g, so_far ∙ rw (drop_of_length-le s h))

  module _ (h : k < length s) (q : Pick) (e : q ≡ get_or s k []) (o : Answer) (c : o ≡ answer_of (pick_order p q)) where
    here : drop k s ≡ q ∷ drop (suc k) s
    here = drop-cons s k [] h ∙ ap (λ (x : Pick). x ∷ drop (suc k) s) (sym e)

    there : (w : Ordering) → pick_order p q ≡ w → insert p s ≡ take k s ++ insert_by w p q (drop (suc k) s) (insert p (drop (suc k) s))
    unfolding insert
    there w d = so_far ∙ ap (λ (r : List Pick). take k s ++ insert p r) here ∙ rw d

    pub goes_before : o ≡ Less → Goes p s (Some k)
    goes_before z = (omega arith, there Ordering.lt (is_lt _ (sym c ∙ z)) ∙ ap (λ (r : List Pick). take k s ++ p ∷ r) (sym here))

    pub goes-nowhere : o ≡ Equal → Goes p s None
    goes-nowhere z = there Ordering.eq (is_eq _ (sym c ∙ z)) ∙ ap (λ (r : List Pick). take k s ++ r) (sym here) ∙ take-append-drop k s

    pub goes_on : o ≡ Greater → insert p s ≡ take (k + 1) s ++ insert p (drop (k + 1) s)
    goes_on z =
        there Ordering.gt (is_gt _ (sym c ∙ z))
        ∙ sym (append_snoc (take k s) q (insert p (drop (suc k) s)))
        ∙ rw (add-one, take-suc s k [] h, e)

-- ---- numbers below n

module _ (n : ℕ) where
  pub below_at : (s : List ℕ) (k : ℕ) → Below n s → k < length s → get_or s k 0 < n
  below_at [] k b h = absurd (not-suc-le-zero h)
  below_at (x ∷ s) zero b h = b.0
  below_at (x ∷ s) (suc k) b h = below_at s k b.1 (le_of_suc-le-suc h)

  below-append : (s t : List ℕ) → Below n s → Below n t → Below n (s ++ t)
  below-append [] t b d = d
  below-append (x ∷ s) t b d = (b.0, below-append s t b.1 d)

  below-take : (k : ℕ) (s : List ℕ) → Below n s → Below n (take k s)
  below-take zero s b = tt
  below-take (suc k) [] b = tt
  below-take (suc k) (x ∷ s) b = (b.0, below-take k s b.1)

  below-drop : (k : ℕ) (s : List ℕ) → Below n s → Below n (drop k s)
  below-drop zero s b = b
  below-drop (suc k) [] b = tt
  below-drop (suc k) (x ∷ s) b = below-drop k s b.1

-- ---- a number inserted into a list

abbrev pub put_in : ℕ → ℕ → List ℕ → List ℕ
put_in k v x = take k x ++ v ∷ drop k x

-- those from k on moved by one, and v written at k
pub moved : (a : List ℕ) (k m v : ℕ) → k ≤ m → m < length a → take (m + 1) (set (paste a (k + 1) (drop k a) (m - k)) k v) ≡ put_in k v (take m a)
moved a k m v h w =
    let before = length-take-le k a (omega arith) in
    let T : List ℕ = take (m - k) (drop k a) in
    let D : List ℕ = drop (k + 1 + (m - k)) a in
    let long : length T ≡ m - k = length-take-le (m - k) (drop k a) (omega (arith, length-drop k a)) in
    let front : take (k + 1) a ≡ take k a ++ get_or a k 0 ∷ [] = rw (add-one) (take-suc a k 0 (omega arith)) in
    let pasted : paste a (k + 1) (drop k a) (m - k) ≡ take k a ++ get_or a k 0 ∷ (T ++ D) =
    ap (λ (l : List ℕ). l ++ T ++ D) front ∙ append_assoc (take k a ++ get_or a k 0 ∷ []) T D ∙ append_assoc (take k a) (get_or a k 0 ∷ []) (T ++ D) in
    let there : set (paste a (k + 1) (drop k a) (m - k)) k v ≡ (take k a ++ v ∷ T) ++ D =
    ap (λ (l : List ℕ). set l k v) pasted ∙ set_at (take k a) (get_or a k 0) (T ++ D) v k before ∙ sym (append_assoc (take k a) (v ∷ T) D) in
    let whole : take (m + 1) ((take k a ++ v ∷ T) ++ D) ≡ take k a ++ v ∷ T = take_at (take k a ++ v ∷ T) D (m + 1) (omega (arith, length-append (take k a) (v ∷ T))) in
    let rest : drop k (take m a) ≡ T = let e : k + (m - k) ≡ m = omega arith in rw (drop-take k (m - k) a) at (ap (λ (n : ℕ). drop k (take n a)) (sym e)) in
    ap (take (m + 1)) there ∙ whole ∙ sym (rw (take-take k m a h, rest))

-- ---- the picks that the numbers mean

module _ (f : ℕ → Pick) where
  pub map_at : (s : List ℕ) (k : ℕ) → k < length s → f (get_or s k 0) ≡ get_or (map f s) k []
  map_at [] k h = absurd (not-suc-le-zero h)
  map_at (x ∷ s) zero h = refl
  map_at (x ∷ s) (suc k) h = map_at s k (le_of_suc-le-suc h)

  map-put : (k v : ℕ) (x : List ℕ) → map f (put_in k v x) ≡ take k (map f x) ++ f v ∷ drop k (map f x)
  map-put k v x = map-append f (take k x) (v ∷ drop k x) ∙ rw (← take-map f k x, ← drop-map f k x)

  module _ (n i m : ℕ) (order : List ℕ) (hi : i < n) (inside : m < length order) (b : Below n (take m order)) where
    pub goes_in : (k : ℕ) (order' : List ℕ) → Goes (f i) (map f (take m order)) (Some k) → length order' ≡ length order
        → take (m + 1) order' ≡ put_in k i (take m order) → Ordered f n (insert (f i) (map f (take m order))) order' (m + 1)
    goes_in k order' g l e = record {
      is = ap (map f) e ∙ map-put k i (take m order) ∙ sym g.1;
      below = rw e (below-append n (take k (take m order)) (i ∷ drop k (take m order)) (below-take n k (take m order) b) (hi, below-drop n k (take m order) b));
      inside = omega arith;
    }

    pub index-low : (k : ℕ) → Goes (f i) (map f (take m order)) (Some k) → k ≤ m
    index-low k g = omega (arith, g.0, length-map (take m order) f, length-take m order)

  -- ---- one pick after the other, from the last

  module _ (n : ℕ) where
    pub none_yet : (order : List ℕ) → Ordered f n (distinct (drop n (firsts n f))) order 0
    unfolding distinct
    none_yet order = record {
      is = rw (drop_of_length-le (firsts n f) {i = n} (omega (arith, firsts-length n f)));
      below = tt;
      inside = omega arith;
    }

    from : (i : ℕ) → i < n → distinct (drop i (firsts n f)) ≡ insert (f i) (distinct (drop (i + 1) (firsts n f)))
    unfolding distinct
    from i h = rw (drop-cons (firsts n f) i [] (let k : i < length (firsts n f) = omega (arith, firsts-length n f) in k), firsts_at n f i h, add-one)

    pub one_more : (i : ℕ) → i < n → (order order' : List ℕ) (m m' : ℕ) → Ordered f n (distinct (drop (i + 1) (firsts n f))) order m
        → Ordered f n (insert (f i) (map f (take m order))) order' m' → Ordered f n (distinct (drop i (firsts n f))) order' m'
    one_more i h order order' m m' o o' =
        rw (from i h) (rw o.is at o')
