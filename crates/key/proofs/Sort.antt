-- `distinct` sorts: its members are those of the list, in ascending order. No other list does: two ascending lists with the same members
-- have the same first one, and so on.
use mathlib.Core.Path.{◌≡◌, refl, ap, ◌∙◌, sym, subst}
use mathlib.Core.List.{List, [], ◌∷◌}
use mathlib.Core.Logic.{◌⊎◌, inl, inr, ⊎_elim}
use Prim.Native.Nat.{Ordering}
use Rattle.key.specs.Order.{Pick, pick_order}
use Rattle.key.specs.Picks.{insert_by, insert, distinct, In, Ascending}
use Rattle.key.specs.Claims.{DistinctSorts, OnlyOneSorts}
use Rattle.key.proofs.Linear.{flip, on-picks, no_eq}

-- ---- members

in-insert-by : (o : Ordering) (p q : Pick) (qs further : List Pick) → pick_order p q ≡ o
    → In p further → ((x : Pick) → In x qs → In x further)
    → In p (insert_by o p q qs further) × ((x : Pick) → In x (q ∷ qs) → In x (insert_by o p q qs further))
in-insert-by Ordering.lt p q qs f e h k = (inl refl, λ x m. inr m)
in-insert-by Ordering.eq p q qs f e h k = (inl (on-picks.same p q e), λ x m. m)
in-insert-by Ordering.gt p q qs f e h k = (inr h, λ x m. ⊎_elim (λ w. inl w) (λ w. inr (k x w)) m)

in_insert : (p : Pick) (s : List Pick) → In p (insert p s) × ((x : Pick) → In x s → In x (insert p s))
unfolding insert
in_insert p [] = (inl refl, λ x m. absurd m)
in_insert p (q ∷ qs) = in-insert-by (pick_order p q) p q qs (insert p qs) refl (in_insert p qs).0 (in_insert p qs).1

of-insert-by : (o : Ordering) (p q : Pick) (qs further : List Pick) (x : Pick)
    → (In x further → (x ≡ p) ⊎ In x qs) → In x (insert_by o p q qs further) → (x ≡ p) ⊎ In x (q ∷ qs)
of-insert-by Ordering.lt p q qs f x k m = m
of-insert-by Ordering.eq p q qs f x k m = inr m
of-insert-by Ordering.gt p q qs f x k m =
    ⊎_elim (λ w. inr (inl w)) (λ w. ⊎_elim (λ v. inl v) (λ v. inr (inr v)) (k w)) m

of-insert : (p : Pick) (s : List Pick) (x : Pick) → In x (insert p s) → (x ≡ p) ⊎ In x s
unfolding insert
of-insert p [] x m = m
of-insert p (q ∷ qs) x m = of-insert-by (pick_order p q) p q qs (insert p qs) x (of-insert p qs x) m

-- ---- order

lt-turned : (p q : Pick) → pick_order p q ≡ Ordering.gt → pick_order q p ≡ Ordering.lt
lt-turned p q e = on-picks.turned p q ∙ ap flip e

up-insert-by : (o : Ordering) (p q : Pick) (qs : List Pick) → pick_order p q ≡ o → Ascending (q ∷ qs) → Ascending (insert p qs)
    → Ascending (insert_by o p q qs (insert p qs))
up-insert-by Ordering.lt p q qs e h k =
    (λ x m. ⊎_elim (λ w. rw w e) (λ w. on-picks.chain p q x e (h.0 x w)) m, h)
up-insert-by Ordering.eq p q qs e h k = h
up-insert-by Ordering.gt p q qs e h k =
    (λ x m. ⊎_elim (λ w. rw w (lt-turned p q e)) (λ w. h.0 x w) (of-insert p qs x m), k)

up-insert : (p : Pick) (s : List Pick) → Ascending s → Ascending (insert p s)
unfolding insert
up-insert p [] h = (λ x m. absurd m, tt)
up-insert p (q ∷ qs) h = up-insert-by (pick_order p q) p q qs refl h (up-insert p qs h.1)

-- ---- the theorem

up-distinct : (ps : List Pick) → Ascending (distinct ps)
unfolding distinct
up-distinct [] = tt
up-distinct (p ∷ ps) = up-insert p (distinct ps) (up-distinct ps)

to_distinct : (ps : List Pick) (x : Pick) → In x ps → In x (distinct ps)
unfolding distinct
to_distinct [] x m = m
to_distinct (p ∷ ps) x m =
    ⊎_elim (λ w. rw w (in_insert p (distinct ps)).0) (λ w. (in_insert p (distinct ps)).1 x (to_distinct ps x w)) m

of-distinct : (ps : List Pick) (x : Pick) → In x (distinct ps) → In x ps
unfolding distinct
of-distinct [] x m = m
of-distinct (p ∷ ps) x m = ⊎_elim (λ w. inl w) (λ w. inr (of-distinct ps x w)) (of-insert p (distinct ps) x m)

pub sorts : DistinctSorts
sorts ps = record { ascending = up-distinct ps; kept = to_distinct ps; from = of-distinct ps }

pub not-self : {A : Type 0} (p : Pick) → pick_order p p ≡ Ordering.lt → A
not-self p e = no_eq _ e (on-picks.self p)

head-same : (p q : Pick) (ps qs : List Pick) → Ascending (p ∷ ps) → Ascending (q ∷ qs) → In p (q ∷ qs) → In q (p ∷ ps) → p ≡ q
head-same p q ps qs hp hq m n =
    ⊎_elim (λ w. w)
    (λ w. ⊎_elim (λ v. sym v) (λ v. not-self p (on-picks.chain p q p (hp.0 q v) (hq.0 p w))) n) m

in_rest : (p x : Pick) (ps qs : List Pick) → Ascending (p ∷ ps) → In x ps → In x (p ∷ qs) → In x qs
in_rest p x ps qs h m n = ⊎_elim (λ w. not-self p (subst (λ (y : Pick). pick_order p y ≡ Ordering.lt) w (h.0 x m))) (λ w. w) n

only : (s t : List Pick) → Ascending s → Ascending t → ((x : Pick) → In x s → In x t) → ((x : Pick) → In x t → In x s) → s ≡ t
only [] [] hs ht f g = refl
only [] (q ∷ qs) hs ht f g = absurd (g q (inl refl))
only (p ∷ ps) [] hs ht f g = absurd (f p (inl refl))
only (p ∷ ps) (q ∷ qs) hs ht f g =
    let e : p ≡ q = head-same p q ps qs hs ht (f p (inl refl)) (g q (inl refl)) in
    let f' : (x : Pick) → In x ps → In x (p ∷ qs) = λ x m. rw e (f x (inr m)) in
    let hq : Ascending (p ∷ qs) = rw e ht in
    let g' : (x : Pick) → In x qs → In x (p ∷ ps) = λ x m. g x (inr m) in
    let k : ps ≡ qs = only ps qs hs.1 ht.1 (λ x m. in_rest p x ps qs hs m (f' x m)) (λ x m. in_rest p x qs ps hq m (g' x m)) in
    rw (e, k)

pub only_one : OnlyOneSorts
only_one ps s h =
    only s (distinct ps) h.ascending (up-distinct ps) (λ x m. to_distinct ps x (h.from x m)) (λ x m. h.kept x (of-distinct ps x m))
