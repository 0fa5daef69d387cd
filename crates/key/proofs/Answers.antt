-- The answers of the public functions, one lemma for each path through them, from what preparation has shown: its offsets cut the texts as
-- the definitions do, so its tests are theirs.
use mathlib.Core.Path.{◌≡◌, refl, ap, ◌∙◌, sym}
use mathlib.Core.Bool.{Bool, true, false}
use mathlib.Core.List.{List, ◌∷◌, ◌++◌, map}
use Prim.Native.Nat.{ℕ, suc, ◌+◌, ◌-◌, ◌*◌, ◌%◌, ◌≤◌, ◌<◌}
use native.Mathlib.Omega.{arith}
use lib.ListN.{length, take, set, length-append, length-map}
use lib.Seq.{get_or-take, length-take-le}
use borrow.Author.Tests.{le-leb, lt-leb}
use Rattle.leaf.specs.Bytes.{written}
use Rattle.leaf.proofs.Laws.{length-written}
use mathlib.Core.Logic.{⊎_elim}
use Rattle.refusal.specs.declared.Refusal.{Refusal}
use Rattle.refusal.specs.declared.Refusal.TheVariants.{Argument, Identity, Small}
use Rattle.key.specs.Order.{Text, Pick, field_count}
use Rattle.key.specs.Picks.{text, pick_of, pick_at, count, firsts, passed_picks, distinct}
use Rattle.key.specs.Layout.{every, sized, fit, max_identity, key_of, within, key_answer, prefix, body, joined, entry}
use Rattle.key.specs.Match.{match_answer}
use Rattle.base.specs.Same.{same}
use Rattle.key.specs.Steps.{Offsets, Rising, between, Ordered, Left, starts_size, starts_of, Ready, NotReady}
use Rattle.key.proofs.TextOffsets.{between_is, rising, pick_same, firsts_same}
use Rattle.key.proofs.Sizes.{every-same, entry-small}
use Rattle.key.proofs.Put.{put-put, put_first}
use Rattle.std.proofs.Common.{Option, Ok, Err}
use denote.Ref.{Bor}

-- ---- fit

module _ (b : Text) (l : List ℕ) where
  pub fit-many : 80 < length l → false ≡ fit b l
  unfolding fit
  fit-many h = rw (lt-leb (count l) 16 (omega arith))

  pub fit-few : length l ≤ 80 → every (count l * field_count) (sized (text b l)) ≡ fit b l
  unfolding fit
  fit-few h = rw (le-leb (count l) 16 (omega arith))

-- ---- the offsets that were computed are those of the texts

module _ (b : Text) (l : List ℕ) (m : ℕ) where
  module _ (starts : List ℕ) (all : Offsets b l m starts) where
    sizes-same : every m (sized (between b starts)) ≡ every m (sized (text b l))
    sizes-same = every-same (sized (between b starts)) (sized (text b l)) m (λ k h. rw (between_is b l m starts all k h))

    picks-same : (n : ℕ) → n * field_count ≡ m → firsts n (pick_of (between b starts)) ≡ firsts n (pick_at b l)
    picks-same n e =
        firsts_same n (pick_of (between b starts)) (pick_at b l)
        (pick_same (between b starts) (text b l) n (λ k h. between_is b l m starts all k (omega arith)))

  module _ (all : List ℕ) (long : length all ≡ 81) (few : m ≤ 80) (given : Offsets b l m all) where
    abbrev starts : List ℕ
    starts = take (m + 1 - 0) all

    count-is-all : m + 1 - 0 ≡ m + 1
    count-is-all = omega arith

    pub starts-length : m + 1 ≡ length starts
    starts-length = sym (rw count-is-all (length-take-le (m + 1) all (omega arith)))

    starts-offsets : Offsets b l m starts
    starts-offsets k h = rw count-is-all (get_or-take (m + 1) all k 0 (omega arith) ∙ given k h)

    pub starts-rise : Rising starts (length b)
    starts-rise = rising b l m starts starts-offsets (sym starts-length)

    pub starts-picks : (n : ℕ) → n * field_count ≡ m → firsts n (pick_of (between b starts)) ≡ firsts n (pick_at b l)
    starts-picks n e = picks-same starts starts-offsets n e

    pub starts_fit : (t : Bool) → t ≡ every m (sized (between b starts)) → m ≡ count l * field_count → length l ≤ 80 → t ≡ fit b l
    starts_fit t e h w = e ∙ sizes-same starts starts-offsets ∙ rw h (fit-few b l w)

-- what preparation has shown, once every text is within its size
module _ (id b : Text) (l all : List ℕ) (long : length all ≡ starts_size) (few : length l ≤ 80) (given : Offsets b l (count l * field_count) all) where
  fewer : count l * field_count ≤ 80
  fewer = omega (arith, few)

  pub fit-known : (t : Bool) → t ≡ every (count l * field_count) (sized (between b (starts_of (count l) all))) → t ≡ fit b l
  fit-known t e = starts_fit b l (count l * field_count) all long fewer given t e refl few

  pub prepared : every (count l * field_count) (sized (between b (starts_of (count l) all))) ≡ true → length id ≤ max_identity → Ready id b l all (count l)
  prepared e h =
      record {
        fits = fit-known true (sym e);
        named = h;
        few = omega (arith, few);
        rises = starts-rise b l (count l * field_count) all long fewer given;
        long = omega (arith, starts-length b l (count l * field_count) all long fewer given);
        small = entry-small (between b (starts_of (count l) all)) (count l) e;
        picks = starts-picks b l (count l * field_count) all long fewer given (count l) refl;
      }

-- ---- key

module _ (id b : Text) (l : List ℕ) (capacity : ℕ) where
  pub unfit : false ≡ fit b l → Err Argument ≡ key_answer id b l capacity
  unfolding key_answer
  unfit e = rw (← e)

  module _ (fits : true ≡ fit b l) where
    pub long-identity : max_identity < length id → Err Identity ≡ key_answer id b l capacity
    unfolding key_answer
    long-identity h = rw (← fits, lt-leb (length id) max_identity h)

    pub else-within : length id ≤ max_identity → within capacity (key_of id (passed_picks b l)) ≡ key_answer id b l capacity
    unfolding key_answer
    else-within h = rw (← fits, le-leb (length id) max_identity h)

-- what preparation refuses
pub key-refused : (id b : Text) (l : List ℕ) (capacity : ℕ) (r : Refusal) → NotReady id b l r → Err r ≡ key_answer id b l capacity
key-refused id b l capacity r =
    ⊎_elim
    (λ h. ap Err h.0 ∙ unfit id b l capacity h.1)
    (λ h. ap Err h.0 ∙ long-identity id b l capacity h.1 h.2)

pub too_small : (capacity : ℕ) (key : List ℕ) → capacity < length key → Err Small ≡ within capacity key
unfolding within
too_small capacity key h = rw (lt-leb (length key) capacity h)

pub fits_in : (capacity : ℕ) (key : List ℕ) (n : ℕ) → n ≡ length key → n ≤ capacity → Ok n ≡ within capacity key
unfolding within
fits_in capacity key n e h = let k : length key ≤ capacity = omega arith in rw (le-leb (length key) capacity k, e)

-- the key's length
pub key-length : (id : Text) (ps : List Pick) → length (key_of id ps) ≡ length (prefix id) + 1 + length (joined entry (distinct ps))
unfolding key_of
key-length id ps =
    let e = length-append (prefix id) (body (distinct ps)) in
    omega arith

-- prefix, count byte and picks, written one after the other
pub whole : (out o₁ o₂ : List ℕ) (id : Text) (ps : List Pick) (at n : ℕ) → length (key_of id ps) ≤ length out
    → at ≡ length (prefix id) → n ≡ length (distinct ps) → o₁ ≡ written out 0 (prefix id)
    → o₂ ≡ written (set o₁ at (n % 256)) (at + 1) (joined entry (distinct ps)) → o₂ ≡ written out 0 (key_of id ps)
unfolding key_of
whole out o₁ o₂ id ps at n h a e p q =
    let k = key-length id ps in
    let g : length o₁ ≡ length out = ap length p ∙ length-written out 0 (prefix id) in
    q ∙ put_first o₁ at (n % 256) (joined entry (distinct ps)) (omega arith)
    ∙ ap (λ (m : ℕ). written o₁ at (m % 256 ∷ joined entry (distinct ps))) e
    ∙ ap (λ (o : List ℕ). written o at (body (distinct ps))) p
    ∙ put-put out 0 (prefix id) (body (distinct ps)) at (omega arith) (let w : 0 + length (prefix id) + suc (length (joined entry (distinct ps))) ≤ length out = omega arith in w)

-- ---- the numbers of the sorted picks

module _ (f : ℕ → Pick) (n : ℕ) (order : List ℕ) (m : ℕ) (o : Ordered f n (distinct (firsts n f)) order m) where
  abbrev part : List ℕ
  part = take (m - 0) order

  all_of : m - 0 ≡ m
  all_of = omega arith

  pub part-is : map f part ≡ distinct (firsts n f)
  part-is = rw all_of o.is

  pub part_length : length part ≡ m
  part_length = rw all_of (length-take-le m order o.inside)

  pub part_count : m ≡ length (distinct (firsts n f))
  part_count = sym (ap length (sym part-is) ∙ length-map part f ∙ part_length)

  pub total-is : (id : Text) (r : ℕ) → r ≡ length (prefix id) + 1 + length (joined entry (map f part)) → r ≡ length (key_of id (firsts n f))
  total-is id r e = e ∙ ap (λ (s : List Pick). length (prefix id) + 1 + length (joined entry s)) part-is ∙ sym (key-length id (firsts n f))

-- ---- same_key

module _ (x id b : Text) (l : List ℕ) where
  pub match-unfit : false ≡ fit b l → Err Argument ≡ match_answer x id b l
  unfolding match_answer
  match-unfit e = rw (← e)

  module _ (fits : true ≡ fit b l) where
    pub match-identity : max_identity < length id → Err Identity ≡ match_answer x id b l
    unfolding match_answer
    match-identity h = rw (← fits, lt-leb (length id) max_identity h)

    pub is_same : length id ≤ max_identity → Ok (same x (key_of id (passed_picks b l))) ≡ match_answer x id b l
    unfolding match_answer
    is_same h = rw (← fits, le-leb (length id) max_identity h)

pub match-refused : (x id b : Text) (l : List ℕ) (r : Refusal) → NotReady id b l r → Err r ≡ match_answer x id b l
match-refused x id b l r =
    ⊎_elim
    (λ h. ap Err h.0 ∙ match-unfit x id b l h.1)
    (λ h. ap Err h.0 ∙ match-identity x id b l h.1 h.2)

-- prefix, count byte and picks, one after the other, are the key
module _ (x : List ℕ) (id : Text) (ps : List Pick) (n : ℕ) (e : n ≡ length (distinct ps)) where
  parts : prefix id ++ (n % 256 ∷ joined entry (distinct ps)) ≡ key_of id ps
  unfolding key_of
  parts = ap (λ (m : ℕ). prefix id ++ (m % 256 ∷ joined entry (distinct ps))) e

  pub left_key : (r : Option (Bor (List ℕ))) → Left x (prefix id ++ (n % 256 ∷ joined entry (distinct ps))) r → Left x (key_of id ps) r
  left_key r h = rw (← parts) h
