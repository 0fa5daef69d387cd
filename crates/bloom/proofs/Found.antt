-- The claims on the filter: what was inserted is found, no bit is cleared, only the four bits of the id are set, the length stays. Each
-- follows from the law of one bit, applied to the four positions.
use Rattle.std.proofs.Common.{◌≡◌, ℕ, ◌%◌, ◌<◌, Bool, true, false, leb, List, length, refl, ap, arith, leb-true}
use Rattle.base.proofs.Bools.{and_left}
use Rattle.bloom.specs.Bloom.{hash_of, position, positions, positions_of, is_set, fits, query, insert_answer, inserted, set_all}
use Rattle.bloom.specs.Claims.{Found, ClearsNone, SetsOnlyFour, SameLength, AnswersAsQuery}
use Rattle.bloom.proofs.Sums.{within, differ}
use Rattle.bloom.proofs.Runs.{length-all, kept-all, other-all, found_all, seen_all, None, Distinct}

some : (n : ℕ) → fits n ≡ true → 0 < n
some n h = leb-true 1 n (and_left (leb 1 n) (leb n 65536) h)

pub found : Found
unfolding query inserted
found bits id h =
    let ps = positions_of bits id in
    let l : length (set_all bits ps) ≡ length bits = length-all ps bits in
    let f = found_all ps bits (within (hash_of id) (length bits) (some (length bits) h)) in
    rw (h, l, h, f)

module _ (bits id : List ℕ) where
  left : (t : Bool) → fits (length bits) ≡ t → (p : ℕ) → is_set bits p ≡ true → is_set (inserted bits id) p ≡ true
  unfolding inserted
  left true e p h = rw e (kept-all (positions_of bits id) bits p h)
  left false e p h = rw e h

  only : (t : Bool) → fits (length bits) ≡ t → (p : ℕ) → None p (positions_of bits id) → is_set (inserted bits id) p ≡ is_set bits p
  unfolding inserted
  only true e p h = rw e (other-all (positions_of bits id) bits p h)
  only false e p h = rw e

  long : (t : Bool) → fits (length bits) ≡ t → length (inserted bits id) ≡ length bits
  unfolding inserted
  long true e = rw e (length-all (positions_of bits id) bits)
  long false e = rw e

pub clears-none : ClearsNone
clears-none bits id p h = left bits id (fits (length bits)) refl p h

pub sets-only-four : SetsOnlyFour
sets-only-four bits id p h =
    only bits id (fits (length bits)) refl p (h 0 (omega arith), (h 1 (omega arith), (h 2 (omega arith), (h 3 (omega arith), tt))))

pub same_length : SameLength
same_length bits id = long bits id (fits (length bits)) refl

distinct : (hash n : ℕ) → Distinct (positions hash n)
distinct hash n =
    let ne : (i j : ℕ) → i < 4 → j < 4 → (i ≡ j → ⊥) → position hash n i ≡ position hash n j → ⊥ =
    λ i j hi hj d e. d (differ hash n i j hi hj (ap (λ (m : ℕ). m % 8) e)) in (
      (ne 0 1 (omega arith) (omega arith) (λ e. omega arith), (ne 0 2 (omega arith) (omega arith) (λ e. omega arith), (ne 0 3 (omega arith) (omega arith) (λ e. omega arith), tt))),
      (
        (ne 1 2 (omega arith) (omega arith) (λ e. omega arith), (ne 1 3 (omega arith) (omega arith) (λ e. omega arith), tt)),
        ((ne 2 3 (omega arith) (omega arith) (λ e. omega arith), tt), (tt, tt)),
      ),
    )

pub answers-as-query : AnswersAsQuery
unfolding query insert_answer
answers-as-query bits id = rw (seen_all (positions_of bits id) bits (distinct (hash_of id) (length bits)))
