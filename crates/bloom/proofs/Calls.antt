-- What the code's calls return, from the results of the single reads or sets, and from the test of the filter's size.
use Rattle.std.proofs.Common.{◌≡◌, ℕ, zero, suc, ◌+◌, ◌/◌, ◌<◌, ◌≤◌, Bool, true, false, ◌&&◌, List, [], ◌∷◌, length, drop, get_or, arith, ◌∙◌, add-one, drop-cons, Err, Result, Ok}
use mathlib.Core.Bool.{and-true, and_assoc}
use lib.ListN.{drop_of_length-le}
use Rattle.bloom.specs.Positions.{Within}
use Rattle.refusal.specs.declared.Refusal.TheVariants.{Argument}
use Rattle.leaf.specs.Crc.{crc32}
use Rattle.bloom.specs.Bloom.{positions, is_set, set_bit, all_set, seen, set_all, fits, query, insert_answer, inserted}
use Rattle.refusal.specs.declared.Refusal.{Refusal}

-- ---- a position of those left

pub within-at : (n : ℕ) (ps : List ℕ) (i : ℕ) → Within n ps → i < length ps → get_or ps i 0 / 8 < n
within-at n [] i w h = absurd (omega arith)
within-at n (p ∷ ps) zero w h = w.0
within-at n (p ∷ ps) (suc i) w h = within-at n ps i w.1 (omega arith)

module _ (l ps : List ℕ) (i : ℕ) (h : i < length ps) where
  pub looked : (all r : Bool) → r ≡ is_set l (get_or ps i 0) → (all && r) && all_set l (drop (i + 1) ps) ≡ all && all_set l (drop i ps)
  unfolding all_set
  looked all r e = and_assoc all r (all_set l (drop (i + 1) ps)) ∙ rw (e, add-one i, drop-cons ps i 0 h)

  module _ (m : List ℕ) (s : m ≡ set_bit l (get_or ps i 0)) where
    pub visited : (all r : Bool) → r ≡ is_set l (get_or ps i 0) → (all && r) && seen m (drop (i + 1) ps) ≡ all && seen l (drop i ps)
    unfolding seen
    visited all r e = and_assoc all r (seen m (drop (i + 1) ps)) ∙ rw (e, s, add-one i, drop-cons ps i 0 h)

    pub all-visited : set_all m (drop (i + 1) ps) ≡ set_all l (drop i ps)
    unfolding set_all
    all-visited = rw (s, add-one i, drop-cons ps i 0 h)

-- after the last none is left
module _ (l ps : List ℕ) (i : ℕ) (h : length ps ≤ i) where
  pub none-looked : (all : Bool) → all && all_set l (drop i ps) ≡ all
  unfolding all_set
  none-looked all = rw (drop_of_length-le ps h) (and-true all)

  pub none-seen : (all : Bool) → all && seen l (drop i ps) ≡ all
  unfolding seen
  none-seen all = rw (drop_of_length-le ps h) (and-true all)

  pub none-set : set_all l (drop i ps) ≡ l
  unfolding set_all
  none-set = rw (drop_of_length-le ps h)

-- ---- the calls

module _ (bits id : List ℕ) where
  -- a filter of another size is refused and stays
  module _ (e : fits (length bits) ≡ false) where
    pub query-refused : Err Argument ≡ query bits id
    unfolding query
    query-refused = rw e

    pub insert-refused : Err Argument ≡ insert_answer bits id
    unfolding insert_answer
    insert-refused = rw e

    pub insert-kept : bits ≡ inserted bits id
    unfolding inserted
    insert-kept = rw e

  module _ (e : fits (length bits) ≡ true) (hash : ℕ) (h : hash ≡ crc32 0 id) (ps : List ℕ) (places : ps ≡ positions hash (length bits)) where
    pub query-is : (s : Bool) (r : Result Bool Refusal) → s ≡ all_set bits ps → r ≡ Ok s → r ≡ query bits id
    unfolding query
    query-is s r es er = rw (e, er, es, places, h)

    pub insert-is : (s : Bool) (r : Result Bool Refusal) → s ≡ seen bits ps → r ≡ Ok s → r ≡ insert_answer bits id
    unfolding insert_answer
    insert-is s r es er = rw (e, er, es, places, h)

    pub insert-left : (l : List ℕ) → l ≡ set_all bits ps → l ≡ inserted bits id
    unfolding inserted
    insert-left l el = rw (e, el, places, h)
