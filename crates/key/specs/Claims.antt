-- What is shown of the definitions, beside the contracts. Each claim is proved in proofs/ under the name in its comment.
use Rattle.std.specs.Prelude.{true, List, ◌≡◌, ℕ, ◌≤◌, length}
use Rattle.key.specs.Order.{Text, Pick}
use Rattle.key.specs.Picks.{Sorts, distinct, passed_picks}
use Rattle.key.specs.Layout.{fit, key_of, max_identity, longest_key}

-- `distinct` sorts every list of picks (Sort: sorts)
abbrev pub DistinctSorts : Type 0
DistinctSorts = (ps : List Pick) → Sorts ps (distinct ps)

-- no other list does, so any way of sorting gives the same key (Sort: only-one)
abbrev pub OnlyOneSorts : Type 0
OnlyOneSorts = (ps s : List Pick) → Sorts ps s → s ≡ distinct ps

-- no key that is not refused is longer than 67,795 bytes (Longest: longest)
abbrev pub NoKeyIsLonger : Type 0
NoKeyIsLonger = (identity bytes : Text) (lengths : List ℕ) → fit bytes lengths ≡ true → length identity ≤ max_identity
    → length (key_of identity (passed_picks bytes lengths)) ≤ longest_key

-- and one has that length (Longest: reached)
pub record LongestIsReached : Type 0 where
  pub identity : Text
  pub bytes : Text
  pub lengths : List ℕ
  pub fits : fit bytes lengths ≡ true
  pub short : length identity ≤ max_identity
  pub reached : length (key_of identity (passed_picks bytes lengths)) ≡ longest_key

-- all of them: what `keys_hold` promises
pub record Claims : Type 0 where
  pub distinct_sorts : DistinctSorts
  pub only_one_sorts : OnlyOneSorts
  pub no_key_is_longer : NoKeyIsLonger
  pub longest_is_reached : LongestIsReached
