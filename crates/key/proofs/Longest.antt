-- The longest key has 67,795 bytes: none is longer, by the bounds on prefix and picks; and one has that length, by computing.
use mathlib.Core.Path.{◌≡◌, refl, ap}
use mathlib.Core.Bool.{true}
use mathlib.Core.List.{List, [], ◌∷◌}
use Prim.Native.Nat.{ℕ, ◌*◌, ◌≤◌}
use native.Mathlib.Omega.{arith}
use lib.ListN.{length, replicate, length-replicate}
use lib.Dec.{leb}
use borrow.Author.Tests.{leb-true}
use Rattle.key.specs.Order.{Text, text_order, pick_order, field_count}
use Rattle.key.specs.Picks.{sum, text, pick_of, pick_at, count, firsts, passed_picks, insert, distinct}
use Rattle.key.specs.Layout.{every, sized, fit, prefix, joined, entry, max_identity}
use Rattle.key.specs.Claims.{NoKeyIsLonger, LongestIsReached}
use Rattle.key.proofs.Sizes.{entry-small, small, few}
use Rattle.base.proofs.Bools.{both_true}
use Rattle.key.proofs.Put.{prefix-some}
use Rattle.key.proofs.Answers.{key-length}

pub prefix-short : (id : Text) → length id ≤ max_identity → length (prefix id) ≤ 65538
unfolding prefix
prefix-short [] h = omega arith
prefix-short (b ∷ bs) h = omega arith

pub longest : NoKeyIsLonger
unfolding fit
longest id b l h k =
    let t = both_true (leb (count l) 16) (every (count l * field_count) (sized (text b l))) h in
    let n : count l ≤ 16 = leb-true _ _ t.0 in
    let m = small (count l) (pick_at b l) (entry-small (text b l) (count l) t.1) in
    omega (arith, key-length id (passed_picks b l), prefix-short id k, few (count l) (pick_at b l), m)

-- ---- one of that length: an identity of 65,535 bytes, and 16 picks without a code, each field as long as it may be

zeros : ℕ → Text
zeros n = replicate n 0

zeros-length : (n : ℕ) → length (zeros n) ≡ n
unfolding zeros
zeros-length n = length-replicate n 0

abbrev numbers : List ℕ
numbers = 0 ∷ 1 ∷ 2 ∷ 3 ∷ 4 ∷ 5 ∷ 6 ∷ 7 ∷ 8 ∷ 9 ∷ 10 ∷ 11 ∷ 12 ∷ 13 ∷ 14 ∷ 15 ∷ []

unfoldable texts : Text
texts = joined (replicate 136) numbers

unfoldable fives : List ℕ
fives = joined (λ k. 8 ∷ 32 ∷ 0 ∷ 32 ∷ 64 ∷ []) numbers

fives-fit : fit texts fives ≡ true
unfolding fit every text sum texts fives joined
fives-fit = refl

all-long : length (joined entry (distinct (passed_picks texts fives))) ≡ 2256
unfolding firsts pick_of text sum distinct insert pick_order text_order joined texts fives
all-long = refl

pub reached : LongestIsReached
reached = record {
  identity = zeros max_identity;
  bytes = texts;
  lengths = fives;
  fits = fives-fit;
  short = omega (arith, zeros-length max_identity);
  reached =
      (let l = zeros-length max_identity in
      let p = ap length (prefix-some (zeros max_identity) (omega arith)) in
      omega (arith, key-length (zeros max_identity) (passed_picks texts fives), all-long));
}
