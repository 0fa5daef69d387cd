-- The records that the history's notes give: what one note more adds, and that later bytes don't change a block that is ended. By induction
-- on the notes.
use mathlib.Core.Path.{◌≡◌, refl, sym, ap, ◌∙◌}
use mathlib.Core.List.{List, [], ◌∷◌, ◌++◌}
use Prim.Native.Nat.{ℕ, zero, suc, ◌+◌, ◌-◌, ◌≤◌, ◌<◌}
use native.Mathlib.Omega.{arith}
use native.Mathlib.Nat.{le_of_suc-le-suc, not-suc-le-zero}
use lib.ListN.{length, take, drop, set, get_or, length-drop}
use lib.Seq.{drop-append-le, take_at, take-suc-set, take-set-lt, get_or-take, length-take-le}
use Rattle.leaf.specs.Crc.{crc32}
use Rattle.record.specs.declared.Block.{Block}
use Rattle.record.specs.declared.Source.{Source}
use Rattle.record.specs.Types.{All}
use Rattle.lower.specs.Lower.{emptied, past_end, with_block}
use Rattle.powerloss.specs.History.{Note, source_note, table_note, end_note, block_between, last_with, records_after}

-- the table of the last table note, and its start
abbrev pub table_of : ℕ → List Note → ℕ
table_of t [] = t
table_of t (source_note s ∷ ns) = table_of t ns
table_of t (table_note k n ∷ ns) = table_of k ns
table_of t (end_note n ∷ ns) = table_of t ns

abbrev pub from_of : ℕ → List Note → ℕ
from_of from [] = from
from_of from (source_note s ∷ ns) = from_of from ns
from_of from (table_note k n ∷ ns) = from_of n ns
from_of from (end_note n ∷ ns) = from_of from ns

pub table-append : (t : ℕ) (ns ms : List Note) → table_of t (ns ++ ms) ≡ table_of (table_of t ns) ms
table-append t [] ms = refl
table-append t (source_note s ∷ ns) ms = table-append t ns ms
table-append t (table_note k n ∷ ns) ms = table-append k ns ms
table-append t (end_note n ∷ ns) ms = table-append t ns ms

pub from-append : (from : ℕ) (ns ms : List Note) → from_of from (ns ++ ms) ≡ from_of (from_of from ns) ms
from-append from [] ms = refl
from-append from (source_note s ∷ ns) ms = from-append from ns ms
from-append from (table_note k n ∷ ns) ms = from-append n ns ms
from-append from (end_note n ∷ ns) ms = from-append from ns ms

pub records-append : (xs : List ℕ) (rs : List Source) (t from : ℕ) (ns ms : List Note)
    → records_after xs rs t from (ns ++ ms) ≡ records_after xs (records_after xs rs t from ns) (table_of t ns) (from_of from ns) ms
unfolding records_after
records-append xs rs t from [] ms = refl
records-append xs rs t from (source_note s ∷ ns) ms = records-append xs (rs ++ (emptied s ∷ [])) t from ns ms
records-append xs rs t from (table_note k n ∷ ns) ms = records-append xs rs k n ns ms
records-append xs rs t from (end_note n ∷ ns) ms = records-append xs (last_with rs t (block_between xs from n)) t from ns ms

-- one note more
module _ (xs : List ℕ) (ns : List Note) where
  pub records-source : (s : Source) → records_after xs [] 0 0 (ns ++ (source_note s ∷ [])) ≡ records_after xs [] 0 0 ns ++ (emptied s ∷ [])
  unfolding records_after
  records-source s = records-append xs [] 0 0 ns (source_note s ∷ [])

  pub records-table : (t n : ℕ) → records_after xs [] 0 0 (ns ++ (table_note t n ∷ [])) ≡ records_after xs [] 0 0 ns
  unfolding records_after
  records-table t n = records-append xs [] 0 0 ns (table_note t n ∷ [])

  pub records-end : (n : ℕ) → records_after xs [] 0 0 (ns ++ (end_note n ∷ [])) ≡ last_with (records_after xs [] 0 0 ns) (table_of 0 ns) (block_between xs (from_of 0 ns) n)
  unfolding records_after
  records-end n = records-append xs [] 0 0 ns (end_note n ∷ [])

-- a block that ends at the number of bytes so far: later bytes change nothing
pub block-is : (xs ys : List ℕ) (from : ℕ) → from ≤ length xs → block_between (xs ++ ys) from (length xs) ≡ record { offset = from; length = length xs - from; crc = crc32 0 (drop from xs) }
unfolding block_between
block-is xs ys from h =
    let e : take (length xs - from) (drop from (xs ++ ys)) ≡ drop from xs =
    ap (take (length xs - from)) (drop-append-le from xs ys h) ∙ take_at (drop from xs) ys (length xs - from) (length-drop from xs) in
    ap (λ (l : List ℕ). record { offset = from; length = length xs - from; crc = crc32 0 l }) e

-- the writer's array up to its count
pub more-sources : (ss : List Source) (n : ℕ) (s : Source) → n < length ss → take (n + 1) (set ss n s) ≡ take n ss ++ (s ∷ [])
more-sources ss n s h =
    let e : n + 1 ≡ suc n = omega arith in
    ap (λ (k : ℕ). take k (set ss n s)) e ∙ take-suc-set ss n s h

pub last-source : (ss : List Source) (n t : ℕ) (b : Block) → 1 ≤ n → n ≤ length ss → last_with (take n ss) t b ≡ take n (set ss (n - 1) (with_block (get_or ss (n - 1) past_end) t b))
last-source ss n t b h k =
    let l : length (take n ss) ≡ n = length-take-le n ss k in
    let g : get_or (take n ss) (n - 1) past_end ≡ get_or ss (n - 1) past_end = get_or-take n ss (n - 1) past_end (omega arith) in
    ap (λ (m : ℕ). set (take n ss) (m - 1) (with_block (get_or (take n ss) (m - 1) past_end) t b)) l
    ∙ ap (λ (s : Source). set (take n ss) (n - 1) (with_block s t b)) g
    ∙ sym (take-set-lt n ss (n - 1) (with_block (get_or ss (n - 1) past_end) t b) (omega arith))

-- ---- what holds of each element

pub all_append : {A : Type 0} (P : A → Type 0) (xs ys : List A) → All P xs → All P ys → All P (xs ++ ys)
unfolding All
all_append P [] ys h k = k
all_append P (x ∷ xs) ys h k = (h.0, all_append P xs ys h.1 k)

pub all_set : {A : Type 0} (P : A → Type 0) (xs : List A) (i : ℕ) (y : A) → All P xs → P y → All P (set xs i y)
unfolding All
all_set P [] i y h p = h
all_set P (x ∷ xs) zero y h p = (p, h.1)
all_set P (x ∷ xs) (suc i) y h p = (h.0, all_set P xs i y h.1 p)

pub all-at : {A : Type 0} (P : A → Type 0) (xs : List A) (i : ℕ) (d : A) → All P xs → i < length xs → P (get_or xs i d)
unfolding All
all-at P [] i d h k = absurd (not-suc-le-zero k)
all-at P (x ∷ xs) zero d h k = h.0
all-at P (x ∷ xs) (suc i) d h k = all-at P xs i d h.1 (le_of_suc-le-suc k)
