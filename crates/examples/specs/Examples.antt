-- The worked examples of document 01, the lines marked ●, in one table.
use Rattle.std.specs.Prelude.{◌≡◌, Bool, true, false, List, [], ◌∷◌, ℕ}
use Rattle.leaf.specs.Generation.{newer}
use Rattle.leaf.specs.Date.{valid_date}
use Rattle.key.specs.Picks.{passed_picks}
use Rattle.key.specs.Layout.{key_of}
use Rattle.base.specs.Same.{same}
use Rattle.rfc4180.specs.Write.{field_of}

-- newer_than a b: is generation a newer than b? a_date n: is n a date? key_is identity texts lengths key: is that the key of the identity
-- and of the picks passed as texts and their lengths, five to a pick? field_is value field: is a value written as that field?
pub data Question : Type 0 where
  newer_than : ℕ → ℕ → Question
  a_date : ℕ → Question
  key_is : List ℕ → List ℕ → List ℕ → List ℕ → Question
  field_is : List ℕ → List ℕ → Question

-- what the definitions answer
abbrev pub answer : Question → Bool
answer (newer_than a b) = newer a b
answer (a_date n) = valid_date n
answer (key_is identity texts lengths key) = same (key_of identity (passed_picks texts lengths)) key
answer (field_is value field) = same (field_of value) field

-- each question with the answer that the document gives
unfoldable pub table : List (Question × Bool)
table =
    (newer_than 0 4294967295, true)
    ∷ (newer_than 7 7, false)
    ∷ (newer_than 0 2147483648, false)
    ∷ (newer_than 2147483648 0, false)
    ∷ (a_date 20240229, true)
    ∷ (a_date 20000229, true)
    ∷ (a_date 10101, true)
    ∷ (a_date 99991231, true)
    ∷ (a_date 20230229, false)
    ∷ (a_date 19000229, false)
    ∷ (a_date 0, false)
    ∷ (a_date 99991232, false)
    ∷ (key_is [] [] [] (0 ∷ []), true)
    ∷ (key_is (65 ∷ []) [] [] (255 ∷ 1 ∷ 0 ∷ 65 ∷ 0 ∷ []), true)
    ∷ (key_is [] (55 ∷ 114 ∷ 115 ∷ 110 ∷ []) (1 ∷ 1 ∷ 0 ∷ 1 ∷ 1 ∷ []) (1 ∷ 1 ∷ 55 ∷ 1 ∷ 114 ∷ 0 ∷ 1 ∷ 115 ∷ 1 ∷ 110 ∷ []), true)
    ∷ (key_is [] (55 ∷ 114 ∷ 99 ∷ 115 ∷ 110 ∷ []) (1 ∷ 1 ∷ 1 ∷ 1 ∷ 1 ∷ []) (1 ∷ 1 ∷ 55 ∷ 1 ∷ 114 ∷ 1 ∷ 99 ∷ 1 ∷ 115 ∷ 0 ∷ []), true)
    ∷ (field_is (97 ∷ 34 ∷ 98 ∷ []) (34 ∷ 97 ∷ 34 ∷ 34 ∷ 98 ∷ 34 ∷ []), true)
    ∷ (field_is (32 ∷ []) (32 ∷ []), true)
    ∷ []

-- the definitions answer every question as the table does
unfoldable pub Answered : List (Question × Bool) → Type 0
Answered [] = Unit {0}
Answered (row ∷ rows) = (answer row.0 ≡ row.1) × Answered rows
