-- What is proved of the filter beyond the calls' promises, for every size (proofs/Found.antt; Differ in proofs/Sums.antt).
use Rattle.std.specs.Prelude.{◌≡◌, ℕ, ◌%◌, ◌<◌, true, List, length, ◌≢◌, Ok}
use Rattle.base.specs.Number.{byte_bits}
use Rattle.bloom.specs.Bloom.{position_count, hash_of, position, is_set, fits, query, insert_answer, inserted}

-- what was inserted is found
abbrev pub Found : Type 0
Found = (bits id : List ℕ) → fits (length bits) ≡ true → query (inserted bits id) id ≡ Ok true

-- insertion clears no bit,
abbrev pub ClearsNone : Type 0
ClearsNone = (bits id : List ℕ) (p : ℕ) → is_set bits p ≡ true → is_set (inserted bits id) p ≡ true

-- sets none but the four,
abbrev pub SetsOnlyFour : Type 0
SetsOnlyFour = (bits id : List ℕ) (p : ℕ) → ((i : ℕ) → i < position_count → p ≢ position (hash_of id) (length bits) i) → is_set (inserted bits id) p ≡ is_set bits p

-- and keeps the length
abbrev pub SameLength : Type 0
SameLength = (bits id : List ℕ) → length (inserted bits id) ≡ length bits

-- the four positions differ, even modulo 8, for every hash and size
abbrev pub Differ : Type 0
Differ = (hash bytes i j : ℕ) → i < position_count → j < position_count → position hash bytes i % byte_bits ≡ position hash bytes j % byte_bits → i ≡ j

-- so an insertion answers what a query before it would
abbrev pub AnswersAsQuery : Type 0
AnswersAsQuery = (bits id : List ℕ) → insert_answer bits id ≡ query bits id

-- all of them: what `filter_holds` promises
pub record Claims : Type 0 where
  pub found : Found
  pub clears_none : ClearsNone
  pub sets_only_four : SetsOnlyFour
  pub same_length : SameLength
  pub differ : Differ
  pub answers_as_query : AnswersAsQuery
