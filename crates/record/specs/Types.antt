-- What the types of a record's fields say of its values. It holds of every record in a program.
use Rattle.std.specs.Prelude.{◌≡◌, List, [], ◌∷◌, ℕ, ◌*◌, ◌<◌, length}
use Rattle.std.specs.Int.{w64}
use Rattle.std.proofs.Common.{SFits}
use Rattle.record.specs.declared.Block.{Block}
use Rattle.record.specs.declared.Source.{Source}
use Rattle.base.specs.Number.{word_values}
use Rattle.base.specs.Table.{max_tables}
use Rattle.record.specs.Record.{table_words, stamp_size, id_size, validator_size}

-- P holds of every element
unfoldable pub All : {A : Type 0} → (A → Type 0) → List A → Type 0
All P [] = Unit {0}
All P (x ∷ xs) = P x × All P xs

abbrev pub U32 : ℕ → Type 0
U32 n = n < word_values

pub record Block32 (b : Block) : Type 0 where
  pub offset : U32 b.offset
  pub length : U32 b.length
  pub crc : U32 b.crc

-- its arrays have their lengths
pub record Sized (s : Source) : Type 0 where
  pub original : length s.original ≡ max_tables * table_words
  pub tables : length s.tables ≡ max_tables
  pub stamp : length s.stamp ≡ stamp_size
  pub id : length s.id ≡ id_size
  pub validator : length s.validator ≡ validator_size

-- its numbers are in range
pub record Ranged (s : Source) : Type 0 where
  pub start : U32 s.start
  pub end : U32 s.end
  pub present : U32 s.present
  pub updated : SFits w64 s.updated
  pub original : All U32 s.original
  pub tables : All Block32 s.tables
