-- What is proved of the columns beyond the calls' promises (proofs/Names.antt).
use Rattle.std.specs.Prelude.{ℕ, ◌≡◌}
use Rattle.rfc4180.specs.Write.{row_of}
use Rattle.row.specs.Columns.{columns_of, names_line}

-- a names line is the row of the names: no name is quoted, so the reader gives them back
abbrev pub NamesAreARow : Type 0
NamesAreARow = (table : ℕ) → names_line table ≡ row_of (columns_of table)

-- all of them: what `names_hold` promises
pub record Claims : Type 0 where
  pub names_are_aRow : NamesAreARow
