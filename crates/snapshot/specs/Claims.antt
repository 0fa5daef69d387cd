-- What is proved of the rows of a bank, beside the call's promise (proofs/Tables.antt, proofs/Data.antt).
use Rattle.std.specs.Prelude.{ℕ, ◌≤◌, ◌<◌, ◌≡◌, List, [], ◌∷◌, ◌++◌, take, drop, get_or, Ok, None}
use Rattle.record.specs.declared.Block.{Block}
use Rattle.record.specs.Record.{no_block}
use Rattle.header.specs.declared.Bank.{Bank}
use Rattle.bank.specs.Bank.{named, data_in}
use Rattle.snapshot.specs.Source.{source_in}
use Rattle.row.specs.Columns.{columns_of, column_count, names_line}
use Rattle.rowread.specs.Claims.{AllFit, table_of}
use Rattle.snapshot.specs.Rows.{table_in, bank_row_answer, values_in}
use Rattle.base.specs.Table.{last_table}
use Rattle.rowread.specs.Stored.{stored, stored}

abbrev Text : Type 0
Text = List ℕ

-- from an offset on, rows of a table of a bank are read one by one, each at the offset that the read before it gave, up to the table's end
pub data BankReads (region : Text) (n i t capacity slots : ℕ) : ℕ → List (List Text) → Type 0 where
  at_end : {offset : ℕ} → bank_row_answer region n i t offset capacity slots ≡ Ok None → BankReads region n i t capacity slots offset []
  onward : {offset next size : ℕ} {vs : List Text} {rows : List (List Text)} → bank_row_answer region n i t offset capacity slots ≡ stored next size
      → values_in region n i t offset ≡ vs → BankReads region n i t capacity slots next rows → BankReads region n i t capacity slots offset (vs ∷ rows)

-- if a table of a bank that passes 3 to 6 has the bytes that a writer gives it, a names line and rows, then the names are read at offset 0,
-- and after them row by row to the table's end (reads-bank)
abbrev pub ReadsBank : Type 0
ReadsBank = (region : Text) (n i t capacity slots : ℕ) (b : Bank) (rows : List (List Text)) → named region n ≡ Ok b → i < b.count → t ≤ last_table
    → table_in region b i t ≡ names_line t ++ table_of rows → AllFit (column_count t) capacity slots (columns_of t ∷ rows)
    → BankReads region n i t capacity slots 0 (columns_of t ∷ rows)

-- the bytes of a block among a bank's data
abbrev pub part_of : Block → Text → Text
part_of k bytes = take k.length (drop k.offset bytes)

-- a table of a source below the count is a part of the bank's data, whose CRC load tests (in-data)
abbrev pub InData : Type 0
InData = (region : Text) (n i t : ℕ) (b : Bank) → named region n ≡ Ok b → i < b.count
    → table_in region b i t ≡ part_of (get_or (source_in region b i).tables t no_block) (data_in region b)

-- all of them: what `bank_rows_hold` promises
pub record Claims : Type 0 where
  pub reads_bank : ReadsBank
  pub in_data : InData
