-- A row of a loaded bank: named by bank, source, table, and the offset in the table where it starts.
use Rattle.std.specs.Prelude.{List, [], ℕ, ◌+◌, leb, ltb, take, drop, get_or, Ok, Err, Result, Option}
use Rattle.base.specs.Number.{pick}
use Rattle.refusal.specs.declared.Refusal.TheVariants.{Source as NoSuchSource}
use Rattle.record.specs.declared.Block.{Block}
use Rattle.record.specs.Record.{no_block}
use Rattle.header.specs.declared.Bank.{Bank}
use Rattle.region.specs.Region.{sector_size, bank_of}
use Rattle.snapshot.specs.Source.{source_in}
use Rattle.snapshot.specs.Freshness.{named_if}
use Rattle.row.specs.Columns.{column_count}
use Rattle.rowread.specs.Stored.{values_at, read_answer}
use Rattle.base.specs.Table.{last_table}
use Rattle.refusal.specs.declared.Refusal.{Refusal}
use Rattle.rowread.specs.declared.Span.{Span}

-- the bytes of a block of bank n: its offset counts from the data, which follow the header sector
unfoldable pub bytes_of : List ℕ → ℕ → Block → List ℕ
bytes_of region n b = take b.length (drop (sector_size + b.offset) (bank_of region n))

-- the bytes of a table of the source at an index; an absent table's block has the length 0, and so no bytes
abbrev pub table_in : List ℕ → Bank → ℕ → ℕ → List ℕ
table_in region b i t = bytes_of region b.number (get_or (source_in region b i).tables t no_block)

-- the block of a table of a source: 1, 2 (bank and table), 3 to 6, 6 at or past the count
abbrev pub then_block : List ℕ → ℕ → ℕ → Result Bank Refusal → Result Block Refusal
then_block region i t (Ok b) = pick (ltb i b.count) (Ok (get_or (source_in region b i).tables t no_block)) (Err NoSuchSource)
then_block region i t (Err r) = Err r

unfoldable pub block_answer : List ℕ → ℕ → ℕ → ℕ → Result Block Refusal
block_answer region n i t = then_block region i t (named_if (leb t last_table) region n)

-- 6 for a source at or past the count; then the answer of the reader: 14, 9, no row at the table's end, or the row
abbrev pub then_row : List ℕ → ℕ → ℕ → ℕ → ℕ → ℕ → Result Bank Refusal → Result (Option Span) Refusal
then_row region i t offset capacity slots (Ok b) =
    pick (ltb i b.count) (read_answer (table_in region b i t) (column_count t) offset capacity slots) (Err NoSuchSource)
then_row region i t offset capacity slots (Err r) = Err r

-- 1, 2 (bank and table), 3 to 6, 6 at or past the count, 14, 9
unfoldable pub bank_row_answer : List ℕ → ℕ → ℕ → ℕ → ℕ → ℕ → ℕ → Result (Option Span) Refusal
bank_row_answer region n i t offset capacity slots = then_row region i t offset capacity slots (named_if (leb t last_table) region n)

-- the values of the row at an offset; the outputs get them only if the answer is `Stored`
abbrev pub then_values : List ℕ → ℕ → ℕ → ℕ → Result Bank Refusal → List (List ℕ)
then_values region i t offset (Ok b) = values_at (table_in region b i t) (column_count t) offset
then_values region i t offset (Err r) = []

unfoldable pub values_in : List ℕ → ℕ → ℕ → ℕ → ℕ → List (List ℕ)
values_in region n i t offset = then_values region i t offset (named_if (leb t last_table) region n)
