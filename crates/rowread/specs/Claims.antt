-- What is proved of the reading, beside the call's promise (proofs/Table.antt).
use Rattle.std.specs.Prelude.{ℕ, ◌+◌, ◌-◌, ◌≤◌, ◌≡◌, List, [], ◌∷◌, ◌++◌, length, drop, Ok, Err, None}
use Rattle.rfc4180.specs.Csv.{Record, LoneCr, max_row}
use Rattle.rfc4180.specs.Write.{row_of}
use Rattle.refusal.specs.declared.Refusal.TheVariants.{Small, Row}
use Rattle.rowread.specs.Stored.{stored, values_at, joined, read_answer}

abbrev Text : Type 0
Text = List ℕ

-- values that the writer writes as a row, and that fit in the outputs
pub record Fits (width capacity slots : ℕ) (vs : List Text) : Type 0 where
  pub some : 1 ≤ width
  pub wide : length vs ≡ width
  pub short : length (row_of vs) ≤ max_row
  pub bytes : length (joined vs) ≤ capacity
  pub ends : width ≤ slots

-- a written row is read back, whatever bytes are before and after it: its values, and the offset after it (reads-written)
abbrev pub ReadsWritten : Type 0
ReadsWritten = (before following : Text) (vs : List Text) (width capacity slots : ℕ) → Fits width capacity slots vs
    → (read_answer (before ++ (row_of vs ++ following)) width (length before) capacity slots ≡ stored (length before + length (row_of vs)) (length (joined vs)))
    × (values_at (before ++ (row_of vs ++ following)) width (length before) ≡ vs)

-- the rows of a table, joined
unfoldable pub table_of : List (List Text) → Text
table_of [] = []
table_of (vs ∷ rows) = row_of vs ++ table_of rows

-- from an offset on, rows are read one by one, each at the offset that the read before it gave, up to the table's end
pub data Reads (table : Text) (width capacity slots : ℕ) : ℕ → List (List Text) → Type 0 where
  at_end : {offset : ℕ} → read_answer table width offset capacity slots ≡ Ok None → Reads table width capacity slots offset []
  onward : {offset next size : ℕ} {vs : List Text} {rows : List (List Text)} → read_answer table width offset capacity slots ≡ stored next size
      → values_at table width offset ≡ vs → Reads table width capacity slots next rows → Reads table width capacity slots offset (vs ∷ rows)

abbrev pub AllFit : ℕ → ℕ → ℕ → List (List Text) → Type 0
AllFit width capacity slots [] = Unit {0}
AllFit width capacity slots (vs ∷ rows) = Fits width capacity slots vs × AllFit width capacity slots rows

-- a table of rows reads row by row to its end (reads-table)
abbrev pub ReadsTable : Type 0
ReadsTable = (width capacity slots : ℕ) (rows : List (List Text)) → AllFit width capacity slots rows → Reads (table_of rows) width capacity slots 0 rows

-- what is read as a row is one by the grammar, which has one reading (stored-is-a-row; specs/Claims.antt of csv: one_reading)
abbrev pub StoredIsARow : Type 0
StoredIsARow = (table : Text) (width offset capacity slots next size : ℕ) → read_answer table width offset capacity slots ≡ stored next size
    → Record (drop offset table) (values_at table width offset) (drop next table)

-- the row at an offset, by the grammar: `width` values, and at most 8,192 bytes with its row end, LF or CRLF. 02, E4: "both bytes counting in
-- the 8,192"
pub record RowThere (table : Text) (width offset : ℕ) (vs : List Text) (rest : Text) : Type 0 where
  pub is : Record (drop offset table) vs rest
  pub wide : length vs ≡ width
  pub short : length (drop offset table) ≤ length rest + max_row

-- such a row is read, if its values fit in the outputs (reads-rows)
abbrev pub ReadsRows : Type 0
ReadsRows = (table rest : Text) (vs : List Text) (width offset capacity slots : ℕ) → RowThere table width offset vs rest → length (joined vs) ≤ capacity → width ≤ slots
    → (read_answer table width offset capacity slots ≡ stored (offset + (length (drop offset table) - length rest)) (length (joined vs))) × (values_at table width offset ≡ vs)

-- if they don't, it meets 9 (small-outputs)
abbrev pub SmallOutputs : Type 0
SmallOutputs = (table rest : Text) (vs : List Text) (width offset capacity slots : ℕ) → RowThere table width offset vs rest → ((length (joined vs) ≤ capacity) × (width ≤ slots) → ⊥)
    → read_answer table width offset capacity slots ≡ Err Small

-- anywhere but at the table's end, where no such row is, 14 is met, whatever the outputs are (refuses-others); and at its end there is no row
-- (reads-end). With the two above this is every case
abbrev pub RefusesOthers : Type 0
RefusesOthers = (table : Text) (width offset capacity slots : ℕ) → (offset ≡ length table → ⊥) → ((vs : List Text) (rest : Text) → RowThere table width offset vs rest → ⊥)
    → read_answer table width offset capacity slots ≡ Err Row

abbrev pub ReadsEnd : Type 0
ReadsEnd = (table : Text) (width capacity slots : ℕ) → read_answer table width (length table) capacity slots ≡ Ok None

-- a table of rows one after the other, each ended by LF or CRLF, whose values have at most `capacity` bytes
pub data RowsOf (width capacity : ℕ) : Text → List (List Text) → Type 0 where
  no_rows : RowsOf width capacity [] []
  row_first : {table rest : Text} {vs : List Text} {rows : List (List Text)} → RowThere table width 0 vs rest → length (joined vs) ≤ capacity → RowsOf width capacity rest rows
      → RowsOf width capacity table (vs ∷ rows)

-- it is read row by row to its end (reads-all)
abbrev pub ReadsAll : Type 0
ReadsAll = (table : Text) (width capacity slots : ℕ) (rows : List (List Text)) → RowsOf width capacity table rows → width ≤ slots → Reads table width capacity slots 0 rows

-- what is read has at most 8,192 bytes and as many values as asked for; and written afresh it has no more bytes than it took (stored-limits)
pub record Limits (table : Text) (width offset next : ℕ) : Type 0 where
  pub within : next ≤ offset + max_row
  pub many : length (values_at table width offset) ≡ width
  pub afresh : offset + length (row_of (values_at table width offset)) ≤ next

abbrev pub StoredLimits : Type 0
StoredLimits = (table : Text) (width offset capacity slots next size : ℕ) → read_answer table width offset capacity slots ≡ stored next size → Limits table width offset next

-- a row that has a lone CR meets 14, whatever the outputs are (refuses-lone-cr). 02, E4: "A CR outside quotes without an LF after it is
-- malformed, refusal 14"
abbrev pub RefusesLoneCr : Type 0
RefusesLoneCr = (table : Text) (width offset capacity slots : ℕ) → LoneCr (drop offset table) → read_answer table width offset capacity slots ≡ Err Row

-- all of them: what `reads_hold` promises
pub record Claims : Type 0 where
  pub reads_written : ReadsWritten
  pub reads_table : ReadsTable
  pub stored_is_aRow : StoredIsARow
  pub reads_rows : ReadsRows
  pub small_outputs : SmallOutputs
  pub refuses_others : RefusesOthers
  pub reads_end : ReadsEnd
  pub reads_all : ReadsAll
  pub stored_limits : StoredLimits
  pub refuses_lone_cr : RefusesLoneCr
