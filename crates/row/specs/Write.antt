-- The calls that write: a table's names line, and a row.
use Rattle.std.specs.Prelude.{ℕ, eqb, leb, List, [], ◌∷◌, length, take, drop, Ok, Err, Result}
use Rattle.base.specs.Number.{pick}
use Rattle.leaf.specs.Bytes as Bytes
use Rattle.rfc4180.specs.Csv.{max_row}
use Rattle.rfc4180.specs.Write.{row_of}
use Rattle.refusal.specs.declared.Refusal.TheVariants.{Argument, Small, Row}
use Rattle.row.specs.Columns.{column_count, names_line}
use Rattle.base.specs.Table.{last_table}
use Rattle.refusal.specs.declared.Refusal.{Refusal}

-- the values as passed, texts joined, with their lengths: each has as many bytes as its length says, after the values before it;
-- fewer where the bytes end
unfoldable pub cut_by : List ℕ → List ℕ → List (List ℕ)
cut_by [] t = []
cut_by (n ∷ ns) t = take n t ∷ cut_by ns (drop n t)

abbrev pub passed_values : List ℕ → List ℕ → List (List ℕ)
passed_values texts lengths = cut_by lengths texts

-- how many bytes are written if the output has the capacity for them, else 9
unfoldable pub within : ℕ → List ℕ → Result ℕ Refusal
within capacity bytes = pick (leb (length bytes) capacity) (Ok (length bytes)) (Err Small)

-- the output after a call: the bytes at its start, the rest unchanged; on a refusal all unchanged
abbrev pub after : Result ℕ Refusal → List ℕ → List ℕ → List ℕ
after (Ok n) bytes out = Bytes.written out 0 bytes
after (Err r) bytes out = out

-- `names_line`: 2 for a table above 7, then 9, else how many bytes are written
unfoldable pub names_answer : ℕ → ℕ → Result ℕ Refusal
names_answer table capacity = pick (leb table last_table) (within capacity (names_line table)) (Err Argument)

-- `row`: 2 for a table above 7, then 14 for a wrong number of values or a row that is too long, then 9
unfoldable pub row_answer : ℕ → List ℕ → List ℕ → ℕ → Result ℕ Refusal
row_answer table texts lengths capacity =
    pick (leb table last_table)
    (pick (eqb (length lengths) (column_count table))
    (pick (leb (length (row_of (passed_values texts lengths))) max_row) (within capacity (row_of (passed_values texts lengths))) (Err Row))
    (Err Row))
    (Err Argument)
