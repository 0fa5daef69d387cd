-- The call that reads a stored row: a row of `width` values at an offset of a table.
use Rattle.std.specs.Prelude.{ℕ, ◌+◌, ◌-◌, eqb, leb, List, [], ◌∷◌, ◌++◌, length, take, drop, Ok, Err, Some, None, Result, Option}
use Rattle.base.specs.Number.{pick}
use Rattle.leaf.specs.Bytes.{written}
use Rattle.rfc4180.specs.Csv.{max_row}
use Rattle.rfc4180.specs.Read as Csv
use Rattle.refusal.specs.declared.Refusal.TheVariants.{Small, Row}
use Rattle.refusal.specs.declared.Refusal.{Refusal}
use Rattle.rowread.specs.declared.Span.{Span}

-- ---- the row

-- the bytes that a row at an offset may have: a row that goes on after them is too long, and has no row end among them. 02, E4: "both bytes counting in the 8,192"
abbrev pub part_at : List ℕ → ℕ → List ℕ
part_at table offset = take max_row (drop offset table)

-- the row of `width` values at an offset
abbrev pub row_at : List ℕ → ℕ → ℕ → Csv.Row
row_at table width offset = Csv.values width (part_at table offset)

-- the values of a row, none where there is no row
abbrev pub values_of : Csv.Row → List (List ℕ)
values_of (Csv.row vs rest) = vs
values_of Csv.malformed = []

abbrev pub values_at : List ℕ → ℕ → ℕ → List (List ℕ)
values_at table width offset = values_of (row_at table width offset)

-- ---- the outputs

-- the values joined
unfoldable pub joined : List (List ℕ) → List ℕ
joined [] = []
joined (v ∷ vs) = v ++ joined vs

-- where each value ends among the values joined, the first starting at `from`
unfoldable pub ends_of : ℕ → List (List ℕ) → List ℕ
ends_of from [] = []
ends_of from (v ∷ vs) = (from + length v) ∷ ends_of (from + length v) vs

-- the answer for a row that was read: the offset of the next row, and how many bytes the values have
abbrev pub stored : ℕ → ℕ → Result (Option Span) Refusal
stored next size = Ok (Some (record { next = next; size = size }))

-- a row read within n bytes from an offset on: 14 if it is malformed; then 9 if the values joined, or their ends, don't fit; else
-- the offset after the row, and how many bytes the values have
abbrev pub found : ℕ → ℕ → ℕ → ℕ → Csv.Row → Result (Option Span) Refusal
found offset n capacity slots Csv.malformed = Err Row
found offset n capacity slots (Csv.row vs rest) =
    pick (leb (length (joined vs)) capacity)
    (pick (leb (length vs) slots) (stored (offset + (n - length rest)) (length (joined vs))) (Err Small))
    (Err Small)

-- the answer: 14 past the table's end; no row at its end; else what is found
unfoldable pub read_answer : List ℕ → ℕ → ℕ → ℕ → ℕ → Result (Option Span) Refusal
read_answer table width offset capacity slots =
    pick (leb offset (length table))
    (pick (eqb offset (length table)) (Ok None) (found offset (length (part_at table offset)) capacity slots (row_at table width offset)))
    (Err Row)

-- a lent output after the call: if a row was read, `new` at its start and the rest unchanged; else all unchanged
abbrev pub after : Result (Option Span) Refusal → List ℕ → List ℕ → List ℕ
after (Ok (Some s)) new out = written out 0 new
after (Ok None) new out = out
after (Err r) new out = out
