-- Each answer as numbers for C. Refusal 0 means none; on a refusal every other number is 0.
use Rattle.std.specs.Prelude.{ℕ, leb, Ok, Err, Some, None, Result, Option, true, false, Bool}
use Rattle.base.specs.Number.{pick}
use Rattle.base.specs.Table.{last_table}
use Rattle.refusal.specs.declared.Refusal.TheVariants.{Argument}
use Rattle.refusal.specs.Refusal.{number_of}
use Rattle.row.specs.Columns.{column_count}
use Rattle.bankcore.specs.declared.row_calls.ColumnNumbers.{ColumnNumbers}
use Rattle.bankcore.specs.declared.row_calls.RowNumbers.{RowNumbers}
use Rattle.bankcore.specs.declared.row_calls.ReadNumbers.{ReadNumbers}
use Rattle.bankcore.specs.declared.row_calls.FilterNumbers.{FilterNumbers}
use Rattle.refusal.specs.declared.Refusal.{Refusal}
use Rattle.rowread.specs.declared.Span.{Span}

-- how many columns a table has; 2 above the last one
abbrev pub of_columns : ℕ → ColumnNumbers
of_columns table = pick (leb table last_table) (record { refusal = 0; count = column_count table }) (record { refusal = number_of Argument; count = 0 })

abbrev pub of_row : Result ℕ Refusal → RowNumbers
of_row (Ok n) = record { refusal = 0; length = n }
of_row (Err r) = record { refusal = number_of r; length = 0 }

-- no row: a refusal, or 0 at the table's end
abbrev pub no_row : ℕ → ReadNumbers
no_row r = record { refusal = r; found = 0; next = 0; size = 0 }

abbrev pub of_read : Result (Option Span) Refusal → ReadNumbers
of_read (Ok (Some s)) = record { refusal = 0; found = 1; next = s.next; size = s.size }
of_read (Ok None) = no_row 0
of_read (Err r) = no_row (number_of r)

abbrev pub of_filter : Result Bool Refusal → FilterNumbers
of_filter (Ok true) = record { refusal = 0; present = 1 }
of_filter (Ok false) = record { refusal = 0; present = 0 }
of_filter (Err r) = record { refusal = number_of r; present = 0 }
