-- A table of a bank reads row by row: its bytes are a names line and rows, and `rowread` proves it of any such bytes.
use mathlib.Core.Path.{◌≡◌, ap, ◌∙◌, sym}
use mathlib.Core.Bool.{true}
use mathlib.Core.List.{List, [], ◌∷◌, ◌++◌}
use Prim.Native.Nat.{ℕ}
use borrow.Author.Tests.{lt-ltb, le-leb}
use lib.Dec.{leb, ltb}
use Rattle.header.specs.declared.Bank.{Bank}
use Rattle.bank.specs.Bank.{named}
use Rattle.row.specs.Columns.{columns_of, column_count, names_line}
use Rattle.row.proofs.Names.{names-are-a-row}
use Rattle.rowread.specs.Claims.{Reads, at_end as end_of_table, onward as further, table_of}
use Rattle.rowread.proofs.Table.{reads-table}
use Rattle.snapshot.specs.Rows.{table_in}
use Rattle.snapshot.specs.Claims.{BankReads, at_end, onward, ReadsBank}
use Rattle.snapshot.proofs.RowsLaws.{is-answer, is-values}
use Rattle.base.specs.Table.{last_table}
use Rattle.std.specs.Prelude.{Ok}

abbrev Text : Type 0
Text = List ℕ

module _ (region : Text) (n i t capacity slots : ℕ) (b : Bank) (e : named region n ≡ Ok b) (l : ltb i b.count ≡ true) (h : leb t last_table ≡ true) where
  -- what is read of the table's bytes is read of the bank
  from-table : (offset : ℕ) (rows : List (List Text)) → Reads (table_in region b i t) (column_count t) capacity slots offset rows → BankReads region n i t capacity slots offset rows
  from-table offset [] (end_of_table q) = at_end (sym (is-answer region n i t offset capacity slots b h e l) ∙ q)
  from-table offset (vs ∷ rows) (further {next = next} q v r) =
      onward (sym (is-answer region n i t offset capacity slots b h e l) ∙ q) (sym (is-values region n i t offset capacity slots b h e) ∙ v) (from-table next rows r)

-- a names line and rows are the table of these rows
is-table : (t : ℕ) (rows : List (List Text)) → names_line t ++ table_of rows ≡ table_of (columns_of t ∷ rows)
unfolding table_of
is-table t rows = ap (λ (l : Text). l ++ table_of rows) (names-are-a-row t)

pub reads-bank : ReadsBank
reads-bank region n i t capacity slots b rows e l h k f =
    from-table region n i t capacity slots b e (lt-ltb i b.count l) (le-leb t last_table h) 0 (columns_of t ∷ rows)
    (let q : table_in region b i t ≡ table_of (columns_of t ∷ rows) = k ∙ is-table t rows in
    rw q (reads-table (column_count t) capacity slots (columns_of t ∷ rows) f))
