-- The answers of the calls, one lemma a case, in the order of the tests: table, number of values, length of the row, size of the output.
use Prim.Native.Nat.{ℕ, ◌≤◌, ◌<◌, min, ◌+◌}
use native.Mathlib.Omega.{arith}
use mathlib.Core.Path.{◌≡◌, refl, sym, ap, ◌∙◌}
use mathlib.Core.List.{List}
use lib.ListN.{length}
use lib.Seq.{sets}
use borrow.Author.Tests.{eq-eqb, ne_eqb, le-leb, lt-leb}
use Rattle.leaf.proofs.Laws.{written-sets}
use Rattle.rfc4180.specs.Csv.{max_row}
use Rattle.rfc4180.specs.Write.{row_of}
use Rattle.refusal.specs.declared.Refusal.TheVariants.{Argument, Small, Row}
use Rattle.row.specs.Columns.{column_count, names_line}
use Rattle.row.specs.Write.{passed_values, within, after, names_answer, row_answer}
use Rattle.base.specs.Table.{last_table}
use Rattle.std.specs.Prelude.{Ok, Err, Result}
use Rattle.refusal.specs.declared.Refusal.{Refusal}

-- ---- bytes into an output

module _ (bytes out : List ℕ) where
  pub too_small : length out < length bytes → (Err Small ≡ within (length out) bytes) × (out ≡ after (Err Small) bytes out)
  unfolding within
  too_small h = (rw (lt-leb (length bytes) (length out) h), refl)

  pub put-there : (n : ℕ) (o : List ℕ) → n ≡ length bytes → length bytes ≤ length out → o ≡ sets out 0 bytes
      → (Ok n ≡ within (length out) bytes) × (o ≡ after (Ok n) bytes out)
  unfolding within
  put-there n o e h p = (rw (le-leb (length bytes) (length out) h) (ap Ok e), p ∙ sym (written-sets out 0 bytes (omega arith)))

-- ---- names_line

module _ (table : ℕ) (out : List ℕ) where
  pub names-past : last_table < table → (Err Argument ≡ names_answer table (length out)) × (out ≡ after (Err Argument) (names_line table) out)
  unfolding names_answer
  names-past h = (rw (lt-leb table last_table h), refl)

  pub names-there : table ≤ last_table → (r : Result ℕ Refusal) → r ≡ within (length out) (names_line table) → r ≡ names_answer table (length out)
  unfolding names_answer
  names-there h r e = rw (le-leb table last_table h) e

-- ---- row

module _ (table : ℕ) (texts lengths out : List ℕ) where
  pub row-past : last_table < table → (Err Argument ≡ row_answer table texts lengths (length out)) × (out ≡ after (Err Argument) (row_of (passed_values texts lengths)) out)
  unfolding row_answer
  row-past h = (rw (lt-leb table last_table h), refl)

  module _ (t : table ≤ last_table) where
    pub row_count : (length lengths ≡ column_count table → ⊥)
        → (Err Row ≡ row_answer table texts lengths (length out)) × (out ≡ after (Err Row) (row_of (passed_values texts lengths)) out)
    unfolding row_answer
    row_count h = (rw (le-leb table last_table t, ne_eqb (length lengths) (column_count table) h), refl)

    module _ (h : length lengths ≡ column_count table) (n : ℕ) (e : n ≡ min (max_row + 1) (length (row_of (passed_values texts lengths)))) where
      pub row-long : max_row < n → (Err Row ≡ row_answer table texts lengths (length out)) × (out ≡ after (Err Row) (row_of (passed_values texts lengths)) out)
      unfolding row_answer
      row-long l =
          let m : max_row < length (row_of (passed_values texts lengths)) = omega arith in
          (rw (le-leb table last_table t, eq-eqb (length lengths) (column_count table) h, lt-leb (length (row_of (passed_values texts lengths))) max_row m), refl)

      fits : n ≤ max_row → row_answer table texts lengths (length out) ≡ within (length out) (row_of (passed_values texts lengths))
      unfolding row_answer
      fits l =
          let m : length (row_of (passed_values texts lengths)) ≤ max_row = omega arith in
          rw (le-leb table last_table t, eq-eqb (length lengths) (column_count table) h, le-leb (length (row_of (passed_values texts lengths))) max_row m)

      pub row_small : n ≤ max_row → length out < n
          → (Err Small ≡ row_answer table texts lengths (length out)) × (out ≡ after (Err Small) (row_of (passed_values texts lengths)) out)
      row_small l r = let k : length out < length (row_of (passed_values texts lengths)) = omega arith in ((too_small (row_of (passed_values texts lengths)) out k).0 ∙ sym (fits l), refl)

      pub row_fits : n ≤ max_row → n ≤ length out → (o : List ℕ) → o ≡ sets out 0 (row_of (passed_values texts lengths))
          → (Ok n ≡ row_answer table texts lengths (length out)) × (o ≡ after (Ok n) (row_of (passed_values texts lengths)) out)
      row_fits l r o p =
          let z : n ≡ length (row_of (passed_values texts lengths)) = omega arith in
          let w = put-there (row_of (passed_values texts lengths)) out n o z (omega arith) p in
          (w.0 ∙ sym (fits l), w.1)
