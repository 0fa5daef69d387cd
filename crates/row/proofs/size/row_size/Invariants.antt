-- The row has `total` bytes and those of the values left.
use Rattle.std.proofs.Common.{◌≡◌, ◌+◌, ◌≤◌, length, drop}
use Rattle.rfc4180.specs.Csv.{max_row}
use Rattle.rfc4180.specs.Write.{row_of}
use Rattle.row.specs.Write.{cut_by, passed_values}
use Rattle.row.proofs.size.row_size.Given as goal

abbrev pub invariant-loop-n : goal.invariant-loop-n
invariant-loop-n l = (l.total ≤ max_row) × (length (row_of (passed_values l.texts l.lengths)) ≡ l.total + length (row_of (cut_by (drop l.n-index l.lengths) l.rest)))
