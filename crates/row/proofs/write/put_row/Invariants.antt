-- Storing the row of the values left from `to` on gives what storing the whole row at 0 gives.
use Rattle.std.proofs.Common.{◌≡◌, ◌+◌, false, length, drop}
use Rattle.std.proofs.lemmas.List.Edits.{sets}
use Rattle.rfc4180.specs.Write.{row_of, any_special}
use Rattle.row.specs.Write.{cut_by, passed_values}
use Rattle.row.proofs.write.put_row.Given as goal

abbrev pub invariant-loop-k : goal.invariant-loop-k
invariant-loop-k l =
    let left = row_of (cut_by (drop l.k l.lengths) l.rest) in
    let row = row_of (passed_values l.texts l.lengths) in
    record {
      plain : l.test ≡ false → any_special l.rest ≡ false;
      same_length : length l.out ≡ length l.initial.out;
      size : l.to + length left ≡ length row;
      stored : sets l.initial.out 0 row ≡ sets l.out l.to left;
    }
