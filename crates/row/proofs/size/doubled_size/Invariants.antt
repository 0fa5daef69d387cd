-- n is the length of all bytes and of the quotes in the parts so far.
use Rattle.std.proofs.Common.{◌≡◌, ◌+◌, ◌-◌, ◌*◌, length, drop}
use Rattle.rfc4180.specs.Write.{doubled}
use Rattle.row.proofs.size.doubled_size.Given as goal

abbrev pub invariant-loop-part : goal.invariant-loop-part
invariant-loop-part l = l.n + length (doubled (drop (64 * l.part-index) l.v)) ≡ length (doubled l.v) + (length l.v - 64 * l.part-index)
