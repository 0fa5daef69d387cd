-- Storing the rest of the bytes from `at + i` on gives what storing all of them at `at` gives.
use Rattle.std.proofs.Common.{◌≡◌, ◌+◌, drop}
use Rattle.std.proofs.lemmas.List.Edits.{sets}
use Rattle.lower.proofs.append.put_tail.Given as goal

abbrev pub invariant-loop-i : goal.invariant-loop-i
invariant-loop-i l = sets l.initial.tail l.at l.bytes ≡ sets l.tail (l.at + l.i) (drop l.i l.bytes)
