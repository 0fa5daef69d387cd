-- Storing the rest of v from `to + i` on gives what storing all of v at `to` gives. Every goal closes by itself.
use Rattle.std.proofs.Common.{◌≡◌, ◌+◌, length, drop}
use Rattle.std.proofs.lemmas.List.Edits.{sets}
use Rattle.row.proofs.copy.copy_each.Given as goal

abbrev pub invariant-loop-i : goal.invariant-loop-i
invariant-loop-i l = (length l.out ≡ length l.initial.out) × (sets l.initial.out l.to l.v ≡ sets l.out (l.to + l.i) (drop l.i l.v))
