-- Storing the doubled rest from `n + i` on gives what storing all of v doubled at `to` gives. n is `to` and the quotes before i.
use Rattle.std.proofs.Common.{◌≡◌, ◌+◌, length, drop}
use Rattle.std.proofs.lemmas.List.Edits.{sets}
use Rattle.rfc4180.specs.Write.{doubled}
use Rattle.row.proofs.quoted.put_each.Given as goal

abbrev pub invariant-loop-i : goal.invariant-loop-i
invariant-loop-i l = (length l.out ≡ length l.initial.out) × (l.n + l.i + length (doubled (drop l.i l.v)) ≡ l.to + length (doubled l.v)) × (sets l.initial.out l.to (doubled l.v) ≡ sets l.out (l.n + l.i) (doubled (drop l.i l.v)))
