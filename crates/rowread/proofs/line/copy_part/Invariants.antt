-- Storing the rest of the bytes from `to + i` on gives what storing all of them at `to` gives.
use Rattle.std.proofs.Common.{◌≡◌, ◌+◌, ◌-◌, length, take, drop}
use Rattle.std.proofs.lemmas.List.Edits.{sets}
use Rattle.rowread.proofs.line.copy_part.Given as goal

abbrev pub invariant-loop-i : goal.invariant-loop-i
invariant-loop-i l = (length l.out ≡ length l.initial.out) × (sets l.initial.out l.to (take (l.end - l.from) (drop l.from l.t)) ≡ sets l.out (l.to + l.i) (drop l.i (take (l.end - l.from) (drop l.from l.t))))
