-- The first blocks are stored and have no quote, so doubling leaves them as they are.
use Rattle.std.proofs.Common.{◌≡◌, ◌*◌, ◌++◌, length, take, drop}
use Rattle.std.proofs.lemmas.List.Edits.{sets}
use Rattle.rfc4180.specs.Write.{doubled}
use Rattle.row.proofs.quoted.put_plain_blocks.Given as goal

abbrev pub invariant-loop-i : goal.invariant-loop-i
invariant-loop-i l = (length l.out ≡ length l.initial.out) × (doubled l.v ≡ take (16 * l.i) l.v ++ doubled (drop (16 * l.i) l.v)) × (l.out ≡ sets l.initial.out l.to (take (16 * l.i) l.v))
