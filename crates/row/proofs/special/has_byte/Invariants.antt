-- The byte is among all exactly if it was found so far or is among the rest.
use Rattle.std.proofs.Common.{◌≡◌, ◌||◌, drop}
use Rattle.row.specs.Steps.{has}
use Rattle.row.proofs.special.has_byte.Given as goal

abbrev pub invariant-loop-b : goal.invariant-loop-b
invariant-loop-b l = has l.byte l.v ≡ l.found || has l.byte (drop l.b-index l.v)
