-- n quotes are among the bytes so far, so these and the doubled rest have the length of all doubled.
use Rattle.std.proofs.Common.{◌≡◌, ◌+◌, ◌≤◌, length, drop}
use Rattle.rfc4180.specs.Write.{doubled}
use Rattle.row.proofs.size.quotes.Given as goal

abbrev pub invariant-loop-b : goal.invariant-loop-b
invariant-loop-b l = (l.n ≤ l.b-index) × (l.n + l.b-index + length (doubled (drop l.b-index l.v)) ≡ length (doubled l.v))
