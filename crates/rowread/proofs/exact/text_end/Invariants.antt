-- The value from `from` on ends where the value after the first k words ends, and, in the second loop, where the value from i on ends.
use Prim.Native.Nat.{◌+◌, ◌*◌}
use mathlib.Core.Path.{◌≡◌}
use lib.ListN.{length, drop}
use Rattle.rfc4180.specs.Read.{plain_value}
use Rattle.rowread.proofs.exact.text_end.Given as goal

abbrev pub invariant-loop-k : goal.invariant-loop-k
invariant-loop-k l = l.from + length (plain_value (drop l.from l.t)) ≡ l.from + l.k * 8 + length (plain_value (drop (l.from + l.k * 8) l.t))

abbrev pub invariant-loop-i : goal.invariant-loop-i
invariant-loop-i l = l.from + length (plain_value (drop l.from l.t)) ≡ l.i + length (plain_value (drop l.i l.t))
