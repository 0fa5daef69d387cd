-- The bytes before i are equal, so the order is that of the rests.
use Rattle.std.proofs.Common.{◌≤◌, length, min}
use Rattle.std.specs.Ordering.{nat_cmp}
use Rattle.std.specs.Cmp.Lexicographic.{slice_cmp}
use Rattle.std.proofs.cmp.SliceLoops.{Rest}
use Rattle.key.proofs.picks.order.Given as goal

abbrev pub invariant-loop-i : goal.invariant-loop-i
invariant-loop-i l = (l.i ≤ min (length l.a) (length l.b)) × Rest (slice_cmp nat_cmp) l.a l.b l.i
