-- The value is read and written up to p, and m has the marks of the word at i from p on (`Unquoting`, `Grid`). A turn moves i or p on, so the
-- measure is what is left after both.
use Prim.Native.Nat.{◌+◌, ◌-◌, ◌≤◌}
use lib.ListN.{length}
use Rattle.rowread.specs.Steps.{Grid, Unquoting}
use Rattle.rowread.proofs.unquote.unquote_by_marks.Given as goal

abbrev pub invariant-loop-i : goal.invariant-loop-i
invariant-loop-i l = (l.i ≤ length l.t) × Grid l.t l.i l.p l.m × Unquoting 16 l.write l.t l.from l.initial.out l.to l.out l.p l.n

abbrev pub decreases-loop-i : goal.decreases-loop-i
decreases-loop-i l = length l.t + length l.t - (l.i + l.p)
