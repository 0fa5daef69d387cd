-- The value is read and written up to p (`Unquoting`). The measure is how many bytes are left.
use Prim.Native.Nat.{◌-◌}
use lib.ListN.{length}
use Rattle.rowread.specs.Steps.{Unquoting}
use Rattle.rowread.proofs.unquote.unquote_bytes.Given as goal

abbrev pub invariant-loop-p : goal.invariant-loop-p
invariant-loop-p l = Unquoting 0 l.write l.t l.from l.initial.out l.to l.out l.p l.n

abbrev pub decreases-loop-p : goal.decreases-loop-p
decreases-loop-p l = length l.t - l.p
