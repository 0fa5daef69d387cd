-- All are set exactly if those so far are and those left are.
use Rattle.std.proofs.Common.{◌≡◌, ◌&&◌, drop}
use Rattle.bloom.specs.Bloom.{all_set}
use Rattle.bloom.proofs.all_set.Given as goal

abbrev pub invariant-loop-p : goal.invariant-loop-p
invariant-loop-p l = l.all && all_set l.bits (drop l.p-index l.positions) ≡ all_set l.bits l.positions
