-- No byte of the first blocks is special.
use Rattle.std.proofs.Common.{◌≡◌, ◌*◌, false, take}
use Rattle.rfc4180.specs.Write.{any_special}
use Rattle.row.proofs.special.any_special.Given as goal

abbrev pub invariant-loop-block : goal.invariant-loop-block
invariant-loop-block l = any_special (take (16 * l.block-index) l.v) ≡ false
