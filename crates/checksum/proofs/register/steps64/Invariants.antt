-- The digits from `row` on have made the steps that are left of x once the digits below are shifted out.
use Rattle.std.proofs.Common.{◌≡◌, ◌-◌, ◌*◌, ◌/◌, ◌^◌}
use Rattle.checksum.specs.Register.{steps}
use Rattle.checksum.proofs.register.steps64.Given as goal

abbrev pub invariant-loop-row : goal.invariant-loop-row
invariant-loop-row l = l.r ≡ steps (64 - 7 * l.row) (l.x / 2 ^ (7 * l.row))
