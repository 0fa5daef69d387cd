-- The marks without the lowest, computed for all eight marks (Words.antt).
use Rattle.std.proofs.Common.{◌-◌}
use Rattle.rowread.proofs.marks.clear_first.Goals as goal
use native.Mathlib.Omega.{arith}
use lib.Bits.{and_le_r}
use Rattle.rowread.proofs.Words.{lowest-told}

pub returns : goal.returns
returns c = (λ ms h e. (lowest-told ms c.args.m h e c.requires).others, omega (arith, and_le_r c.args.m (c.args.m - 1)))
