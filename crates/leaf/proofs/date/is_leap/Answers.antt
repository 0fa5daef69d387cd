-- The code's three tests are the definition's.
use Rattle.leaf.specs.Date.{leap}
use Rattle.leaf.proofs.date.is_leap.Goals as goal
use Rattle.std.proofs.Common.{refl}

pub returns : goal.returns
unfolding leap
returns c = refl
