use Rattle.base.proofs.slice.same_holds.Goals as goal
use Rattle.base.proofs.Same.{same-is-equal}

pub returns : goal.returns
returns c = record { same_is_equal = same-is-equal }
