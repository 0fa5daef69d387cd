use Rattle.std.proofs.Common.{rules}
use Rattle.writer.proofs.is_due.Goals as goal
use Rattle.writer.specs.State.{is_due}

pub returns : goal.returns
unfolding is_due
returns c = search rules
