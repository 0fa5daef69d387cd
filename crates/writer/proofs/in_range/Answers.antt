use Rattle.writer.proofs.in_range.Goals as goal
use Rattle.writer.specs.State.{in_range}

pub returns : goal.returns
unfolding in_range
returns c = c.parts_in_range.ensures
