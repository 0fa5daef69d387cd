use Rattle.lower.proofs.may_end_parts.Goals as goal
use mathlib.Core.Bool.{◌&&◌}
use Rattle.writer.specs.State.{in_range}

pub returns : goal.returns
unfolding in_range
returns c = λ ss tail. (λ i. c.parts_in_range.ensures i && c.is_open.ensures i)
