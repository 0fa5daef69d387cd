use Rattle.std.proofs.Common.{Bool}
use Rattle.lower.proofs.may_append_parts.Goals as goal
use mathlib.Core.Path.{ap}
use mathlib.Core.Bool.{not, ◌&&◌}
use Rattle.writer.specs.State.{in_range}

pub returns : goal.returns
unfolding in_range
returns c = λ ss tail. ap (λ (t : Bool). t && not c.args.p.contents.closed) c.parts_in_range.ensures
