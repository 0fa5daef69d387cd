-- std's `==` of slices compares pair by pair, and is `same` (`same-pointwise`).
use Rattle.base.proofs.slice.same_bytes.Goals as goal
use mathlib.Core.Path.{◌∙◌}
use Rattle.base.proofs.Same.{same-pointwise}

pub returns : goal.returns
returns c = c.eq.ensures ∙ same-pointwise c.args.a.now c.args.b.now
