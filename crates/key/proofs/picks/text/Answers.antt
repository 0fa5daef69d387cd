-- The text between two offsets; rising offsets show that the slice is inside.
use Rattle.key.specs.Steps.{between}
use Rattle.key.proofs.picks.text.Goals as goal
use mathlib.Core.Path.{refl}

pub returns : goal.returns
unfolding between
returns c = refl
