use Rattle.rfc4180.specs.Csv.{is_text}
use Rattle.rfc4180.proofs.is_text.Goals as goal
use mathlib.Core.Path.{refl}

pub returns : goal.returns
unfolding is_text
returns c = refl
