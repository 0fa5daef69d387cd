-- Zeros of every field are the source of zeros.
use Rattle.base.specs.Lists.{fill}
use Rattle.record.specs.Record.{no_source}
use Rattle.record.proofs.no_source.Goals as goal
use mathlib.Core.Path.{refl}

pub returns : goal.returns
unfolding no_source fill
returns c = refl
