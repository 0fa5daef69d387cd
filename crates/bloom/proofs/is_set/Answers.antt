use Rattle.bloom.proofs.is_set.Goals as goal
use Rattle.std.proofs.Common.{refl}
use Rattle.bloom.specs.Bloom.{is_set}

pub returns : goal.returns
unfolding is_set
returns c = refl
