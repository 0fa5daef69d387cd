use Rattle.bloom.proofs.step_of.Goals as goal
use Rattle.bloom.specs.Bloom.{step_of}

pub returns : goal.returns
unfolding step_of
returns c = rw c.rotate13.ensures
