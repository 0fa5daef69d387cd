use Rattle.writer.proofs.contents_ok.Goals as goal
use Rattle.writer.specs.State.{contents_ok}

pub returns : goal.returns
unfolding contents_ok
returns c = rw c.position.ensures
