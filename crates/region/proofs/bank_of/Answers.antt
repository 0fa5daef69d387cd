use Rattle.region.specs.Region.{bank_of}
use Rattle.region.proofs.bank_of.Goals as goal

pub returns : goal.returns
unfolding bank_of
returns c = c.part.ensures
