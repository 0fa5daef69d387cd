-- The byte is read before it is stored, and what is stored is the byte with the bit (`stored`).
use Rattle.bloom.proofs.visit.Goals as goal
use Rattle.std.proofs.Common.{refl}
use Rattle.bloom.specs.Bloom.{is_set}
use Rattle.bloom.proofs.Bits.{stored}

pub returns : goal.returns
unfolding is_set
returns c = (refl, stored c.args.bits.now c.args.p)
