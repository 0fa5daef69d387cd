-- std's number of eight bytes is the same sum of multiples of them.
use Rattle.std.proofs.Common.{rules}
use Rattle.base.specs.Little.{little}
use Rattle.base.proofs.number.bytes_to_u64.Goals as goal

pub returns : goal.returns
unfolding little
returns c = search rules
