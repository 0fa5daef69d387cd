-- The table is right, as one computed test says (`table`).
use Rattle.std.proofs.Common.{◌%◌, arith}
use Rattle.checksum.specs.Register.{step, steps}
use Rattle.checksum.proofs.TableLaws.{follows}
use Rattle.checksum.proofs.PairTable.{shifted, ahead, table}
use Rattle.checksum.specs.declared.pair.TheConstants.{TABLE}
use Rattle.checksum.proofs.pair.look.Goals as goal
use mathlib.Core.Path.{refl}

pub returns : goal.returns
unfolding shifted ahead follows steps step
returns c = (table TABLE tt refl).entry c.args.row (c.args.x % 16) c.requires (omega arith)
