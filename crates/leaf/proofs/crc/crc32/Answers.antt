-- The register is started from the complement of `start` and complemented at the end, which is `crc32-run`.
use Rattle.leaf.proofs.crc.crc32.Goals as goal
use Rattle.std.proofs.Common.{mod-eq_of_lt}
use Rattle.leaf.proofs.Shift.{crc32-run}

pub returns : goal.returns
returns c =
    cc (crc32-run c.args.start c.args.bytes.now, mod-eq_of_lt c.ranges.start.fits)
