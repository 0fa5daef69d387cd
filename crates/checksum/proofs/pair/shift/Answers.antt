-- Eight lookups, one a nibble, add up to 2048 steps: the law `shift` of PairTable.antt, with each lookup's contract.
use Rattle.checksum.proofs.pair.shift.Goals as goal
use Rattle.checksum.proofs.PairTable.{shift}

pub returns : goal.returns
returns c =
    let a = c in
    cc (shift a.args.x a.ranges.x.fits)
