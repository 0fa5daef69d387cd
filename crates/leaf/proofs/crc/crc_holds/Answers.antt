-- The laws of CRC-32 are those of Checksum.antt, the division and its remainder those of Remainder.antt.
use Rattle.leaf.proofs.crc.crc_holds.Goals as goal
use Rattle.leaf.proofs.Checksum.{crc32-fcs, fcs-division, crc32-append, crc32-nil, crc32-lt}
use Rattle.leaf.proofs.Remainder.{division, unique}

pub returns : goal.returns
returns c =
    record {
      standard = crc32-fcs;
      divided = fcs-division;
      division = division;
      unique = λ p q r s t d e. unique d e;
      append = crc32-append;
      nothing = crc32-nil;
      fits = crc32-lt;
    }
