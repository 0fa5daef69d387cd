-- What is promised of empty parts and of zero is proved in Checksum.antt.
use Rattle.leaf.proofs.crc.crc_parts_hold.Goals as goal
use Rattle.leaf.proofs.Checksum.{empty-before, empty-between, empty-after, crc32-none, crc32-zero, after-zero}

pub returns : goal.returns
returns c =
    record {
      empty_before = empty-before;
      empty_between = empty-between;
      empty_after = empty-after;
      none = crc32-none;
      zero = crc32-zero;
      after_zero = after-zero;
    }
