use Rattle.flash.proofs.flash_holds.Goals as goal
use Rattle.flash.proofs.Laws.{clears-only, erase-over, write-over, other-performed, done-zero, done-before, torn-whole, other-torn, first_part}

pub returns : goal.returns
returns c =
    record {
      clears_only = clears-only;
      erase_over = erase-over;
      write_over = write-over;
      other_performed = other-performed;
      done_zero = done-zero;
      done_before = done-before;
      torn_whole = λ region n j op e h. torn-whole region n e h j op;
      other_torn = λ region n m j op e h. other-torn region n e h j op m;
      first_part = first_part;
    }
