-- The laws of numbers in bytes are those of Laws.antt.
use Rattle.leaf.proofs.bytes.numbers_hold.Goals as goal
use Rattle.leaf.proofs.Laws.{word-back, time-back, written-other, word_lt, time-fits}

pub returns : goal.returns
returns c =
    record {
      word_back = word-back;
      time_back = time-back;
      written_other = written-other;
      word_fits = word_lt;
      time_fits = time-fits;
    }
