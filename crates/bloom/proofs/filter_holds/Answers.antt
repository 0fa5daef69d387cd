use Rattle.bloom.proofs.filter_holds.Goals as goal
use Rattle.bloom.proofs.Found.{found, clears-none, sets-only-four, same_length, answers-as-query}
use Rattle.bloom.proofs.Sums.{differ}

pub returns : goal.returns
returns c =
    record {
      found = found;
      clears_none = clears-none;
      sets_only_four = sets-only-four;
      same_length = same_length;
      differ = differ;
      answers_as_query = answers-as-query;
    }
