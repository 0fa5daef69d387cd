-- Each claim is a theorem of the lemma files: sorting in proofs/Sort.antt, the longest key in proofs/Longest.antt.
use Rattle.key.proofs.keys_hold.Goals as goal
use Rattle.key.proofs.Sort.{sorts, only_one}
use Rattle.key.proofs.Longest.{longest, reached}

pub returns : goal.returns
returns c =
    record {
      distinct_sorts = sorts;
      only_one_sorts = only_one;
      no_key_is_longer = longest;
      longest_is_reached = reached;
    }
