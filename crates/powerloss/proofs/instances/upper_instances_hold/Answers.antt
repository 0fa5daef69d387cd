-- Each instance is computed in proofs/UpperComputed.antt; what each says is in specs/UpperInstances.antt.
use Rattle.powerloss.proofs.UpperComputed.{stamp_after_now, stamp_before_now, five_operations, cut_beginning, cut_in_the_key, cut_closing, same_row, other_row}
use Rattle.powerloss.proofs.instances.upper_instances_hold.Goals as goal

pub returns : goal.returns
returns c =
    record {
      stamp_after_now = stamp_after_now;
      stamp_before_now = stamp_before_now;
      operations = five_operations;
      cut_beginning = cut_beginning;
      cut_in_the_key = cut_in_the_key;
      cut_closing = cut_closing;
      same_row = same_row;
      other_row = other_row;
    }
