-- The two laws of dates are those of Laws.antt.
use Rattle.leaf.proofs.date.dates_hold.Goals as goal
use Rattle.leaf.proofs.Laws.{date-of, date-parts}

pub returns : goal.returns
returns c =
    record {
      number_is_valid = date-of;
      valid_is_some = date-parts;
    }
