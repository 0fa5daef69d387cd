-- The three dates are tested one by one, as the definition does.
use mathlib.Core.Bool.{and-true}
use Rattle.base.specs.Lists.{each}
use Rattle.snapshot.proofs.freshness.are_days.Goals as goal

pub returns : goal.returns
unfolding each
returns c = rw (c.valid_date.ensures, c.valid_date-2.ensures, c.valid_date-3.ensures, and-true)
