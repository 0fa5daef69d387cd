-- The three days are tested one by one, as the definition does.
use Rattle.snapshot.proofs.freshness.gives_any.Goals as goal
use mathlib.Core.Bool.{or-false}
use Rattle.snapshot.specs.Freshness.{gives_any}

pub returns : goal.returns
unfolding gives_any
returns c = rw (c.has_day.ensures, c.has_day-2.ensures, c.has_day-3.ensures, or-false)
