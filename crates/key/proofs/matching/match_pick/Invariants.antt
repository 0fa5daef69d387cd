-- The stored key begins with the first f fields.
use mathlib.Core.Path.{◌≡◌}
use mathlib.Core.List.{◌++◌}
use lib.ListN.{take}
use Rattle.key.specs.Layout.{joined, field}
use Rattle.key.specs.Steps.{pick_in}
use Rattle.key.proofs.matching.match_pick.Given as goal

abbrev pub invariant-loop-f : goal.invariant-loop-f
invariant-loop-f l = l.stored ≡ joined field (take l.f (pick_in l.picks.texts.now l.picks.starts.now l.i)) ++ l.rest
