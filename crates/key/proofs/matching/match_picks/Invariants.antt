-- The stored key begins with the first sorted picks, those before the index.
use mathlib.Core.Path.{◌≡◌}
use mathlib.Core.List.{map, ◌++◌}
use lib.ListN.{take}
use Rattle.key.specs.Layout.{joined, entry}
use Rattle.key.specs.Steps.{pick_in}
use Rattle.key.proofs.matching.match_picks.Given as goal

abbrev pub invariant-loop-i : goal.invariant-loop-i
invariant-loop-i l = l.stored ≡ joined entry (take l.i-index (map (pick_in l.picks.texts.now l.picks.starts.now) l.sorted)) ++ l.rest
