-- Inserting the pick leaves the first k as they are and inserts it among the rest.
use mathlib.Core.Path.{◌≡◌}
use mathlib.Core.List.{◌++◌, map}
use lib.ListN.{take, drop}
use Rattle.key.specs.Picks.{insert}
use Rattle.key.specs.Steps.{pick_in}
use Rattle.key.proofs.picks.Picks.index_of.Given as goal

abbrev pub invariant-loop-k : goal.invariant-loop-k
invariant-loop-k l =
    insert (pick_in l.self.texts.now l.self.starts.now l.i) (map (pick_in l.self.texts.now l.self.starts.now) l.sorted)
    ≡ take l.k (map (pick_in l.self.texts.now l.self.starts.now) l.sorted) ++ insert (pick_in l.self.texts.now l.self.starts.now l.i) (drop l.k (map (pick_in l.self.texts.now l.self.starts.now) l.sorted))
