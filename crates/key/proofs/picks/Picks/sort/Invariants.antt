-- The first m numbers mean the sorted, distinct picks from i on.
use Prim.Native.Nat.{◌+◌, ◌≤◌}
use lib.ListN.{drop}
use Rattle.key.specs.Picks.{firsts, distinct}
use Rattle.key.specs.Steps.{pick_in, Ordered}
use Rattle.key.proofs.picks.Picks.sort.Given as goal

abbrev pub invariant-loop-i : goal.invariant-loop-i
invariant-loop-i l = (l.m + l.i ≤ l.self.n) × Ordered (pick_in l.self.texts.now l.self.starts.now) l.self.n (distinct (drop l.i (firsts l.self.n (pick_in l.self.texts.now l.self.starts.now)))) l.order l.m
