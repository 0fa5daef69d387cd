-- The first j blocks are read, the others are as in the new array.
use mathlib.Core.Path.{◌≡◌}
use mathlib.Core.List.{◌++◌}
use lib.ListN.{drop}
use Rattle.base.specs.Lists.{many}
use Rattle.record.specs.Record.{block_at}
use Rattle.record.proofs.blocks_at.Given as goal

abbrev pub invariant-loop-j : goal.invariant-loop-j
invariant-loop-j l = l.t ≡ many block_at 12 l.r l.at l.j ++ drop l.j l.initial.t
