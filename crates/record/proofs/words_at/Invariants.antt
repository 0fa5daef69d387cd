-- The first j numbers are read, the others are as in the new array.
use mathlib.Core.Path.{◌≡◌}
use mathlib.Core.List.{◌++◌}
use lib.ListN.{drop}
use Rattle.leaf.specs.Bytes.{word}
use Rattle.base.specs.Lists.{many}
use Rattle.record.proofs.words_at.Given as goal

abbrev pub invariant-loop-j : goal.invariant-loop-j
invariant-loop-j l = l.t ≡ many word 4 l.r l.at l.j ++ drop l.j l.initial.t
