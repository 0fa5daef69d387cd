-- The first k words were searched (`At`).
use Prim.Native.Nat.{◌*◌}
use Rattle.rowread.specs.Steps.{At}
use Rattle.rowread.proofs.line.search_line.Given as goal

abbrev pub invariant-loop-k : goal.invariant-loop-k
invariant-loop-k l = At l.t l.initial.marks l.marks (l.k * 8) l.commas
