-- The values before mark k are written, with their ends (`Copied`).
use Rattle.rowread.proofs.Values.{Copied}
use Rattle.rowread.proofs.line.copy_line.Given as goal

abbrev pub invariant-loop-k : goal.invariant-loop-k
invariant-loop-k l = Copied l.t l.e l.n l.initial.out l.initial.ends l.out l.ends l.from l.to l.k
