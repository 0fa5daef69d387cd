-- The first i records are read, the others are as in the new array.
use Rattle.std.proofs.Common.{◌≡◌, ◌++◌, drop}
use Rattle.base.specs.Lists.{many}
use Rattle.header.specs.Header.{record_at}
use Rattle.snapshot.proofs.source.records_at.Given as goal

abbrev pub invariant-loop-i : goal.invariant-loop-i
invariant-loop-i l = l.t ≡ many (record_at l.version) l.size l.l 48 l.i ++ drop l.i l.initial.t
