-- Going on from the state after i records, at their offset, gives what starting from the first gives.
use Rattle.std.proofs.Common.{◌≡◌, ◌+◌, ◌*◌, ◌-◌}
use Rattle.header.specs.Header.{record_at}
use Rattle.base.specs.Lists.{many}
use Rattle.snapshot.specs.Steps.{seen}
use Rattle.snapshot.proofs.freshness.updated_in.Given as goal

abbrev pub invariant-loop-i : goal.invariant-loop-i
invariant-loop-i l = seen l.at l.x (many (record_at l.version) l.size l.l (48 + l.i * l.size) (l.n - l.i)) ≡ seen l.at l.initial.x (many (record_at l.version) l.size l.l 48 l.n)
