-- Running the appends of what is left, from the state and region so far, ends as running all of them from the start does.
use Rattle.std.proofs.Common.{◌≡◌, List, ◌<◌, length}
use Rattle.record.specs.declared.Source.{Source}
use Rattle.writer.specs.Parts.{whole_of}
use Rattle.run.specs.Run.{ran_writer, ran_region}
use Rattle.run.specs.Appends.{appends}
use Rattle.run.proofs.append_all_parts.Given as goal

abbrev pub invariant-loop-rest : goal.invariant-loop-rest
invariant-loop-rest l = (length l.rest < 18446744073709551616) × (length l.region ≡ length l.initial.region)
    × ((ss : List Source) → (ran_writer l.region (whole_of l.b l.q ss l.tail) (appends l.rest) ≡ ran_writer l.initial.region (whole_of l.b l.initial.q ss l.initial.tail) (appends l.bytes)) × (ran_region l.region (whole_of l.b l.q ss l.tail) (appends l.rest) ≡ ran_region l.initial.region (whole_of l.b l.initial.q ss l.initial.tail) (appends l.bytes)))

abbrev pub decreases-loop-rest : goal.decreases-loop-rest
decreases-loop-rest l = length l.rest
