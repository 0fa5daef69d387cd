use Rattle.cstate.proofs.PartsFromState.from.Goals as goal
use Rattle.cstate.specs.State.{writer_of}

pub returns : goal.returns
unfolding writer_of
returns c =
    let s = c.args.s in
    λ i. record {
      stage = c.stage_of-stage.ensures i;
      contents = record { written = s.written; fill = s.fill; crc = s.crc; different = c.is_set.ensures i; closed = c.is_set-2.ensures i };
      tables = s.tables;
    }
