use Rattle.cstate.proofs.states_hold.Goals as goal
use Rattle.cstate.proofs.Back.{reads-back, no-state}

pub returns : goal.returns
returns c =
    record {
      reads_back = reads-back;
      no_state = no-state;
    }
