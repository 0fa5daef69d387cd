-- What is proved of states as numbers beyond the calls' promises (proofs/Back.antt).
use Rattle.std.specs.Prelude.{◌≡◌, true, false, leb}
use Rattle.writer.specs.declared.Writer.{Writer}
use Rattle.writer.specs.State.{in_range}
use Rattle.cstate.specs.declared.State.{State}
use Rattle.cstate.specs.State.{some_active, active_kind, saved_of, is_state, writer_of}

-- a state whose beginning was not refused reads back
abbrev pub ReadsBack : Type 0
ReadsBack = (w : Writer) → leb (active_kind w.beginning.active) some_active ≡ true → writer_of (saved_of w) ≡ w

-- numbers that are no state read as one out of range
abbrev pub NoState : Type 0
NoState = (s : State) → is_state s ≡ false → in_range (writer_of s) ≡ false

-- all of them: what `states_hold` promises
pub record Claims : Type 0 where
  pub reads_back : ReadsBack
  pub no_state : NoState
