-- Each part of the contract is a theorem of the lemma files; what each says is in specs/Operations.antt. The lengths are computed.
use mathlib.Core.Path.{refl}
use Rattle.powerloss.proofs.Exactly.{reached-exactly}
use Rattle.powerloss.proofs.Events.{committed-operations, comparing-operations, lower-operations}
use Rattle.powerloss.proofs.operations.operations_hold.Goals as goal

pub returns : goal.returns
returns c =
    record {
      due_exactly = reached-exactly;
      committed = committed-operations;
      comparing = comparing-operations;
      lower = lower-operations;
      lengths = (refl, refl, refl);
    }
