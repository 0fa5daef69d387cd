-- The contract is the theorem that proofs/Computed.antt proves by computing the table.
use Rattle.examples.proofs.Computed.{theorem}
use Rattle.examples.proofs.examples_hold.Goals as goal

pub returns : goal.returns
returns c = theorem
