-- The one claim is a theorem of Names.antt.
use Rattle.row.proofs.names_hold.Goals as goal
use Rattle.row.proofs.Names.{names-are-a-row}

pub returns : goal.returns
returns c = record { names_are_aRow = names-are-a-row }
