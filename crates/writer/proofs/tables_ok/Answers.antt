use Rattle.std.proofs.Common.{rules}
use Rattle.writer.proofs.tables_ok.Goals as goal
use Rattle.writer.specs.State.{tables_ok}

pub returns : goal.returns
unfolding tables_ok
returns c = search rules
