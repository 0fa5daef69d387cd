-- A good beginning is a state with no byte hashed (`start-good`); that the turns give the verdict of `validate` is proved in Sequence.antt.
use Rattle.bank.proofs.turns.turns_hold.Goals as goal
use mathlib.Core.Path.{sym, ap}
use Rattle.bank.specs.declared.turns.Turn.{Turn}
use Rattle.bank.proofs.Cases.{start-good}
use Rattle.bank.proofs.Sequence.{turns-validate}

pub returns : goal.returns
returns c = record { starts_fresh = λ region n b e. sym (ap (λ (t : Turn). t.next) (start-good region n b e)); turns_validate = turns-validate }
