-- A good header gives a state with no byte hashed, a refused one the refusal and a state of no bank.
use Rattle.bank.proofs.turns.check_start.Goals as goal
use Rattle.bank.proofs.Cases.{start-good, start-bad}
use mathlib.Core.Path.{sym, ◌∙◌}

pub returns-in-Ok : goal.returns-in-Ok
returns-in-Ok c =
    let a = c.args in
    c.stays.ensures ∙ start-good a.region.now a.number _ (sym c.header-h.ensures ∙ c.in-Ok.is)

pub returns-in-Err : goal.returns-in-Err
returns-in-Err c =
    let a = c.args in
    c.stays-in-Err.ensures ∙ start-bad a.region.now a.number _ (sym c.header-h.ensures ∙ c.in-Err.is)
