use Rattle.bankcore.proofs.leaf_calls.tt_date_new.Goals as goal
use mathlib.Core.Path.{sym, ◌∙◌}
use Rattle.bankcore.proofs.Number.{made, invalid}

pub returns-in-Some : goal.returns-in-Some
returns-in-Some c =
    let a = c.args in
    made a.year a.month a.day _ (sym c.new.ensures ∙ c.in-Some.is)

pub returns-in-None : goal.returns-in-None
returns-in-None c =
    let a = c.args in
    invalid a.year a.month a.day (sym c.new.ensures ∙ c.in-None.is)
