-- The code's test is `is_date` (`date-test`): `month_days` gives 0 for a month that there isn't, so no day passes.
use Rattle.std.proofs.Common.{◌≡◌, true, false}
use Rattle.leaf.proofs.date.Date.new.Goals as goal
use Rattle.std.proofs.Common.{sym, ◌∙◌}
use Rattle.leaf.specs.Date.{is_date}
use Rattle.leaf.proofs.Steps.{date-test, made, not_made}

pub returns-then-year-day : goal.returns-then-year-day
returns-then-year-day c =
    let a = c.args in
    let e : is_date a.year a.month a.day ≡ true = sym (date-test a.year a.month a.day) ∙ (rw c.month_days-days.ensures at c.if-year-day.true) in
    made a.year a.month a.day e

pub returns-else-year-day : goal.returns-else-year-day
returns-else-year-day c =
    let a = c.args in
    let e : is_date a.year a.month a.day ≡ false = sym (date-test a.year a.month a.day) ∙ (rw c.month_days-days.ensures at c.if-year-day.false) in
    not_made a.year a.month a.day e
