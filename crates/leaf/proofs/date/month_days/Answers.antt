-- By cases: no such month (`no_month`), February of a leap year (`leap-day`), any other month, read from the table (`common-day`).
use Rattle.leaf.proofs.date.month_days.Goals as goal
use Rattle.leaf.proofs.Steps.{leap-day, common-day}

pub returns-then-month-leap : goal.returns-then-month-leap
returns-then-month-leap c =
    let a = c.args in
    leap-day a.year a.month c.is_leap-leap.result c.is_leap-leap.ensures c.if-month-leap.true

pub returns : goal.returns
returns c =
    let a = c.args in
    common-day a.year a.month c.is_leap-leap.result c.is_leap-leap.ensures c.if-month-leap.false
