-- Three cases: a year past 9999 is no date's; else the number's parts make a date, or they don't, and `is_date` says the same.
use Rattle.std.proofs.Common.{◌/◌, ◌%◌}
use Rattle.leaf.specs.Date.{valid_date}
use Rattle.leaf.proofs.date.valid_date.Goals as goal
use Rattle.std.proofs.Common.{sym, ◌∙◌}
use Rattle.leaf.proofs.Steps.{made-is, invalid-is}

pub returns-in-Some : goal.returns-in-Some
unfolding valid_date
returns-in-Some c =
    let n = c.args.d in
    made-is (n / 10000) (n / 100 % 100) (n % 100) _ (sym c.new-made.ensures ∙ c.in-Some.is)

pub returns-in-None : goal.returns-in-None
unfolding valid_date
returns-in-None c =
    let n = c.args.d in
    invalid-is (n / 10000) (n / 100 % 100) (n % 100) (sym c.new-made.ensures ∙ c.in-None.is)
