-- The table's rule is one law, `count-is`; each arm is its table's number.
use Rattle.row.specs.Columns.{column_count}
use Rattle.row.proofs.column_count.Goals as goal
use mathlib.Core.Path.{sym, ap, ◌∙◌}
use native.Mathlib.Omega.{arith}
use Rattle.row.proofs.Names.{count_past, count-is}

pub returns-in-0 : goal.returns-in-0
returns-in-0 c = count-is 0 (omega arith) ∙ ap column_count (sym c.in-0.is)

pub returns-in-1 : goal.returns-in-1
returns-in-1 c = count-is 1 (omega arith) ∙ ap column_count (sym c.in-1.is)

pub returns-in-2 : goal.returns-in-2
returns-in-2 c = count-is 2 (omega arith) ∙ ap column_count (sym c.in-2.is)

pub returns-in-3 : goal.returns-in-3
returns-in-3 c = count-is 3 (omega arith) ∙ ap column_count (sym c.in-3.is)

pub returns-in-4 : goal.returns-in-4
returns-in-4 c = count-is 4 (omega arith) ∙ ap column_count (sym c.in-4.is)

pub returns-in-5 : goal.returns-in-5
returns-in-5 c = count-is 5 (omega arith) ∙ ap column_count (sym c.in-5.is)

pub returns-in-6 : goal.returns-in-6
returns-in-6 c = count-is 6 (omega arith) ∙ ap column_count (sym c.in-6.is)

pub returns-in-7 : goal.returns-in-7
returns-in-7 c = count-is 7 (omega arith) ∙ ap column_count (sym c.in-7.is)

pub returns-in_default : goal.returns-in_default
returns-in_default c = count_past c.args.table (omega arith)
