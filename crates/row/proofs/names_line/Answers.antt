-- A table past the last is refused and the output unchanged (`names-past`), else the line is what `put_line` writes (`names-there`).
use Rattle.row.specs.Steps.{all_lines}
use Rattle.row.proofs.names_line.Goals as goal
use mathlib.Core.Path.{refl}
use native.Mathlib.Omega.{arith}
use Rattle.row.specs.Columns.{columns, line}
use Rattle.row.specs.Steps.{lines}
use Rattle.row.proofs.Calls.{names-past, names-there}

pub returns-then-table-gt-LAST_TABLE : goal.returns-then-table-gt-LAST_TABLE
returns-then-table-gt-LAST_TABLE c = names-past c.args.table c.args.out.now c.if-table-gt-LAST_TABLE.true

pub put_line-requires : goal.put_line-requires
unfolding columns line lines all_lines
put_line-requires c = (refl, omega arith)

pub returns : goal.returns
returns c =
    let a = c.args in
    let e = c.put_line.ensures in
    (names-there a.table a.out.now c.if-table-gt-LAST_TABLE.false _ e.0, e.1)
