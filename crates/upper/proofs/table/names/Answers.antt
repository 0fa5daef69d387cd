-- The buffer holds every names line, so it is written (`names-there`), and a refusal can't happen (`names-never`).
use Rattle.row.specs.Columns.{names_line}
use Rattle.upper.proofs.table.names.Goals as goal
use mathlib.Core.Path.{refl}
use native.Mathlib.Omega.{arith}
use lib.ListN.{replicate}
use Rattle.upper.proofs.Laws.{names-there, names-never}

pub returns-in-Ok : goal.returns-in-Ok
returns-in-Ok c =
    let x = c in
    let a = x.args in
    names-there a.table (replicate 128 0) x.names_line-a.new.out x.names_line-a.result (omega arith) refl x.names_line-a.ensures.0 x.names_line-a.ensures.1 c.in-Ok.n c.in-Ok.is

pub returns-in-Err : goal.returns-in-Err
returns-in-Err c =
    let x = c in
    let a = x.args in
    absurd (names-never a.table (replicate 128 0) x.names_line-a.new.out x.names_line-a.result (omega arith) refl x.names_line-a.ensures.0 x.names_line-a.ensures.1 c.in-Err.field-0 c.in-Err.is)
