-- The slice between two offsets of the constant is the table's names line (`line_at`). An output that is too small is refused and unchanged
-- (`too_small`), else the line is copied (`put-there`).
use Rattle.std.proofs.Common.{◌≡◌, ◌+◌, length, ◌-◌}
use Rattle.row.specs.Columns.{names_line}
use Rattle.row.proofs.put_line.Goals as goal
use mathlib.Core.Path.{ap, ◌∙◌}
use native.Mathlib.Omega.{arith}
use lib.ListN.{take, drop, get_or}
use Rattle.row.proofs.Names.{starts, line_at}
use Rattle.row.proofs.Calls.{too_small, put-there}

pub slice_bounds-names-end : goal.slice_bounds-names-end
slice_bounds-names-end c =
    let a = c.args in
    let p = c.requires in
    let s = line_at a.table p.1 in
    rw p.0 s.inside

pub returns-then-out-names : goal.returns-then-out-names
returns-then-out-names c =
    let a = c.args in
    let p = c.requires in
    let s = line_at a.table p.1 in
    let e : take (get_or starts (a.table + 1) 0 - get_or starts a.table 0) (drop (get_or starts a.table 0) a.all.now) ≡ names_line a.table = rw p.0 s.is in
    too_small (names_line a.table) a.out.now (omega (arith, ap length e, c.if-out-names.true))

pub returns : goal.returns
returns c =
    let a = c.args in
    let p = c.requires in
    let s = line_at a.table p.1 in
    let e : take (get_or starts (a.table + 1) 0 - get_or starts a.table 0) (drop (get_or starts a.table 0) a.all.now) ≡ names_line a.table = rw p.0 s.is in
    put-there (names_line a.table) a.out.now _ _ (ap length e) (omega (arith, ap length e, c.if-out-names.false)) (c.copy.ensures ∙ rw e)
