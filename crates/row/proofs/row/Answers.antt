-- One case for each guard (`row-past`, `row_count`, `row-long`, `row_small`), and `row_fits` if the row is written. On the fast path it fits
-- because the longest row does (`row-bound`). `row_size` gives at most 8,193, so the comparison with 8,192 is exact.
use Rattle.row.proofs.row.Goals as goal
use Rattle.std.proofs.Common.{◌≤◌}
use Rattle.rfc4180.specs.Csv.{max_row}
use mathlib.Core.Path.{sym, ◌∙◌}
use native.Mathlib.Omega.{arith}
use Rattle.row.proofs.Names.{count_most}
use Rattle.row.proofs.Laws.{row-bound}
use Rattle.row.proofs.Calls.{row-past, row_count, row-long, row_small, row_fits}

pub returns-then-table-gt-LAST_TABLE : goal.returns-then-table-gt-LAST_TABLE
returns-then-table-gt-LAST_TABLE c =
    let a = c.args in
    row-past a.table a.texts.now a.lengths.now a.out.now c.if-table-gt-LAST_TABLE.true

pub returns-then-lengths-column_count : goal.returns-then-lengths-column_count
returns-then-lengths-column_count c =
    let a = c.args in
    row_count a.table a.texts.now a.lengths.now a.out.now c.if-table-gt-LAST_TABLE.false (λ e. c.if-lengths-column_count.true (e ∙ sym c.column_count.ensures))

pub longest_fits-requires : goal.longest_fits-requires
longest_fits-requires c = omega (arith, count_most c.args.table c.if-table-gt-LAST_TABLE.false, c.if-lengths-column_count.false, c.column_count.ensures)

pub put_row-requires : goal.put_row-requires
put_row-requires c =
    let a = c.args in
    let f = c.longest_fits.ensures c.if-longest_fits.true in
    (λ e. sym c.any_special.ensures ∙ e, omega (arith, f.1, row-bound a.lengths.now a.texts.now))

pub returns-then-longest_fits : goal.returns-then-longest_fits
returns-then-longest_fits c =
    let a = c.args in
    let f = c.longest_fits.ensures c.if-longest_fits.true in
    let b = row-bound a.lengths.now a.texts.now in
    let e = c.put_row.ensures in
    row_fits a.table a.texts.now a.lengths.now a.out.now c.if-table-gt-LAST_TABLE.false (c.if-lengths-column_count.false ∙ c.column_count.ensures) c.put_row.result (omega (arith, e.0, f.0)) (omega (arith, e.0, f.0)) (omega (arith, e.0, f.1)) _ e.1

pub returns-then-size-gt-MAX_ROW : goal.returns-then-size-gt-MAX_ROW
returns-then-size-gt-MAX_ROW c =
    let a = c.args in
    row-long a.table a.texts.now a.lengths.now a.out.now c.if-table-gt-LAST_TABLE.false (c.if-lengths-column_count.false ∙ c.column_count.ensures) c.row_size-size.result c.row_size-size.ensures c.if-size-gt-MAX_ROW.true

pub returns-then-out-size : goal.returns-then-out-size
returns-then-out-size c =
    let a = c.args in
    let h : c.row_size-size.result ≤ max_row = omega arith in
    row_small a.table a.texts.now a.lengths.now a.out.now c.if-table-gt-LAST_TABLE.false (c.if-lengths-column_count.false ∙ c.column_count.ensures) c.row_size-size.result c.row_size-size.ensures h c.if-out-size.true

pub returns : goal.returns
returns c =
    let a = c.args in
    let s = c.row_size-size.ensures in
    let e = c.put_row-2.ensures in
    row_fits a.table a.texts.now a.lengths.now a.out.now c.if-table-gt-LAST_TABLE.false (c.if-lengths-column_count.false ∙ c.column_count.ensures) c.put_row-2.result (omega (arith, e.0, s, c.if-size-gt-MAX_ROW.false)) (omega (arith, e.0, s, c.if-size-gt-MAX_ROW.false)) (omega (arith, e.0, s, c.if-size-gt-MAX_ROW.false, c.if-out-size.false)) _ e.1
