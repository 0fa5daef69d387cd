-- One case for each guard: region and table first, then what `source` refuses; else the source's block (`is_block`).
use Rattle.std.proofs.Common.{Ok, sym, ap, ◌∙◌}
use Rattle.base.proofs.Passed.{passed-on}
use Rattle.base.specs.Table.{last_table}
use Rattle.snapshot.proofs.rows.table_block.Goals as goal
use borrow.Author.Tests.{eq-eqb, ne_eqb, lt-leb, le-leb}
use Rattle.snapshot.proofs.RowsLaws.{no-region, no_table, refused, is_block}

pub returns-then-region-ne-REGION_SIZE : goal.returns-then-region-ne-REGION_SIZE
returns-then-region-ne-REGION_SIZE c = let a = c.args in no-region a.region.now a.number a.source a.table (lt-leb _ _ c.if-table-gt-LAST_TABLE.true) (ne_eqb _ _ c.if-region-ne-REGION_SIZE.true)

pub returns-then-table-gt-LAST_TABLE : goal.returns-then-table-gt-LAST_TABLE
returns-then-table-gt-LAST_TABLE c = let a = c.args in no_table a.region.now a.number a.source a.table (lt-leb _ _ c.if-table-gt-LAST_TABLE.true) (eq-eqb _ _ c.if-region-ne-REGION_SIZE.false)

pub returns-in_err-s : goal.returns-in_err-s
returns-in_err-s c =
    let a = c.args in
    let e = passed-on c.from_residual.result c.from_residual.ensures.1 in
    rw e (refused a.region.now a.number a.source a.table (le-leb a.table last_table c.if-table-gt-LAST_TABLE.false) _ (sym c.in_err-s.ensures))

pub returns : goal.returns
returns c =
    let a = c.args in
    ap Ok c.block_of.ensures ∙ is_block a.region.now a.number a.source a.table (le-leb a.table last_table c.if-table-gt-LAST_TABLE.false) _ (sym c.in_ok-s.ensures)
