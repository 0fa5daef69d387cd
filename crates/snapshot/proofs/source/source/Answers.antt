-- A header that fails is refused, then an index that isn't below the count; else the record is read.
use Rattle.std.proofs.Common.{Ok, sym, ap, ◌∙◌}
use Rattle.base.proofs.Passed.{passed-on}
use Rattle.snapshot.proofs.source.source.Goals as goal
use borrow.Author.Tests.{lt-ltb, le-ltb}
use Rattle.snapshot.proofs.Laws.{source-done, source-past, source-bad}

pub returns-in_err-b : goal.returns-in_err-b
returns-in_err-b c =
    let a = c.args in
    let e = passed-on c.from_residual.result c.from_residual.ensures.1 in
    rw e (source-bad a.region.now a.number a.i _ (sym c.in_err-b.ensures))

pub returns-then-i-b : goal.returns-then-i-b
returns-then-i-b c =
    let a = c.args in
    ap Ok c.source_in.ensures ∙ source-done a.region.now a.number a.i _ (sym c.in_ok-b.ensures) (lt-ltb _ _ c.if-i-b.true)

pub returns : goal.returns
returns c =
    let a = c.args in
    source-past a.region.now a.number a.i _ (sym c.in_ok-b.ensures) (le-ltb _ _ c.if-i-b.false)
