-- A header that fails is refused; else the records below the count are read, at most three.
use Rattle.std.proofs.Common.{true, sym, ◌∙◌}
use Rattle.base.proofs.Passed.{passed-on}
use Rattle.snapshot.proofs.source.sources.Goals as goal
use Rattle.snapshot.proofs.Laws.{few, named-fits, sources-done, sources-bad}

pub records_at-requires : goal.records_at-requires
records_at-requires c =
    let a = c.args in
    few true a.region.now a.number _ (sym (named-fits a.region.now a.number) ∙ sym c.in_ok-bank.ensures)

pub returns-in_err-bank : goal.returns-in_err-bank
returns-in_err-bank c =
    let a = c.args in
    let e = passed-on c.from_residual.result c.from_residual.ensures.1 in
    rw e (sources-bad a.region.now a.number _ (sym c.in_err-bank.ensures))

pub returns : goal.returns
returns c =
    let a = c.args in
    sources-done a.region.now a.number _ c.bank_of-l.result.now _ (sym c.in_ok-bank.ensures) c.bank_of-l.ensures c.records_at.ensures
