-- The header's answer, and for a good one the data's CRC: three cases of Laws.antt.
use Rattle.base.proofs.Passed.{passed-on}
use Rattle.bank.proofs.validate.Goals as goal
use Rattle.bank.proofs.Laws.{data-good, data-bad, header-bad}
use mathlib.Core.Path.{sym, ◌∙◌}

pub returns-then-data_ok : goal.returns-then-data_ok
returns-then-data_ok c =
    let a = c.args in
    data-good a.region.now a.number _ (sym c.in_ok-b.ensures) (sym c.data_ok.ensures ∙ c.if-data_ok.true)

pub returns-else-data_ok : goal.returns-else-data_ok
returns-else-data_ok c =
    let a = c.args in
    data-bad a.region.now a.number _ (sym c.in_ok-b.ensures) (sym c.data_ok.ensures ∙ c.if-data_ok.false)

pub returns-in_err-b : goal.returns-in_err-b
returns-in_err-b c =
    let a = c.args in
    let e = passed-on c.from_residual.result c.from_residual.ensures.1 in
    rw e (header-bad a.region.now a.number _ (sym c.in_err-b.ensures))
