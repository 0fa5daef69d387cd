-- Days that are no dates are refused, then a header that fails; else the freshness is computed from the bank, whose count is at most three.
use Rattle.std.proofs.Common.{w64, Ok, sym, ap, ◌∙◌}
use Rattle.base.proofs.Passed.{passed-on}
use Rattle.snapshot.proofs.freshness.fresh.Goals as goal
use Rattle.snapshot.specs.Freshness.{named_if, freshness}
use Rattle.snapshot.proofs.Laws.{few, fresh-good, fresh-bad}
use mir.ValLaws.{to_z-of_z}

pub fresh_in-f-requires : goal.fresh_in-f-requires
fresh_in-f-requires c =
    let a = c.args in
    few _ a.region.now a.number _ (sym c.in_ok-b.ensures)

pub returns-in_err-b : goal.returns-in_err-b
returns-in_err-b c =
    let a = c.args in
    let e = ap (λ t. named_if t a.region.now a.number) (sym c.are_days-fits.ensures) ∙ sym c.in_err-b.ensures in
    rw (passed-on c.from_residual.result c.from_residual.ensures.1) (fresh-bad a.region.now a.number a.days a.at _ e)

pub returns : goal.returns
returns c =
    let a = c.args in
    let z = to_z-of_z w64 a.at c.ranges.at in
    let e = ap (λ t. named_if t a.region.now a.number) (sym c.are_days-fits.ensures) ∙ sym c.in_ok-b.ensures in
    ap Ok (c.fresh_in-f.ensures ∙ ap (freshness a.region.now _ a.days) z) ∙ fresh-good a.region.now a.number a.days a.at _ e
