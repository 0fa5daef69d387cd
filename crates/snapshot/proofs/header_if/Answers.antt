-- By cases: the other arguments fit, so the bank's own tests decide; no region; an argument refused.
use Rattle.snapshot.proofs.header_if.Goals as goal
use Rattle.snapshot.specs.Freshness.{named_if}
use borrow.Author.Tests.{eq-eqb, ne_eqb}
use Rattle.snapshot.proofs.Laws.{named-fits, unfit-no-region, unfit}
use mathlib.Core.Path.{sym, ap, ◌∙◌}

pub returns-then-fits : goal.returns-then-fits
returns-then-fits c =
    let a = c.args in
    c.header.ensures ∙ named-fits a.region.now a.number ∙ ap (λ t. named_if t a.region.now a.number) (sym c.if-fits.true)

pub returns-then-region-ne-REGION_SIZE : goal.returns-then-region-ne-REGION_SIZE
returns-then-region-ne-REGION_SIZE c =
    let a = c.args in
    unfit-no-region a.region.now a.number (ne_eqb _ _ c.if-region-ne-REGION_SIZE.true) ∙ ap (λ t. named_if t a.region.now a.number) (sym c.if-fits.false)

pub returns : goal.returns
returns c =
    let a = c.args in
    unfit a.region.now a.number (eq-eqb _ _ c.if-region-ne-REGION_SIZE.false) ∙ ap (λ t. named_if t a.region.now a.number) (sym c.if-fits.false)
