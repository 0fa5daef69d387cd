-- By cases: no region, no such bank, or the tests of the header: three cases of Laws.antt.
use Rattle.bank.proofs.header.Goals as goal
use Rattle.header.specs.Header.{header_of}
use Rattle.bank.proofs.Laws.{no-region, no-bank, named-is}
use borrow.Author.Tests.{eq-eqb, ne_eqb, lt-leb, le-leb}
use mathlib.Core.Path.{ap, ◌∙◌}

pub returns-then-region-ne-REGION_SIZE : goal.returns-then-region-ne-REGION_SIZE
returns-then-region-ne-REGION_SIZE c = no-region c.args.region.now c.args.number (ne_eqb _ _ c.if-region-ne-REGION_SIZE.true)

pub returns-then-number-gt-LAST_BANK : goal.returns-then-number-gt-LAST_BANK
returns-then-number-gt-LAST_BANK c =
    let a = c.args in
    no-bank a.region.now a.number (eq-eqb _ _ c.if-region-ne-REGION_SIZE.false) (lt-leb _ _ c.if-number-gt-LAST_BANK.true)

pub returns-else-number-gt-LAST_BANK : goal.returns-else-number-gt-LAST_BANK
returns-else-number-gt-LAST_BANK c =
    let a = c.args in
    c.header_of.ensures ∙ ap (header_of a.number) c.bank_of.ensures ∙ named-is a.region.now a.number (eq-eqb _ _ c.if-region-ne-REGION_SIZE.false) (le-leb _ _ c.if-number-gt-LAST_BANK.false)
