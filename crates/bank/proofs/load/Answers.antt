-- By cases: no region, the first bank passes, the second does, neither does. `validate` answers for each bank, and the bank tried first is
-- the definition's.
use Rattle.std.proofs.Common.{◌≡◌, ◌-◌, ℕ, Ok, sym, ap, ◌∙◌}
use Rattle.bank.proofs.load.Goals as goal
use Rattle.bank.specs.Bank.{validated, first_tried}
use Rattle.bank.proofs.Laws.{load-no-region, load-first, load-second, load-none}
use borrow.Author.Tests.{eq-eqb, ne_eqb}

pub returns-then-region-ne-REGION_SIZE : goal.returns-then-region-ne-REGION_SIZE
returns-then-region-ne-REGION_SIZE c = load-no-region c.args.region.now (ne_eqb _ _ c.if-region-ne-REGION_SIZE.true)

pub returns-in-Ok : goal.returns-in-Ok
returns-in-Ok c =
    let r = c.args.region.now in
    let e : validated r (first_tried r) ≡ _ = ap (validated r) (sym c.first_tried-first.ensures.0) ∙ sym c.in-Ok.ensures in
    load-first r _ (eq-eqb _ _ c.if-region-ne-REGION_SIZE.false) e

pub returns-in-Ok-validate : goal.returns-in-Ok-validate
returns-in-Ok-validate c =
    let r = c.args.region.now in
    let e : validated r (first_tried r) ≡ _ = ap (validated r) (sym c.first_tried-first.ensures.0) ∙ sym c.in_default.ensures in
    let g : validated r (1 - first_tried r) ≡ _ = ap (λ (k : ℕ). validated r (1 - k)) (sym c.first_tried-first.ensures.0) ∙ sym c.in-Ok-validate.ensures in
    load-second r _ _ (eq-eqb _ _ c.if-region-ne-REGION_SIZE.false) e g

pub returns : goal.returns
returns c =
    let r = c.args.region.now in
    let e : validated r (first_tried r) ≡ _ = ap (validated r) (sym c.first_tried-first.ensures.0) ∙ sym c.in_default.ensures in
    let g : validated r (1 - first_tried r) ≡ _ = ap (λ (k : ℕ). validated r (1 - k)) (sym c.first_tried-first.ensures.0) ∙ sym c.in_default-validate.ensures in
    load-none r _ _ (eq-eqb _ _ c.if-region-ne-REGION_SIZE.false) e g
