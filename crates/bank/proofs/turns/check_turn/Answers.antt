-- One case for each guard: the region's length, the state's ranges, the header; then the turn on the bank.
use Rattle.bank.proofs.turns.check_turn.Goals as goal
use Rattle.header.specs.Header.{header_of}
use borrow.Author.Tests.{eq-eqb, ne_eqb}
use Rattle.bank.proofs.Cases.{turn-no-region, turn-forged, turn-bank, turn-bad}
use mathlib.Core.Path.{sym, ap, ◌∙◌}

pub returns-then-region-ne-REGION_SIZE : goal.returns-then-region-ne-REGION_SIZE
returns-then-region-ne-REGION_SIZE c =
    let a = c.args in
    c.stays.ensures ∙ turn-no-region a.region.now a.s a.n (ne_eqb _ _ c.if-region-ne-REGION_SIZE.true)

pub returns-then-not-s : goal.returns-then-not-s
returns-then-not-s c =
    let a = c.args in
    c.stays-then-not-s.ensures ∙ turn-forged a.region.now a.s a.n (eq-eqb _ _ c.if-region-ne-REGION_SIZE.false) c.if-not-s.true

pub returns-in-Ok : goal.returns-in-Ok
returns-in-Ok c =
    let a = c.args in
    let s = a.s in
    let r = a.region.now in
    c.on_bank.ensures
    ∙ turn-bank r s a.n _ (eq-eqb _ _ c.if-region-ne-REGION_SIZE.false) c.if-not-s.false
    (ap (header_of s.bank) (sym c.bank_of-l.ensures) ∙ sym c.header_of-h.ensures ∙ c.in-Ok.is)

pub returns-in-Err : goal.returns-in-Err
returns-in-Err c =
    let a = c.args in
    let s = a.s in
    let r = a.region.now in
    c.stays-in-Err.ensures
    ∙ turn-bad r s a.n _ (eq-eqb _ _ c.if-region-ne-REGION_SIZE.false) c.if-not-s.false
    (ap (header_of s.bank) (sym c.bank_of-l.ensures) ∙ sym c.header_of-h.ensures ∙ c.in-Err.is)
