-- By the position: past the data it is refused, at their end the CRCs decide, before it bytes are hashed.
use Rattle.bank.proofs.turns.on_bank.Goals as goal
use borrow.Author.Tests.{eq-eqb, ne_eqb, lt-leb, le-leb}
use Rattle.bank.proofs.Cases.{past-data, verdict-yes, verdict-no, some_left}
use mathlib.Core.Path.{◌∙◌}

pub returns-then-b-s : goal.returns-then-b-s
returns-then-b-s c =
    let a = c.args in
    c.stays.ensures ∙ past-data a.region.now a.b a.s a.n (lt-leb _ _ c.if-b-s.true)

pub returns-then-s-b-2 : goal.returns-then-s-b-2
returns-then-s-b-2 c =
    let a = c.args in
    c.stays-then-s-b-2.ensures ∙ verdict-yes a.region.now a.b a.s a.n (le-leb _ _ c.if-b-s.false) (eq-eqb _ _ c.if-s-b.true) (eq-eqb _ _ c.if-s-b-2.true)

pub returns-then-s-b : goal.returns-then-s-b
returns-then-s-b c =
    let a = c.args in
    c.stays-then-s-b.ensures ∙ verdict-no a.region.now a.b a.s a.n (le-leb _ _ c.if-b-s.false) (eq-eqb _ _ c.if-s-b.true) (ne_eqb _ _ c.if-s-b-2.false)

pub returns : goal.returns
returns c =
    let a = c.args in
    c.hashed.ensures ∙ some_left a.region.now a.b a.s a.n (le-leb _ _ c.if-b-s.false) (ne_eqb _ _ c.if-s-b.false)
