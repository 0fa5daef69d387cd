-- The code's comparison of the two generations is the definition's; the answer is 0 or 1.
use Rattle.bank.proofs.first_tried.Goals as goal
use native.Mathlib.Omega.{arith}
use Rattle.bank.specs.Bank.{first_tried}
use mathlib.Core.Path.{sym}

pub returns-then-newer : goal.returns-then-newer
unfolding first_tried
returns-then-newer c =
    let k = c.newer.ensures in
    let one = c.generation.ensures in
    let zero = c.generation-2.ensures in
    (sym (rw (← zero, ← one, ← k, c.if-newer.true)), omega arith)

pub returns-else-newer : goal.returns-else-newer
unfolding first_tried
returns-else-newer c =
    let k = c.newer.ensures in
    let one = c.generation.ensures in
    let zero = c.generation-2.ensures in
    (sym (rw (← zero, ← one, ← k, c.if-newer.false)), omega arith)
