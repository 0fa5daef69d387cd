-- The invariant: the first i bytes of ws have cleared bits of s (`clear-more`).
use Rattle.std.proofs.Common.{arith, refl, ◌∙◌, length-set}
use Rattle.flash.specs.Flash.{clear}
use Rattle.flash.proofs.clear_bits.Goals as goal
use Rattle.flash.proofs.Steps.{clear-more}

pub loop-i-init : goal.loop-i-init
unfolding clear
loop-i-init c = (refl, refl)

pub loop-i-preserved : goal.loop-i-preserved
loop-i-preserved c =
    let l = c.loop-i in
    let a = c.args in
    (rw l.invariant.0 (clear-more a.ws.now a.s.now l.i (omega arith) (omega arith)), length-set l.s l.i _ ∙ l.invariant.1)
