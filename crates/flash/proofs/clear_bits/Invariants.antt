-- The first i bytes of ws have cleared bits.
use Rattle.std.proofs.Common.{◌≡◌, length, take}
use Rattle.flash.specs.Flash.{clear}
use Rattle.flash.proofs.clear_bits.Given as goal

abbrev pub invariant-loop-i : goal.invariant-loop-i
invariant-loop-i l = (l.s ≡ clear (take l.i l.ws) l.initial.s) × (length l.s ≡ length l.initial.s)
