-- The pending words so far, run over what follows the pairs that are folded, give what the first ones give on all that follows them.
use Rattle.std.proofs.Common.{◌≡◌, ◌+◌, ◌*◌, drop}
use Rattle.checksum.specs.Register.{run}
use Rattle.checksum.specs.Words.{five}
use Rattle.checksum.proofs.register.fold_all.Given as goal

abbrev pub invariant-loop-pair : goal.invariant-loop-pair
invariant-loop-pair l = run (five l.p) (drop (l.b.at + 16 * l.pair-index) l.s) ≡ run (five l.initial.p) (drop l.b.at l.s)
