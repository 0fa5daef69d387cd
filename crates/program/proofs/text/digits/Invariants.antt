-- The invariant: the number of s is what the digits from the index on give after v (`one_more`).
use Rattle.std.proofs.Common.{◌≡◌, drop}
use Rattle.program.specs.Text.{appended, number_of}
use Rattle.program.proofs.text.digits.Given as goal

abbrev pub invariant-loop-c : goal.invariant-loop-c
invariant-loop-c l = appended l.v (drop l.c-index l.s) ≡ number_of l.s
