-- The invariant: the search from i on finds what the search from `from` on does (`passes`).
use Rattle.std.proofs.Common.{◌≡◌}
use Rattle.program.specs.Text.{index_from}
use Rattle.program.proofs.text.find.Given as goal

abbrev pub invariant-loop-i : goal.invariant-loop-i
invariant-loop-i l = index_from l.s l.i l.b ≡ index_from l.s l.from l.b
