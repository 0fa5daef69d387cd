-- The offsets before i are stored, and `at` is offset i.
use mathlib.Core.Path.{◌≡◌}
use Prim.Native.Nat.{ℕ, ◌<◌}
use lib.ListN.{get_or}
use Rattle.key.specs.Steps.{offset_of}
use Rattle.key.proofs.picks.offsets_of.Given as goal

abbrev pub invariant-loop-i : goal.invariant-loop-i
invariant-loop-i l = (l.at ≡ offset_of l.texts l.lengths l.i) × ((k : ℕ) → k < l.i → get_or l.starts k 0 ≡ offset_of l.texts l.lengths k)
