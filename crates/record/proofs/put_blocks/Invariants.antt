-- The first j blocks are written, one after the other from `at` on; j goes up to 8.
use mathlib.Core.Path.{◌≡◌}
use lib.ListN.{length, take}
use lib.Seq.{sets}
use Rattle.base.specs.Lists.{puts}
use Rattle.record.specs.Record.{block_bytes}
use Rattle.record.proofs.put_blocks.Given as goal

abbrev pub invariant-loop-j : goal.invariant-loop-j
invariant-loop-j l = (length l.out ≡ length l.initial.out) × (l.out ≡ sets l.initial.out l.at (puts block_bytes (take l.j l.b-items)))
