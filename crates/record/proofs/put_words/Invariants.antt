-- The first j numbers are written, one after the other from `at` on; j goes up to 16.
use mathlib.Core.Path.{◌≡◌}
use lib.ListN.{length, take}
use lib.Seq.{sets}
use Rattle.leaf.specs.Bytes.{le32}
use Rattle.base.specs.Lists.{puts}
use Rattle.record.proofs.put_words.Given as goal

abbrev pub invariant-loop-j : goal.invariant-loop-j
invariant-loop-j l = (length l.out ≡ length l.initial.out) × (l.out ≡ sets l.initial.out l.at (puts le32 (take l.j l.w-items)))
