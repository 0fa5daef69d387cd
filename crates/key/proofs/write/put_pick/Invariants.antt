-- The first f fields are written, up to offset `to`.
use Rattle.leaf.specs.Bytes.{written}
use mathlib.Core.Path.{◌≡◌}
use Prim.Native.Nat.{◌+◌}
use lib.ListN.{length, take}
use Rattle.key.specs.Steps.{pick_in}
use Rattle.key.specs.Layout.{joined, field}
use Rattle.key.proofs.write.put_pick.Given as goal

abbrev pub invariant-loop-f : goal.invariant-loop-f
invariant-loop-f l = (l.to ≡ l.at + length (joined field (take l.f (pick_in l.picks.texts.now l.picks.starts.now l.i)))) × (l.out ≡ written l.initial.out l.at (joined field (take l.f (pick_in l.picks.texts.now l.picks.starts.now l.i))))
