-- The first sorted picks, those before the index, are written, up to offset `to`.
use mathlib.Core.Path.{◌≡◌}
use mathlib.Core.List.{map}
use Prim.Native.Nat.{◌+◌}
use lib.ListN.{length, take}
use Rattle.key.specs.Layout.{joined, entry}
use Rattle.key.specs.Steps.{pick_in}
use Rattle.leaf.specs.Bytes.{written}
use Rattle.key.proofs.write.put_picks.Given as goal

abbrev pub invariant-loop-i : goal.invariant-loop-i
invariant-loop-i l = (l.to ≡ l.at + length (joined entry (take l.i-index (map (pick_in l.picks.texts.now l.picks.starts.now) l.sorted))))
    × (l.out ≡ written l.initial.out l.at (joined entry (take l.i-index (map (pick_in l.picks.texts.now l.picks.starts.now) l.sorted))))
