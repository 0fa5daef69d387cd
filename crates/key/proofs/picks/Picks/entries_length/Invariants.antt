-- `bytes` is the length of the first entries joined, those before the index, at most 141 for each.
use mathlib.Core.Path.{◌≡◌}
use mathlib.Core.List.{map}
use Prim.Native.Nat.{◌*◌, ◌≤◌}
use lib.ListN.{length, take}
use Rattle.key.specs.Layout.{joined, entry, longest_entry}
use Rattle.key.specs.Steps.{pick_in}
use Rattle.key.proofs.picks.Picks.entries_length.Given as goal

abbrev pub invariant-loop-i : goal.invariant-loop-i
invariant-loop-i l = (l.bytes ≡ length (joined entry (take l.i-index (map (pick_in l.self.texts.now l.self.starts.now) l.sorted)))) × (l.bytes ≤ longest_entry * l.i-index)
