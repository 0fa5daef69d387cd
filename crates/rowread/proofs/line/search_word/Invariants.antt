-- The bytes before index d of the word were searched, and m has the marks from d on. The measure is m, which falls as its first mark is
-- cleared.
use Prim.Native.Nat.{ℕ, ◌+◌, ◌≤◌}
use mathlib.Core.Path.{◌≡◌}
use mathlib.Core.List.{List}
use lib.ListN.{length, take, drop}
use Rattle.rowread.specs.Marks as M
use Rattle.base.specs.Little.{little}
use Rattle.rowread.specs.Marks.{is_delimiter, since}
use Rattle.rowread.specs.Steps.{At}
use Rattle.rowread.proofs.line.search_word.Given as goal

abbrev pub invariant-loop-m : goal.invariant-loop-m
invariant-loop-m l = (d : ℕ) × (d ≤ 8) × (l.m ≡ little (since d (M.marks is_delimiter (take 8 (drop l.i l.t))))) × (l.k ≤ l.i + d) × (length l.marks ≡ length l.initial.marks) × ((slots : List ℕ) → At l.t slots l.initial.marks l.i l.commas → At l.t slots l.marks (l.i + d) l.k)

abbrev pub decreases-loop-m : goal.decreases-loop-m
decreases-loop-m l = l.m
