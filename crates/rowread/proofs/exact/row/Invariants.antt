-- The scan is that of the width - k values from `from` on, with `to` bytes so far, and what is written so far is `RowState`.
use Prim.Native.Nat.{◌-◌, ◌≤◌}
use mathlib.Core.Path.{◌≡◌}
use lib.ListN.{length, drop}
use Rattle.rfc4180.specs.Read.{values}
use Rattle.rowread.specs.Steps.{scan_of, scan_from, slack_of}
use Rattle.rowread.proofs.Copies.{RowState}
use Rattle.rowread.proofs.exact.row.Given as goal

abbrev pub invariant-loop-k : goal.invariant-loop-k
invariant-loop-k l = (l.from ≤ length l.t) × (l.to ≤ l.from) × (scan_of l.width l.t ≡ scan_from (length l.t) l.to (values (l.width - l.k) (drop l.from l.t))) × RowState (slack_of l.ahead) l.write l.t l.width l.initial.out l.initial.ends l.out l.ends l.from l.to l.k
