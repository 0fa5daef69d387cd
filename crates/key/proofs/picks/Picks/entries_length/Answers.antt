-- The invariant: `bytes` is the length of the first k entries joined, at most 141 k.
use Rattle.std.proofs.Common.{◌≡◌, map, ◌+◌, ◌≤◌, ◌<◌, length, []}
use Rattle.key.specs.Layout.{entry, joined, longest_entry}
use Rattle.key.proofs.picks.Picks.entries_length.Goals as goal
use mathlib.Core.Path.{ap}
use native.Mathlib.Omega.{arith}
use lib.ListN.{take, get_or, length-map}
use Rattle.key.specs.Picks.{pick_of}
use Rattle.key.specs.Steps.{between}
use Rattle.key.proofs.Insert.{below_at, map_at}
use Rattle.key.proofs.Put.{joined-none, step-length}

-- one more pick is counted
step : (c : goal.After-entry_length-bytes) → (let a = c.args in let l = c.loop-i in
    l.bytes + c.entry_length-bytes.result ≡ length (joined entry (take (l.i-index + 1) (map (pick_of (between a.self.now.texts.now a.self.now.starts.now)) a.sorted.now))))
step c =
    let a = c.args in
    let l = c.loop-i in
    let f = pick_of (between a.self.now.texts.now a.self.now.starts.now) in
    let w = length-map a.sorted.now f in
    let h : l.i-index < length a.sorted.now = omega arith in
    let e = step-length entry [] (map f a.sorted.now) l.i-index (omega arith) (f (get_or a.sorted.now l.i-index 0)) (map_at f a.sorted.now l.i-index h) in
    omega (arith, e, c.entry_length-bytes.ensures, l.invariant.0)

small : (c : goal.After-entry_length-bytes) → c.entry_length-bytes.result ≤ longest_entry
small c =
    let s = c in
    let l = c.loop-i in
    let b = below_at s.args.self.now.n s.args.sorted.now l.i-index s.requires.0 (omega arith) in
    omega (arith, c.entry_length-bytes.ensures, s.args.self.now.small (get_or s.args.sorted.now l.i-index 0) b)

pub loop-i-init : goal.loop-i-init
loop-i-init c =
    let a = c.args in
    let e = ap length (joined-none entry (map (pick_of (between a.self.now.texts.now a.self.now.starts.now)) a.sorted.now)) in
    (omega arith, omega arith)

pub entry_length-bytes-requires : goal.entry_length-bytes-requires
entry_length-bytes-requires c =
    below_at c.args.self.now.n c.args.sorted.now c.loop-i.i-index c.requires.0 (omega arith)

pub overflow_add-bytes : goal.overflow_add-bytes
overflow_add-bytes c = omega (arith, step c, small c, c.requires.1)

pub loop-i-preserved : goal.loop-i-preserved
loop-i-preserved c =
    let h = c.requires.1 in
    let l = c.loop-i in
    (step c, omega (arith, small c))
