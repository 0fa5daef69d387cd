-- The bytes from `to` on are those of t, the others stay.
use Rattle.std.proofs.Common.{◌≡◌, ◌+◌, ◌-◌, take, drop, arith, length-take, length-drop}
use Rattle.rowread.specs.Steps.{block_size}
use Rattle.rowread.proofs.line.copy_block.Goals as goal
use Rattle.rowread.proofs.Blocks.{part-put}

pub returns : goal.returns
returns c =
    let a = c.args in
    let s = take block_size (drop a.from a.t.now) in
    let n = length-take block_size (drop a.from a.t.now) in
    let m = length-drop a.from a.t.now in
    let e : a.from + block_size - a.from ≡ block_size = omega arith in
    part-put a.out.now a.to (a.to + block_size - a.to) c.copy_from_slice.new.self s (omega (arith, n, m)) (omega (arith, n, m)) (rw e at c.copy_from_slice.ensures.after)
