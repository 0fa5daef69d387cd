-- At the end n bytes are written, and up to a block more.
use Rattle.std.proofs.Common.{◌≡◌, ◌+◌, ◌*◌, drop, arith, length-drop}
use Rattle.rowread.proofs.line.copy_value.Goals as goal
use Rattle.rowread.proofs.Blocks.{ahead-block, block-turn}

pub loop-k-preserved : goal.loop-k-preserved
loop-k-preserved c =
    let a = c.args in
    let l = c.loop-k in
    let z : l.k * 16 + 16 ≡ (l.k + 1) * 16 = omega arith in
    rw z at (block-turn a.out.now l.out c.copy_block.new.out a.t.now a.to a.from (l.k * 16) (omega (arith, c.requires.0, c.div_ceil-k-end.ensures)) l.invariant c.copy_block.ensures)

pub returns : goal.returns
returns c =
    let a = c.args in
    let l = c.loop-k in
    ahead-block a.out.now a.to a.n (l.k * 16) (drop a.from a.t.now) l.out l.invariant (omega (arith, c.div_ceil-k-end.ensures)) (omega (arith, c.div_ceil-k-end.ensures)) (omega (arith, c.div_ceil-k-end.ensures, c.requires.0, length-drop a.from a.t.now))
