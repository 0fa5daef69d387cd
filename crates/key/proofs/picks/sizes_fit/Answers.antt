-- The first text that isn't within its size decides (`every-not`).
use Rattle.std.proofs.Common.{◌≤◌, ◌<◌, length, get_or, ◌%◌, arith, sym, le-leb}
use borrow.Author.Tests.{lt-leb}
use Rattle.key.specs.Layout.{sized, sizes}
use Rattle.key.specs.Steps.{between}
use Rattle.key.proofs.picks.sizes_fit.Goals as goal
use Rattle.key.proofs.Sizes.{every-none, every_more, every-not}

pub loop-k-init : goal.loop-k-init
loop-k-init c = every-none (sized (between c.args.texts.now c.args.starts.now))

pub returns-then-k-t : goal.returns-then-k-t
returns-then-k-t c =
    let l = c.loop-k in
    let a = c.args in
    let t = between a.texts.now a.starts.now in
    let h : get_or sizes (l.k % 5) 0 < length (t l.k) = rw (← c.text-t.ensures) c.if-k-t.true in
    sym (every-not (sized t) a.m l.k (omega arith) (lt-leb _ _ h))

pub loop-k-preserved : goal.loop-k-preserved
loop-k-preserved c =
    let l = c.loop-k in
    let a = c.args in
    let t = between a.texts.now a.starts.now in
    let h : length (t l.k) ≤ get_or sizes (l.k % 5) 0 = rw (← c.text-t.ensures) c.if-k-t.false in
    every_more (sized t) l.k l.invariant (le-leb _ _ h)
