-- Each turn inserts one more pick, from the last to the first (`one_more`).
use Rattle.std.proofs.Common.{◌≡◌, ◌+◌, ◌-◌, arith}
use Rattle.key.specs.Steps.{pick_in}
use Rattle.key.proofs.picks.Picks.sort.Goals as goal
use Rattle.key.proofs.Insert.{none_yet, one_more}

pub loop-i-init : goal.loop-i-init
loop-i-init c = (omega arith, none_yet (pick_in c.args.self.now.texts.now c.args.self.now.starts.now) c.args.self.now.n c.args.order.now)

pub loop-i-preserved : goal.loop-i-preserved
loop-i-preserved c =
    let a = c.args in
    let l = c.loop-i in
    let q = c.insert-m in
    let e : l.i - 1 + 1 ≡ l.i = omega arith in
    let o = l.invariant.1 in (
      omega (arith, q.ensures.0),
      one_more (pick_in a.self.now.texts.now a.self.now.starts.now) a.self.now.n (l.i - 1) (omega arith) l.order q.new.order l.m q.result (rw e o) q.ensures.1,
    )
