-- The first different field decides (`found`), else the last one (`last_decides`).
use Rattle.std.proofs.Common.{◌≡◌, arith}
use Rattle.key.specs.Order.{name_field}
use Rattle.key.specs.Steps.{pick_in, between}
use Rattle.key.proofs.picks.Picks.order.Goals as goal
use Rattle.key.proofs.TextOffsets.{five}
use Rattle.key.proofs.Walk.{ne-true, ne-false, found, further, last_decides}

pub returns-then-is_ne : goal.returns-then-is_ne
returns-then-is_ne c =
    let l = c.loop-f in
    let a = c.args in
    let p = pick_in a.self.now.texts.now a.self.now.starts.now a.i in
    let q = pick_in a.self.now.texts.now a.self.now.starts.now a.j in
    let o = c.order-o in
    let hp = five (between a.self.now.texts.now a.self.now.starts.now) a.i in
    let hq = five (between a.self.now.texts.now a.self.now.starts.now) a.j in
    let e = rw (c.field-a.ensures, c.field-b.ensures) at o.ensures in
    found p q l.f o.result (omega arith) (omega arith) l.invariant e (ne-true o.result c.if-is_ne.ensures)

pub loop-f-preserved : goal.loop-f-preserved
loop-f-preserved c =
    let l = c.loop-f in
    let a = c.args in
    let p = pick_in a.self.now.texts.now a.self.now.starts.now a.i in
    let q = pick_in a.self.now.texts.now a.self.now.starts.now a.j in
    let o = c.order-o in
    let hp = five (between a.self.now.texts.now a.self.now.starts.now) a.i in
    let hq = five (between a.self.now.texts.now a.self.now.starts.now) a.j in
    let e = rw (c.field-a.ensures, c.field-b.ensures) at o.ensures in
    further p q l.f o.result (omega arith) (omega arith) l.invariant e (ne-false o.result c.if-is_ne.ensures)

pub returns : goal.returns
returns c =
    let l = c.loop-f in
    let a = c.args in
    let p = pick_in a.self.now.texts.now a.self.now.starts.now a.i in
    let q = pick_in a.self.now.texts.now a.self.now.starts.now a.j in
    let hp = five (between a.self.now.texts.now a.self.now.starts.now) a.i in
    let hq = five (between a.self.now.texts.now a.self.now.starts.now) a.j in
    let f : l.f ≡ name_field = omega (arith, c.loop-f-test.false, l.auto.f-end) in
    let e = rw (c.field-a-2.ensures, c.field-b-2.ensures) at c.order.ensures in
    last_decides p q name_field c.order.result (omega (arith, hp)) (omega (arith, hq)) (rw f at l.invariant) e (omega (arith, hp)) (omega (arith, hq))
