-- The computed length is the key's; a smaller output is refused. Else prefix, count byte and picks, written one after the other, are the
-- key (`whole`).
use Rattle.std.proofs.Common.{length}
use Rattle.key.specs.Picks.{firsts}
use Rattle.key.specs.Layout.{key_of}
use Rattle.key.proofs.write.write_key.Goals as goal
use mathlib.Core.Path.{refl}
use native.Mathlib.Omega.{arith}
use Rattle.key.specs.Picks.{pick_of}
use Rattle.key.specs.Steps.{between}
use Rattle.key.proofs.Answers.{too_small, fits_in, whole, part-is, part_count, total-is}

pub returns-then-out-total : goal.returns-then-out-total
returns-then-out-total c =
    let s = c in
    let a = s.args in
    let f = pick_of (between a.picks.now.texts.now a.picks.now.starts.now) in
    let q = c.sort-m in
    let order = q.new.order in
    let m = q.result in
    let o = q.ensures.1 in
    let k = c.key_length-total in
    let e = total-is f a.picks.now.n order m o a.identity.now k.result k.ensures in
    (too_small (length a.out.now) (key_of a.identity.now (firsts a.picks.now.n f)) (omega (arith, e, c.if-out-total.true)), refl)

pub returns : goal.returns
returns c =
    let s = c in
    let a = s.args in
    let f = pick_of (between a.picks.now.texts.now a.picks.now.starts.now) in
    let q = c.sort-m in
    let order = q.new.order in
    let m = q.result in
    let o = q.ensures.1 in
    let k = c.key_length-total in
    let p = c.put_prefix-at in
    let w = c.put_picks in
    let left = c.if-out-total.false in
    let e = total-is f a.picks.now.n order m o a.identity.now k.result k.ensures in (
      fits_in (length a.out.now) (key_of a.identity.now (firsts a.picks.now.n f)) k.result e left,
      whole a.out.now p.new.out w.new.out a.identity.now (firsts a.picks.now.n f) p.result m (omega (arith, e, left)) p.ensures.0
          (part_count f a.picks.now.n order m o) p.ensures.1 (rw (part-is f a.picks.now.n order m o) at w.ensures),
    )
