-- The invariant: the first k sorted picks are written, up to offset `to`. One more is `step-put`.
use Rattle.std.proofs.Common.{map, ◌<◌, length, []}
use Rattle.leaf.specs.Bytes.{written}
use Rattle.key.specs.Layout.{entry}
use Rattle.key.proofs.write.put_picks.Goals as goal
use mathlib.Core.Path.{ap, ◌∙◌, sym}
use native.Mathlib.Omega.{arith}
use lib.ListN.{get_or, length-map}
use Rattle.key.specs.Picks.{pick_of}
use Rattle.key.specs.Steps.{between}
use Rattle.key.proofs.Insert.{below_at, map_at}
use Rattle.key.proofs.Put.{put-none, joined-none, step-length, step_fits, step-put}

pub loop-i-init : goal.loop-i-init
loop-i-init c =
    let a = c.args in
    let e = joined-none entry (map (pick_of (between a.picks.now.texts.now a.picks.now.starts.now)) a.sorted.now) in
    (omega (arith, ap length e), sym (ap (written a.out.now a.at) e ∙ put-none a.out.now a.at (omega arith)))

pub put_pick-to-requires : goal.put_pick-to-requires
put_pick-to-requires c =
    let s = c in
    let a = s.args in
    let l = c.loop-i in
    let f = pick_of (between a.picks.now.texts.now a.picks.now.starts.now) in
    let w = length-map a.sorted.now f in
    let h : l.i-index < length a.sorted.now = omega arith in
    let b = below_at a.picks.now.n a.sorted.now l.i-index s.requires.0 h in
    let r = step_fits entry [] (map f a.sorted.now) l.i-index (omega arith) (f (get_or a.sorted.now l.i-index 0)) (map_at f a.sorted.now l.i-index h) in
    (b, omega (arith, r, s.requires.1, l.invariant.0))

pub loop-i-preserved : goal.loop-i-preserved
loop-i-preserved c =
    let s = c in
    let a = s.args in
    let l = c.loop-i in
    let q = c.put_pick-to in
    let f = pick_of (between a.picks.now.texts.now a.picks.now.starts.now) in
    let w = length-map a.sorted.now f in
    let h : l.i-index < length a.sorted.now = omega arith in
    let e = map_at f a.sorted.now l.i-index h in
    let g = f (get_or a.sorted.now l.i-index 0) in (
      omega (arith, q.ensures.0, l.invariant.0, step-length entry [] (map f a.sorted.now) l.i-index (omega arith) g e),
      step-put entry [] (map f a.sorted.now) l.i-index (omega arith) g e a.out.now l.out q.new.out a.at l.to s.requires.1 l.invariant.0 l.invariant.1 q.ensures.1,
    )
