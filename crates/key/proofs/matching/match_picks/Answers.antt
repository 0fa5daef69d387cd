-- A pick more is `goes_on`, one that differs `stops`.
use Rattle.std.proofs.Common.{[], map, ◌<◌, length, get_or, refl, arith}
use Rattle.key.proofs.matching.match_picks.Goals as goal
use lib.ListN.{length-map}
use Rattle.key.specs.Layout.{entry, joined}
use Rattle.key.specs.Steps.{pick_in}
use Rattle.key.proofs.Insert.{below_at, map_at}
use Rattle.key.proofs.Left.{goes_on, stops}

pub loop-i-init : goal.loop-i-init
unfolding joined
loop-i-init c = refl

pub match_pick-requires : goal.match_pick-requires
match_pick-requires c = below_at c.args.picks.now.n c.args.sorted.now c.loop-i.i-index c.requires (omega arith)

pub returns-in_err-rest : goal.returns-in_err-rest
returns-in_err-rest c =
    let a = c.args in
    let l = c.loop-i in
    let f = pick_in a.picks.now.texts.now a.picks.now.starts.now in
    let w = length-map a.sorted.now f in
    let h : l.i-index < length a.sorted.now = omega arith in
    rw c.from_residual.ensures
    (stops entry [] (map f a.sorted.now) l.i-index (omega arith) (f (get_or a.sorted.now l.i-index 0)) (map_at f a.sorted.now l.i-index h) a.stored.now l.rest.now l.invariant
    c.in_err-rest.ensures)

pub loop-i-preserved : goal.loop-i-preserved
loop-i-preserved c =
    let a = c.args in
    let l = c.loop-i in
    let f = pick_in a.picks.now.texts.now a.picks.now.starts.now in
    let w = length-map a.sorted.now f in
    let h : l.i-index < length a.sorted.now = omega arith in
    goes_on entry [] (map f a.sorted.now) l.i-index (omega arith) (f (get_or a.sorted.now l.i-index 0)) (map_at f a.sorted.now l.i-index h) a.stored.now l.rest.now l.invariant
    c.in_ok-rest.rest.now c.in_ok-rest.ensures
