-- The pick goes before the first one that is larger, nowhere if it is there, else to the end.
use Rattle.std.proofs.Common.{◌≡◌, map, ◌<◌, length, get_or, arith}
use lib.ListN.{length-map}
use Rattle.key.specs.Steps.{pick_in}
use Rattle.key.proofs.picks.Picks.index_of.Goals as goal
use Rattle.key.proofs.Insert.{below_at, map_at, goes_end, goes_before, goes-nowhere, goes_on}

pub order-requires : goal.order-requires
order-requires c = (c.requires.0, below_at c.args.self.now.n c.args.sorted.now c.loop-k.k c.requires.1 (omega arith))

pub returns-in-Less : goal.returns-in-Less
returns-in-Less c =
    let a = c.args in
    let l = c.loop-k in
    let f = pick_in a.self.now.texts.now a.self.now.starts.now in
    let w = length-map a.sorted.now f in
    let h : l.k < length a.sorted.now = omega arith in
    goes_before (f a.i) (map f a.sorted.now) l.k l.invariant (omega arith) (f (get_or a.sorted.now l.k 0)) (map_at f a.sorted.now l.k h) c.order.result c.order.ensures c.in-Less.is

pub returns-in-Equal : goal.returns-in-Equal
returns-in-Equal c =
    let a = c.args in
    let l = c.loop-k in
    let f = pick_in a.self.now.texts.now a.self.now.starts.now in
    let w = length-map a.sorted.now f in
    let h : l.k < length a.sorted.now = omega arith in
    goes-nowhere (f a.i) (map f a.sorted.now) l.k l.invariant (omega arith) (f (get_or a.sorted.now l.k 0)) (map_at f a.sorted.now l.k h) c.order.result c.order.ensures c.in-Equal.is

pub loop-k-preserved : goal.loop-k-preserved
loop-k-preserved c =
    let a = c.args in
    let l = c.loop-k in
    let f = pick_in a.self.now.texts.now a.self.now.starts.now in
    let w = length-map a.sorted.now f in
    let h : l.k < length a.sorted.now = omega arith in
    goes_on (f a.i) (map f a.sorted.now) l.k l.invariant (omega arith) (f (get_or a.sorted.now l.k 0)) (map_at f a.sorted.now l.k h) c.order.result c.order.ensures c.in-Greater.is

pub returns : goal.returns
returns c =
    let a = c.args in
    let l = c.loop-k in
    let f = pick_in a.self.now.texts.now a.self.now.starts.now in
    let w = length-map a.sorted.now f in
    let e : l.k ≡ length a.sorted.now = omega arith in
    rw e at (goes_end (f a.i) (map f a.sorted.now) l.k l.invariant (omega arith) (omega arith))
