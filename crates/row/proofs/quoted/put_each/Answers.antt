-- One turn is `each-size` and `each_turn`.
use Rattle.std.proofs.Common.{◌+◌, length, get_or, eqb, rules, arith}
use mathlib.Core.Path.{refl, sym, ap, ◌∙◌}
use lib.ListN.{length-set}
use Rattle.base.specs.Number.{pick}
use Rattle.rfc4180.specs.Csv.{quote}
use Rattle.row.proofs.Laws.{doubled-out, each-size, each_turn}
use Rattle.row.proofs.quoted.put_each.Goals as goal

pub bounds-out-n : goal.bounds-out-n
bounds-out-n c =
    let l = c.loop-i in
    let v = c.args.v.now in
    omega (arith, c.requires, l.invariant.0, l.invariant.1, each-size v l.i (pick (eqb (get_or v l.i 0) quote) 1 0) (omega arith) refl)

pub bounds-out-n-in-loop-i : goal.bounds-out-n-in-loop-i
bounds-out-n-in-loop-i c =
    let l = c.loop-i in
    let v = c.args.v.now in
    omega (arith, c.requires, l.invariant.0, l.invariant.1, each-size v l.i _ (omega arith) c.doubling_adds-n.ensures, length-set l.out (l.n + l.i) quote)

pub loop-i-preserved : goal.loop-i-preserved
loop-i-preserved c =
    let l = c.loop-i in
    let v = c.args.v.now in
    let e = c.doubling_adds-n.ensures in
    (simp length-set l.invariant.0, omega (arith, l.invariant.1, each-size v l.i _ (omega arith) e), l.invariant.2 ∙ each_turn v l.i _ (omega arith) e l.out l.n)

pub returns : goal.returns
returns c =
    let l = c.loop-i in
    let q = doubled-out c.args.v.now l.i (search rules) in
    (omega (arith, l.invariant.1, ap length q), sym (l.invariant.2 ∙ rw q))
