-- A quote is two bytes when doubled, any other byte is one.
use Rattle.std.proofs.Common.{length, rules, arith}
use mathlib.Core.Path.{ap}
use Rattle.row.proofs.size.quotes.Goals.{then-b-eq-QUOTE, else-b-eq-QUOTE}
use Rattle.row.proofs.Laws.{doubled-quote, doubled-byte, doubled-out}
use Rattle.row.proofs.size.quotes.Goals as goal

pub loop-b-preserved : goal.loop-b-preserved
loop-b-preserved c =
    let l = c.loop-b in
    let v = c.args.v.now in
    elim c.if-b-eq-QUOTE.branch [
      | then-b-eq-QUOTE w ↦ (omega arith, omega (arith, l.invariant.1, w.n-is, ap length (doubled-quote v l.b-index (omega arith) w.if-b-eq-QUOTE.true)))
      | else-b-eq-QUOTE w ↦ (omega arith, omega (arith, l.invariant.1, w.n-is, ap length (doubled-byte v l.b-index (omega arith) w.if-b-eq-QUOTE.false)))
    ]

pub returns : goal.returns
returns c =
    let l = c.loop-b in
    omega (arith, l.invariant.1, ap length (doubled-out c.args.v.now l.b-index (search rules)))
