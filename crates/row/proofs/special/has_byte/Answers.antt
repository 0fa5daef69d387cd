-- One turn is `has-turn`; `has_end` is the end.
use Rattle.std.proofs.Common.{arith}
use Rattle.row.proofs.Laws.{has-turn, has_end}
use Rattle.row.proofs.special.has_byte.Goals as goal

pub loop-b-preserved : goal.loop-b-preserved
loop-b-preserved c =
    let l = c.loop-b in
    has-turn c.args.byte c.args.v.now l.b-index l.found l.invariant (omega arith)

pub returns : goal.returns
returns c =
    let l = c.loop-b in
    has_end c.args.byte c.args.v.now l.b-index l.found l.invariant (omega arith)
