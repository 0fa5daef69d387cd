-- Where bytes fit, a part of the buffer is overwritten with as many of them.
use Rattle.program.proofs.Writes.{filled}
use Rattle.program.proofs.bytes.fill.Goals as goal

pub returns-then-m-gt0 : goal.returns-then-m-gt0
returns-then-m-gt0 c = filled c.args.at c.args.n c.fitting-m.result c.args.b c.args.out.now c.fill.new.self (c.fill.ensures.after (λ y h. h)) c.fitting-m.ensures c.if-m-gt0.true
