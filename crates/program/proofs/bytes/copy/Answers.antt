-- Where bytes fit, a part of the buffer is overwritten with as many of them.
use Rattle.program.proofs.Writes.{copied}
use Rattle.program.proofs.bytes.copy.Goals as goal

pub returns-then-n-gt0 : goal.returns-then-n-gt0
returns-then-n-gt0 c = copied c.args.at c.fitting-n.result c.args.out.now c.args.s.now c.copy_from_slice.new.self c.copy_from_slice.ensures.after c.fitting-n.ensures c.if-n-gt0.true
