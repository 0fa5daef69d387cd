-- Three numbers written one after the other are the block (`block-is`).
use Rattle.record.proofs.put_block.Goals as goal
use mathlib.Core.Path.{◌∙◌}
use Rattle.record.proofs.Laws.{block-is}

pub returns : goal.returns
returns c = c.put-3.ensures ∙ rw (c.put-2.ensures, c.put.ensures) (block-is c.args.out.now c.args.at c.args.b c.requires)
