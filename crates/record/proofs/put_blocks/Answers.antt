-- The invariant: the first j blocks are stored at `at` (`puts-more`).
use Rattle.std.proofs.Common.{arith, length}
use Rattle.base.specs.Lists.{puts}
use Rattle.record.specs.Record.{no_block, block_bytes}
use Rattle.record.proofs.put_blocks.Goals as goal
use mathlib.Core.Path.{refl, ap, ◌∙◌}
use lib.Seq.{length-sets}
use Rattle.base.proofs.Lists.{puts-more}
use Rattle.record.proofs.Laws.{length-block}

pub loop-j-init : goal.loop-j-init
unfolding puts
loop-j-init c = (refl, refl)

pub loop-j-preserved : goal.loop-j-preserved
loop-j-preserved c =
    let a = c.args in
    let l = c.loop-j in
    (ap length c.put_block.ensures ∙ simp length-sets l.invariant.0, c.put_block.ensures ∙ rw l.invariant.1 (puts-more block_bytes 12 length-block a.bs l.j a.at no_block a.out.now (omega arith)))
