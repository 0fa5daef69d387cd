-- The invariant: the first j numbers are stored at `at` (`puts-more`).
use Rattle.std.proofs.Common.{arith, get_or, length, ◌+◌, ◌*◌}
use Rattle.leaf.specs.Bytes.{le32}
use Rattle.base.specs.Lists.{puts}
use Rattle.record.proofs.put_words.Goals as goal
use mathlib.Core.Path.{refl, ap, ◌∙◌}
use Rattle.base.proofs.Lists.{puts-more}
use Rattle.leaf.proofs.Laws.{length-le32, length-written, written-sets}

pub loop-j-init : goal.loop-j-init
unfolding puts
loop-j-init c = (refl, refl)

pub loop-j-preserved : goal.loop-j-preserved
loop-j-preserved c =
    let a = c.args in
    let l = c.loop-j in
    let b = le32 (get_or a.ws l.j 0) in
    let w = written-sets l.out (a.at + l.j * 4) b (rw (length-le32 (get_or a.ws l.j 0)) (omega arith)) in (
      ap length c.put.ensures ∙ length-written l.out (a.at + l.j * 4) b ∙ l.invariant.0,
      c.put.ensures ∙ w ∙ rw l.invariant.1 (puts-more le32 4 length-le32 a.ws l.j a.at 0 a.out.now (omega arith)),
    )
