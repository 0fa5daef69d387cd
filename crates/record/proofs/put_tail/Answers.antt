-- Stamp, length of the id, id and validator, stored one after the other, are the last part (`tail-is`).
use Rattle.record.proofs.put_tail.Goals as goal
use mathlib.Core.Path.{◌∙◌}
use Rattle.record.proofs.Laws.{tail-is}

pub returns : goal.returns
returns c =
    let a = c.args in
    let z = c.requires.1 in
    c.put_array-3.ensures ∙ rw (c.put_array-2.ensures, c.put_array.ensures) (tail-is a.out.now a.at a.s z.stamp z.id)
