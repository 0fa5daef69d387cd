-- The first n bytes, then those from `length v - n` on, which is at most n, are all of v (`copy-overlap`).
use Rattle.std.proofs.Common.{length, ◌-◌}
use Rattle.row.proofs.copy.copy_ends.Goals as goal
use mathlib.Core.Path.{◌∙◌}
use native.Mathlib.Omega.{arith}
use Rattle.std.proofs.lemmas.List.{take_rest}
use Rattle.row.proofs.Laws.{copy-overlap}

pub returns : goal.returns
returns c =
    let a = c.args in
    let p = c.requires in
    let v = a.v.now in
    let f = rw (take_rest v (length v - a.n), c.copy_block.ensures) at c.copy_block-2.ensures in
    f ∙ copy-overlap a.out.now v a.to (length v - a.n) a.n (omega arith) p.0
