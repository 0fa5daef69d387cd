-- The first n bytes and those from `length v - n` on, which is at most n, are all of v (`special-overlap`).
use Rattle.std.proofs.Common.{length, ◌-◌}
use Rattle.row.proofs.special.special_in_ends.Goals as goal
use native.Mathlib.Omega.{arith}
use Rattle.std.proofs.lemmas.List.{take_rest}
use Rattle.row.proofs.Laws.{special-overlap}

pub returns : goal.returns
returns c =
    let a = c.args in
    let v = a.v.now in
    rw (c.special_in_block.ensures, c.special_in_block-2.ensures, take_rest v (length v - a.n)) (special-overlap v (length v - a.n) a.n (omega arith))
