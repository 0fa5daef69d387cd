-- The bytes between what is before the offset and what is after them are the bytes stored (`sets-part`).
use Rattle.std.proofs.Common.{◌≡◌, ◌+◌, ◌-◌, length, rules, arith}
use Rattle.record.proofs.Laws.{sets-part}
use Rattle.record.proofs.put_array.Goals as goal

pub returns : goal.returns
returns g c =
    let a = c.args in
    let n : length a.bytes ≡ g.row.N = search rules in
    rw c.copy_from_slice.ensures.after (sets-part a.out.now a.bytes a.at (a.at + g.row.N - a.at) (omega arith) (omega arith))
