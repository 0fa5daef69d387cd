-- The bytes that are there, copied over zeros, are N bytes with zeros past the end (`bytes-there`).
use Rattle.std.proofs.Common.{ℕ, length}
use Rattle.record.proofs.bytes_at.Goals as goal
use Rattle.base.proofs.Lists.{drop-new}
use Rattle.record.proofs.Reading.{bytes-there}

pub returns : goal.returns
returns g c =
    rw (drop-new {A = ℕ} 0 g.row.N (length c.part-there.result.now), c.copy_from_slice.ensures.after, c.part-there.ensures) (bytes-there g.row.N c.args.r.now c.args.at)
