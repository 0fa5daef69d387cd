-- The bytes copied, and what is left of the 255s after them (`drop-new`).
use Rattle.std.proofs.Common.{ℕ}
use Rattle.writer.specs.State.{tail_size}
use Rattle.base.proofs.Lists.{drop-new}
use Rattle.due.proofs.filled.Goals as goal

pub returns : goal.returns
returns c = rw (drop-new {A = ℕ} 255 tail_size c.args.n, c.copy_from_slice.ensures.after)
