-- A list of n zeros has the length n.
use Rattle.std.proofs.Common.{ℕ, sym}
use Rattle.std.proofs.lemmas.List.{length-replicate}
use Rattle.replay.specs.Sizes.{list_size}
use Rattle.replay.proofs.list_buffer.Goals as goal

pub returns : goal.returns
returns c = sym (length-replicate {A = ℕ} list_size 0)
