-- The buffer is so many zeros, and a list of n zeros has the length n.
use Rattle.std.proofs.Common.{ℕ, sym, refl}
use Rattle.std.proofs.lemmas.List.{length-replicate}
use Rattle.program.specs.Arguments.{argument_size}
use Rattle.program.proofs.arguments.buffer.Goals as goal

pub returns : goal.returns
returns c = (refl, sym (length-replicate {A = ℕ} argument_size 0))
