-- The word is read from the bank's bytes, at the offset of the definition.
use Rattle.std.proofs.Common.{ℕ, List}
use Rattle.bank.proofs.generation.Goals as goal
use Rattle.leaf.specs.Bytes.{word}
use Rattle.bank.specs.Bank.{generation}
use mathlib.Core.Path.{ap, ◌∙◌}

pub returns : goal.returns
unfolding generation
returns c = c.get.ensures ∙ ap (λ (l : List ℕ). word l 8) c.bank_of-l.ensures
