-- The key is a part of the bank's bytes, the first of its data.
use Rattle.std.proofs.Common.{ℕ, List}
use Rattle.snapshot.proofs.keymatch.key_in.Goals as goal
use Rattle.snapshot.specs.KeyMatch.{key_in}
use Rattle.region.specs.Region.{data_of, sector_size}
use lib.ListN.{take, drop}
use mathlib.Core.Path.{ap, ◌∙◌}

pub returns : goal.returns
unfolding key_in data_of
returns c = c.part.ensures ∙ ap (λ (l : List ℕ). take c.args.b.key (drop sector_size l)) c.bank_of-l.ensures
