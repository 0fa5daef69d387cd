-- The data is a part of the bank's bytes, after its header sector.
use Rattle.std.proofs.Common.{ℕ, List}
use Rattle.bank.proofs.data_in.Goals as goal
use Rattle.region.specs.Region.{data_of, sector_size}
use lib.ListN.{take, drop}
use mathlib.Core.Path.{ap, ◌∙◌}

pub returns : goal.returns
unfolding data_of
returns c =
    let a = c.args in
    c.part.ensures ∙ ap (λ (l : List ℕ). take a.b.length (drop sector_size l)) c.bank_of-l.ensures
