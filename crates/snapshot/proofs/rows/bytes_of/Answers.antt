-- The block's bytes are a part of the bank, after its header sector.
use Rattle.std.proofs.Common.{ℕ, ◌+◌, List}
use Rattle.snapshot.specs.Rows.{bytes_of}
use Rattle.snapshot.proofs.rows.bytes_of.Goals as goal
use lib.ListN.{take, drop}
use mathlib.Core.Path.{ap, ◌∙◌}
use Rattle.region.specs.Region.{sector_size}

pub returns : goal.returns
unfolding bytes_of
returns c =
    let b = c.args.b in
    c.part.ensures ∙ ap (λ (l : List ℕ). take b.length (drop (sector_size + b.offset) l)) c.bank_of-l.ensures
