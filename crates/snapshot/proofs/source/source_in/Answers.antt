-- The record is at 48 and the index times the size; nothing overflows, since the size is at most 384.
use Rattle.std.proofs.Common.{◌+◌, ◌*◌}
use Rattle.snapshot.proofs.source.source_in.Goals as goal
use Rattle.snapshot.specs.Source.{source_in}
use Rattle.header.specs.Header.{record_at}
use mathlib.Core.Path.{◌∙◌}

pub returns : goal.returns
unfolding source_in
returns c =
    let a = c.args in
    c.record_at.ensures ∙ (λ i. record_at a.b.version (c.bank_of-l.ensures i) (48 + a.i * c.source_size.ensures.0 i))
