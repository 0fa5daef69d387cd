-- Size and number of tables follow from the version; the first bytes are cut to that size and read.
use Rattle.std.proofs.Common.{take}
use Rattle.record.specs.Record.{table_count, source_of, decoded}
use Rattle.record.proofs.decode.Goals as goal
use mathlib.Core.Path.{ap, ◌∙◌}

pub returns : goal.returns
unfolding decoded
returns c =
    let a = c.args in
    c.read.ensures
    ∙ (λ i. source_of (c.table_count-tables.ensures.0 i) (c.part-r.ensures i))
    ∙ ap (λ n. source_of (table_count a.version) (take n a.bytes.now)) c.source_size-size.ensures.0
