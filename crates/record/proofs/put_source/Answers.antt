-- First part, tables, last part and zeros, stored one after the other, are the record (`source_is`).
use Rattle.base.specs.Lists.{fill}
use Rattle.record.proofs.put_source.Goals as goal
use mathlib.Core.Path.{◌∙◌}
use Rattle.record.proofs.Laws.{source_is}

pub returns : goal.returns
unfolding fill
returns c =
    let a = c.args in
    c.put_array.ensures ∙ rw (c.put_tail.ensures, c.put_tables.ensures, c.put_head.ensures) (source_is a.out.now a.at a.s c.requires.1)
