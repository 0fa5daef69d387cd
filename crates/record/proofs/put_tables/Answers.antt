-- The original CRCs and lengths, then the blocks after them, are the tables' bytes (`tables-are`).
use Rattle.record.proofs.put_tables.Goals as goal
use mathlib.Core.Path.{◌∙◌}
use Rattle.record.proofs.Laws.{tables-are}

pub returns : goal.returns
returns c =
    let a = c.args in
    c.put_blocks.ensures ∙ rw c.put_words.ensures (tables-are a.out.now a.at a.s c.requires.1.original)
