-- std's four bytes are `le32`.
use Rattle.leaf.proofs.bytes.put.Goals as goal
use mathlib.Core.Path.{ap, ◌∙◌}
use Rattle.leaf.specs.Bytes.{le32, written}

pub returns : goal.returns
unfolding le32
returns c = c.store.ensures ∙ ap (written c.args.b.now c.args.i) c.to_le_bytes.ensures
