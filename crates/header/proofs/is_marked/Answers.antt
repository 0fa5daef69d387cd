-- The magic, the version and the commit word are read at the offsets of the definition.
use Rattle.header.specs.Header.{marked}
use Rattle.header.proofs.is_marked.Goals as goal
use Rattle.leaf.specs.Bytes.{word}

pub returns : goal.returns
unfolding marked word
returns c = rw (c.get-v.ensures, c.get.ensures, c.get-2.ensures)
