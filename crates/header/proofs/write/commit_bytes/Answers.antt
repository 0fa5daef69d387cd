-- The four bytes are those of the commit word, the lowest first; both sides compute to the same list.
use Rattle.header.specs.WriteHeader.{commit_bytes}
use Rattle.header.proofs.write.commit_bytes.Goals as goal
use mathlib.Core.Path.{refl}
use Rattle.leaf.specs.Bytes.{le32}

pub returns : goal.returns
unfolding commit_bytes le32
returns c = refl
