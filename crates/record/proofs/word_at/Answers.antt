-- If all four bytes are there, their sum is the number; else `get` reads it, with 0 past the end.
use Rattle.leaf.specs.Bytes.{word}
use Rattle.record.proofs.word_at.Goals as goal

pub returns : goal.returns
unfolding word
returns c = rw (c.u8_to_u32-4.ensures.0, c.u8_to_u32-3.ensures.0, c.u8_to_u32-2.ensures.0, c.u8_to_u32.ensures.0)
