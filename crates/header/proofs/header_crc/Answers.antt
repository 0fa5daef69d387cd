-- The front and the records are parts of the header's bytes.
use Rattle.header.specs.Header.{seal_of, header_crc}
use Rattle.header.proofs.header_crc.Goals as goal
use mathlib.Core.Path.{◌∙◌}

pub returns : goal.returns
unfolding header_crc seal_of
returns c = c.seal.ensures ∙ rw (c.part-records.ensures, c.part-front.ensures)
