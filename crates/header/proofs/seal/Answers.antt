-- The front, eight zeros and the records are fed one after the other, which is the CRC of the three joined (`seal-in-parts`).
use Rattle.header.proofs.seal.Goals as goal
use Rattle.base.specs.Lists.{fill}
use Rattle.header.proofs.Parts.{seal-in-parts}
use mathlib.Core.Path.{◌∙◌, sym}

pub returns : goal.returns
unfolding fill
returns c =
    let a = c.args in
    c.crc32.ensures
    ∙ rw (c.crc32-y.ensures, c.crc32-x.ensures) (sym (seal-in-parts a.front.now a.records.now))
