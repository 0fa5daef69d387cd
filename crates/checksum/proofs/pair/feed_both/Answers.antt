-- Both registers after some bytes. Equal registers stay equal; after 256 bytes the second is the first and the 2048 steps of their
-- difference, by linearity (`second`); else each is run by itself.
use Rattle.checksum.proofs.pair.feed_both.Goals as goal
use mathlib.Core.Path.{ap₂, ◌∙◌}
use native.Mathlib.Omega.{arith}
use lib.Bits.{bit_xor}
use Rattle.checksum.proofs.PairTable.{second}

pub returns-then-bytes-eq-SHIFTED : goal.returns-then-bytes-eq-SHIFTED
returns-then-bytes-eq-SHIFTED c =
    let a = c.args in
    let f = c.feed-x.ensures in
    (f, ap₂ bit_xor f c.shift.ensures ∙ second a.a a.b 2048 a.bytes.now (omega arith))
