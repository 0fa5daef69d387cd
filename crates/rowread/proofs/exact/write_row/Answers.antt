-- Exactly where no block fits after the values; else with a block after them, which was saved and is put back (`ahead-back`).
use Rattle.rfc4180.specs.Read.{values}
use Rattle.rowread.specs.Stored.{values_of, joined}
use Rattle.rowread.proofs.exact.write_row.Goals as goal
use native.Mathlib.Omega.{arith}
use mathlib.Core.Path.{refl}
use Rattle.rowread.proofs.Blocks.{ahead-back}

pub returns : goal.returns
returns c =
    let a = c.args in
    let w = c.row-2.ensures.1.ahead refl c.requires.0 in
    (ahead-back a.out.now (joined (values_of (values a.width a.t.now))) _ _ _ _ a.size w.0 c.requires.1 (omega (arith, c.requires.2, c.if-out-size-lt-BLOCK.false)) refl c.copy_block.ensures c.copy_block-2.ensures, w.1)
