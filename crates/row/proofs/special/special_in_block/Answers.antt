-- A byte is special if it is one of four; so one among others is special exactly if one of the four is among them (`special-is`).
use Rattle.row.proofs.special.special_in_block.Goals as goal
use Rattle.row.proofs.Laws.{special-is}

pub returns : goal.returns
returns c = rw (c.has_byte.ensures, c.has_byte-2.ensures, c.has_byte-3.ensures, c.has_byte-4.ensures) (special-is c.args.v.now)
