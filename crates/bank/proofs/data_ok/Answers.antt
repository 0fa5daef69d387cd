-- The CRC of the data is compared with the header's.
use Rattle.bank.proofs.data_ok.Goals as goal
use Rattle.bank.specs.Bank.{data_ok}

pub returns : goal.returns
unfolding data_ok
returns c = rw (c.crc32.ensures, c.data_in-d.ensures)
