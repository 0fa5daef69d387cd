-- Reading a bank row by row is proved in Tables.antt, that a table is inside the data in Data.antt.
use Rattle.snapshot.proofs.rows.bank_rows_hold.Goals as goal
use Rattle.snapshot.proofs.Tables.{reads-bank}
use Rattle.snapshot.proofs.Data.{in-data}

pub returns : goal.returns
returns c =
    record {
      reads_bank = reads-bank;
      in_data = in-data;
    }
