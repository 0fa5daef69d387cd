-- The laws of records are those of Back.antt.
use Rattle.record.proofs.records_hold.Goals as goal
use Rattle.record.proofs.Back.{reads-back, version-1, seven-tables}

pub returns : goal.returns
returns c =
    record {
      reads_back = reads-back;
      version1 = version-1;
      seven_tables = seven-tables;
    }
