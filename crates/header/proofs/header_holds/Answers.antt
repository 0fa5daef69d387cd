-- What holds of a header as written is proved in WriteLaws.antt.
use Rattle.header.proofs.header_holds.Goals as goal
use Rattle.header.proofs.WriteLaws.{blank-refused, header-back, committed}

pub returns : goal.returns
returns c =
    record {
      blank_refused = blank-refused;
      header_back = header-back;
      committed = committed;
    }
