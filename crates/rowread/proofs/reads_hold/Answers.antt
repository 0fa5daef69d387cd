-- Each claim is a theorem of Table.antt.
use Rattle.rowread.proofs.reads_hold.Goals as goal
use Rattle.rowread.proofs.Table.{reads-written, reads-table, stored-is-a-row, reads-rows, small-outputs, refuses-others, reads_end, reads_all, stored-limits, refuses-lone-cr}

pub returns : goal.returns
returns c =
    record {
      reads_written = reads-written;
      reads_table = reads-table;
      stored_is_aRow = stored-is-a-row;
      reads_rows = reads-rows;
      small_outputs = small-outputs;
      refuses_others = refuses-others;
      reads_end = reads_end;
      reads_all = reads_all;
      stored_limits = stored-limits;
      refuses_lone_cr = refuses-lone-cr;
    }
