-- The sources after a source's beginning and after a table's end.
use Rattle.std.specs.Prelude.{Bool, ◌&&◌, List, ◌-◌, leb, ltb, set, get_or}
use Rattle.base.specs.Number.{pick}
use Rattle.base.specs.Table.{last_table}
use Rattle.record.specs.declared.Block.{Block}
use Rattle.record.specs.declared.Source.{Source}
use Rattle.header.specs.Header.{max_sources}
use Rattle.writer.specs.declared.Parts.{Parts}
use Rattle.writer.specs.declared.Tables.{Tables}
use Rattle.writer.specs.State.{position}
use Rattle.lower.specs.Lower.{emptied, with_block, past_end}

-- a source that is begun is the next one
abbrev pub sources_with : Bool → List Source → Tables → Source → List Source
sources_with done ss x s = pick (done && ltb x.count max_sources) (set ss x.count (emptied s)) ss

-- the open table's block
abbrev pub block_in : Parts → Block
block_in p = record { offset = p.tables.start; length = position p.contents - p.tables.start; crc = p.tables.crc }

-- there are a last source and an open table
abbrev pub has_source_and_table : Tables → Bool
has_source_and_table x = leb 1 x.count && (leb x.count max_sources && leb x.table last_table)

-- a table that is ended has its block in the last source
abbrev pub sources_ended : Bool → List Source → Tables → Block → List Source
sources_ended done ss x b =
    pick (done && has_source_and_table x)
    (set ss (x.count - 1) (with_block (get_or ss (x.count - 1) past_end) x.table b))
    ss
