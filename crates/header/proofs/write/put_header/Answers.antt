-- Numbers, records, CRC and blank word, written into zeros, are the header (`header-written`). The CRC is computed while both words are
-- still 0, as the definition has it.
use Rattle.header.proofs.write.put_header.Goals as goal
use mathlib.Core.Path.{◌∙◌}
use Rattle.header.proofs.Writing.{header-written}

pub returns : goal.returns
returns c =
    c.put-2.ensures
    ∙ rw (c.put.ensures, c.crc32-crc.ensures)
    (header-written c.args.b c.args.ss c.records-n.result c.put_records.new.out c.put_records.ensures.2 c.records-n.ensures c.put_records.ensures.1
    (c.put_records.ensures.0 ∙ rw (c.put_crc_to_checked.ensures, c.put_magic_to_length.ensures, c.requires.1)))
