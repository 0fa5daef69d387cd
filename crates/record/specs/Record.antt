-- A source's record: 01, "Versions 1, 2, 3 have three records ..".
use Rattle.std.specs.Prelude.{List, ◌∷◌, ◌++◌, ℕ, ◌+◌, ◌*◌, ◌-◌, ltb, pos, take}
use Rattle.base.specs.Number.{pick}
use Rattle.leaf.specs.Bytes.{word, time, le32, le64, word_size}
use Rattle.base.specs.Lists.{many, puts, fill, byte}
use Rattle.record.specs.declared.Block.{Block}
use Rattle.record.specs.declared.Source.{Source}
use Rattle.base.specs.Table.{max_tables}

-- the versions that are read; the last is written
abbrev pub first_version : ℕ
first_version = 1

abbrev pub second_version : ℕ
second_version = 2

abbrev pub third_version : ℕ
third_version = 3

abbrev pub current_version : ℕ
current_version = third_version

-- the bytes of a record of each version
abbrev pub first_record_size : ℕ
first_record_size = 160

abbrev pub second_record_size : ℕ
second_record_size = 352

abbrev pub record_size : ℕ
record_size = 384

-- how many tables a record has before version 3
abbrev pub earlier_tables : ℕ
earlier_tables = 7

-- a source's two dates, as they are in its record and before its tables in the data
abbrev pub date_size : ℕ
date_size = word_size

abbrev pub dates_size : ℕ
dates_size = date_size + date_size

-- bytes of the fields that are "carried raw"; a validator is a length byte, a kind byte and 64 bytes
abbrev pub stamp_size : ℕ
stamp_size = 12

abbrev pub id_size : ℕ
id_size = 80

abbrev pub validator_size : ℕ
validator_size = 66

abbrev pub max_validator : ℕ
max_validator = 64

-- by version: the bytes of a record, and how many tables it has
abbrev pub source_size : ℕ → ℕ
source_size v = pick (ltb v second_version) first_record_size (pick (ltb v third_version) second_record_size record_size)

abbrev pub table_count : ℕ → ℕ
table_count v = pick (ltb v third_version) earlier_tables max_tables

-- a table's block: offset, length, CRC
abbrev pub block_size : ℕ
block_size = 12

abbrev pub block_length_offset : ℕ
block_length_offset = 4

abbrev pub block_crc_offset : ℕ
block_crc_offset = 8

-- the original words of a table: how many, and their bytes
abbrev pub table_words : ℕ
table_words = 2

abbrev pub original_size : ℕ
original_size = table_words * word_size

-- the bytes that a table adds to a record: its original words and its block
abbrev pub table_size : ℕ
table_size = original_size + block_size

-- offsets of the fields before the tables
abbrev pub end_offset : ℕ
end_offset = 4

abbrev pub present_offset : ℕ
present_offset = 8

abbrev pub updated_offset : ℕ
updated_offset = 12

-- where the tables begin
abbrev pub tables_offset : ℕ
tables_offset = 20

-- offsets of the fields after the tables, in a record with none; each table adds `table_size`
abbrev pub stamp_offset : ℕ
stamp_offset = tables_offset

abbrev pub idlen_offset : ℕ
idlen_offset = 32

abbrev pub id_offset : ℕ
id_offset = 33

abbrev pub validator_offset : ℕ
validator_offset = 113

-- the zeros at the end of a record of version 3
abbrev pub padding_size : ℕ
padding_size = 45

abbrev pub block_at : List ℕ → ℕ → Block
block_at l at = record { offset = word l at; length = word l (at + block_length_offset); crc = word l (at + block_crc_offset) }

-- the block of an absent table
abbrev pub no_block : Block
no_block = record { offset = 0; length = 0; crc = 0 }

-- all zeros: used where there is no source
unfoldable pub no_source : Source
no_source =
    record {
      start = 0;
      end = 0;
      present = 0;
      updated = pos 0;
      original = fill 0 (max_tables * table_words);
      tables = fill no_block max_tables;
      stamp = fill 0 stamp_size;
      idlen = 0;
      id = fill 0 id_size;
      validator = fill 0 validator_size;
    }

-- The record l with n tables. l is the record alone: version 1 ends before the stamp, and a byte past the end reads 0.
unfoldable pub source_of : ℕ → List ℕ → Source
source_of n l =
    record {
      start = word l 0;
      end = word l end_offset;
      present = word l present_offset;
      updated = time l updated_offset;
      original = many word word_size l tables_offset (n * table_words) ++ fill 0 (max_tables * table_words - n * table_words);
      tables = many block_at block_size l (n * original_size + tables_offset) n ++ fill no_block (max_tables - n);
      stamp = many byte 1 l (n * table_size + stamp_offset) stamp_size;
      idlen = byte l (n * table_size + idlen_offset);
      id = many byte 1 l (n * table_size + id_offset) id_size;
      validator = many byte 1 l (n * table_size + validator_offset) validator_size;
    }

-- the record of a version at the start of l
unfoldable pub decoded : ℕ → List ℕ → Source
decoded v l = source_of (table_count v) (take (source_size v) l)

-- a record as written: the fields before the tables, the tables, the fields after them, and zeros
unfoldable pub head_bytes : Source → List ℕ
head_bytes s = le32 s.start ++ (le32 s.end ++ (le32 s.present ++ le64 s.updated))

unfoldable pub block_bytes : Block → List ℕ
block_bytes b = le32 b.offset ++ (le32 b.length ++ le32 b.crc)

unfoldable pub table_bytes : Source → List ℕ
table_bytes s = puts le32 s.original ++ puts block_bytes s.tables

unfoldable pub tail_bytes : Source → List ℕ
tail_bytes s = s.stamp ++ (s.idlen ∷ (s.id ++ s.validator))

-- the record of version 3, 384 bytes
unfoldable pub source_bytes : Source → List ℕ
source_bytes s = head_bytes s ++ (table_bytes s ++ (tail_bytes s ++ fill 0 padding_size))
