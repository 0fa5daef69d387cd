-- The header as commit writes it, and the tests of refusal 13.
use Rattle.std.specs.Prelude.{Bool, true, false, ◌&&◌, List, ◌++◌, ℕ, ◌*◌, ◌-◌, leb, length, Ok, Err, Result}
use Rattle.leaf.specs.Bytes.{le32, le64, word_size}
use Rattle.leaf.specs.Crc.{crc32}
use Rattle.record.specs.declared.Source.{Source}
use Rattle.record.specs.Record.{record_size, id_size, max_validator, source_bytes}
use Rattle.base.specs.Lists.{puts, fill, each, byte}
use Rattle.header.specs.declared.Bank.{Bank}
use Rattle.region.specs.Region.{erased_byte}
use Rattle.header.specs.Header.{max_sources, records_offset, crc_offset, magic, commit_word, judge}
use Rattle.refusal.specs.declared.Refusal.{Refusal}

-- bytes 0 to 15: "TTFC", version, generation, data length
unfoldable pub magic_to_length : Bank → List ℕ
magic_to_length b = le32 magic ++ (le32 b.version ++ (le32 b.generation ++ le32 b.length))

-- bytes 16 to 39: data CRC, source count, key length, zero at 28 to 31, checked time
unfoldable pub crc_to_checked : Bank → List ℕ
crc_to_checked b = le32 b.crc ++ (le32 b.count ++ (le32 b.key ++ (le32 0 ++ le64 b.checked)))

abbrev pub number_bytes : Bank → List ℕ
number_bytes b = magic_to_length b ++ crc_to_checked b

-- three records of version 3, those past the sources zeros
unfoldable pub record_bytes : List Source → List ℕ
record_bytes ss = puts source_bytes ss ++ fill 0 ((max_sources - length ss) * record_size)

-- the header CRC: over 48 bytes and all three records, bytes 40 to 47 as zero
unfoldable pub crc_of : Bank → List Source → ℕ
crc_of b ss = crc32 0 (number_bytes b ++ (fill 0 (records_offset - crc_offset) ++ record_bytes ss))

-- the header, with `word` as its commit word
unfoldable pub header_bytes : Bank → List Source → List ℕ → List ℕ
header_bytes b ss word = number_bytes b ++ (le32 (crc_of b ss) ++ (word ++ record_bytes ss))

-- commit's first write has 255 in the commit word, its second is the word
unfoldable pub blank_word : List ℕ
blank_word = fill erased_byte word_size

unfoldable pub commit_bytes : List ℕ
commit_bytes = le32 commit_word

-- 13: what would meet 5 or 6, an id length over 80, or a validator length over 64
abbrev pub passes : Result Bank Refusal → Bool
passes (Ok b) = true
passes (Err r) = false

abbrev pub text_ok : Source → Bool
text_ok s = leb s.idlen id_size && leb (byte s.validator 0) max_validator

unfoldable pub is_fit : Bank → List Source → Bool
is_fit b ss = passes (judge b ss) && each text_ok ss
