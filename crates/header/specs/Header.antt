-- A bank's header, and its tests: refusals 3 to 6.
use Rattle.std.specs.Prelude.{Bool, false, ◌&&◌, ◌||◌, List, [], ◌∷◌, ◌++◌, ℕ, ◌+◌, ◌-◌, ◌*◌, leb, eqb, ℤ, pos, negsuc, take, drop, Ok, Err, Result}
use Rattle.std.specs.Int.Signed.{le_z}
use Rattle.base.specs.Number.{pick, max_signed}
use Rattle.leaf.specs.Bytes.{word, time}
use Rattle.leaf.specs.Crc.{crc32}
use Rattle.leaf.specs.Date.{valid_date}
use Rattle.refusal.specs.declared.Refusal.TheVariants.{Mark, Seal, Span, Source as BadSource}
use Rattle.record.specs.declared.Block.{Block}
use Rattle.record.specs.declared.Source.{Source}
use Rattle.record.specs.Record.{first_version, current_version, record_size, source_size, decoded}
use Rattle.base.specs.Lists.{many, fill, each}
use Rattle.header.specs.declared.Bank.{Bank}
use Rattle.region.specs.Region.{capacity}
use Rattle.refusal.specs.declared.Refusal.{Refusal}

-- offsets of the header's numbers; bytes 28 to 31 are zero
abbrev pub magic_offset : ℕ
magic_offset = 0

abbrev pub version_offset : ℕ
version_offset = 4

abbrev pub generation_offset : ℕ
generation_offset = 8

abbrev pub length_offset : ℕ
length_offset = 12

abbrev pub data_crc_offset : ℕ
data_crc_offset = 16

abbrev pub count_offset : ℕ
count_offset = 20

abbrev pub key_offset : ℕ
key_offset = 24

abbrev pub checked_offset : ℕ
checked_offset = 32

-- the header's numbers, of bank n
unfoldable pub numbers_of : ℕ → List ℕ → Bank
numbers_of n l =
    record {
      number = n;
      version = word l version_offset;
      generation = word l generation_offset;
      length = word l length_offset;
      crc = word l data_crc_offset;
      count = word l count_offset;
      key = word l key_offset;
      checked = time l checked_offset;
    }

-- a header has three records, from byte 48 on; the header CRC and the commit word are just before them
abbrev pub max_sources : ℕ
max_sources = 3

abbrev pub crc_offset : ℕ
crc_offset = 40

abbrev pub commit_offset : ℕ
commit_offset = 44

abbrev pub records_offset : ℕ
records_offset = 48

abbrev pub header_size : ℕ
header_size = records_offset + max_sources * record_size

-- the record of a version at an offset, and the first n records
unfoldable pub record_at : ℕ → List ℕ → ℕ → Source
record_at v l at = decoded v (drop at l)

abbrev pub records_of : ℕ → List ℕ → ℕ → List Source
records_of v l n = many (record_at v) (source_size v) l records_offset n

-- 3: "TTFC", a version from 1 to 3, and the commit word
abbrev pub magic : ℕ
magic = word (84 ∷ 84 ∷ 70 ∷ 67 ∷ []) 0

abbrev pub commit_word : ℕ
commit_word = 1129270612

unfoldable pub marked : List ℕ → Bool
marked l = eqb (word l magic_offset) magic && (leb first_version (word l version_offset) && (leb (word l version_offset) current_version && eqb (word l commit_offset) commit_word))

-- 4: the CRC over 48 bytes and all three records, bytes 40 to 47 as zero
unfoldable pub header_crc : List ℕ → ℕ → ℕ
header_crc l size = crc32 0 (take crc_offset l ++ (fill 0 (records_offset - crc_offset) ++ take (size * max_sources) (drop records_offset l)))

-- how many bytes the header CRC and the commit word have, 40 to 47
abbrev pub seal_size : ℕ
seal_size = records_offset - crc_offset

-- the header CRC of parts (02, E6), "over 48 bytes and all three records, bytes 40 to 47 as zero" (01): `front` is the bytes before those,
-- `records` the bytes after them
unfoldable pub seal_of : List ℕ → List ℕ → ℕ
seal_of front records = crc32 0 (front ++ (fill 0 seal_size ++ records))

unfoldable pub sealed : List ℕ → Bool
sealed l = eqb (word l crc_offset) (header_crc l (source_size (word l version_offset)))

-- 5: lengths, count and checked time
abbrev pub length_ok : Bank → Bool
length_ok b = leb 1 b.length && leb b.length capacity

abbrev pub key_ok : Bank → Bool
key_ok b = leb 1 b.key && leb b.key b.length

abbrev pub count_ok : Bank → Bool
count_ok b = leb 1 b.count && leb b.count max_sources

unfoldable pub span_ok : Bank → Bool
span_ok b = length_ok b && (key_ok b && (count_ok b && le_z (pos 0) b.checked))

-- a bit for each table
abbrev pub max_present : ℕ
max_present = 255

-- 6: dates, present bits, updated time and blocks of a source
abbrev pub dates_ok : Source → Bool
dates_ok s = valid_date s.start && (valid_date s.end && leb s.start s.end)

-- the lowest signed value, -2^63, means unknown
abbrev pub is_unknown : ℤ → Bool
is_unknown (pos n) = false
is_unknown (negsuc n) = eqb n max_signed

abbrev pub updated_ok : ℤ → ℤ → Bool
updated_ok checked u = is_unknown u || (le_z (pos 0) u && le_z u checked)

-- an empty block passes; another starts at or past the key's end and ends within the data
abbrev pub block_ok : Bank → Block → Bool
block_ok b t = eqb t.length 0 || (leb b.key t.offset && leb (t.offset + t.length) b.length)

unfoldable pub source_ok : Bank → Source → Bool
source_ok b s = dates_ok s && (leb s.present max_present && (updated_ok b.checked s.updated && each (block_ok b) s.tables))

-- 5 and 6, on a bank's numbers and its records below the count
unfoldable pub judge : Bank → List Source → Result Bank Refusal
judge b ss = pick (span_ok b) (pick (each (source_ok b) ss) (Ok b) (Err BadSource)) (Err Span)

-- 3 to 6: the tests of a bank that don't read its data
unfoldable pub header_of : ℕ → List ℕ → Result Bank Refusal
header_of n l =
    pick (marked l)
    (pick (sealed l) (judge (numbers_of n l) (records_of (word l version_offset) l (word l count_offset))) (Err Seal))
    (Err Mark)
