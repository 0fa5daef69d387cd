-- The region: two banks, each a header sector and data.
use Rattle.std.specs.Prelude.{List, ℕ, ◌*◌, take, drop}

abbrev pub region_size : ℕ
region_size = 983040

abbrev pub bank_size : ℕ
bank_size = 491520

abbrev pub sector_size : ℕ
sector_size = 4096

-- the most data bytes of a bank
abbrev pub capacity : ℕ
capacity = 487424

-- a bank has sectors 0 to 119; sector 0 is the header's
abbrev pub last_sector : ℕ
last_sector = 119

-- banks 0 and 1
abbrev pub last_bank : ℕ
last_bank = 1

-- a byte of an erased sector
abbrev pub erased_byte : ℕ
erased_byte = 255

-- a write has a multiple of this many bytes
abbrev pub write_unit : ℕ
write_unit = 4

-- bank n of a region
unfoldable pub bank_of : List ℕ → ℕ → List ℕ
bank_of region n = take bank_size (drop (n * bank_size) region)

-- n data bytes of a bank
unfoldable pub data_of : List ℕ → ℕ → List ℕ
data_of bank n = take n (drop sector_size bank)
