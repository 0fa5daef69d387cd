-- A bank of a region: named by number, validated, loaded.
use Rattle.std.specs.Prelude.{Bool, List, ℕ, ◌-◌, leb, eqb, length, Ok, Err, Some, None, Result, Option}
use Rattle.base.specs.Number.{pick}
use Rattle.leaf.specs.Bytes.{word}
use Rattle.leaf.specs.Crc.{crc32}
use Rattle.leaf.specs.Generation.{newer}
use Rattle.refusal.specs.declared.Refusal.TheVariants.{Region, Argument, Data}
use Rattle.header.specs.declared.Bank.{Bank}
use Rattle.region.specs.Region.{region_size, last_bank, bank_of, data_of}
use Rattle.header.specs.Header.{generation_offset, header_of}
use Rattle.refusal.specs.declared.Refusal.{Refusal}

-- what a call that names a bank by number tests: 1, 2, then 3 to 6
unfoldable pub named : List ℕ → ℕ → Result Bank Refusal
named region n =
    pick (eqb (length region) region_size)
    (pick (leb n last_bank) (header_of n (bank_of region n)) (Err Argument))
    (Err Region)

-- a bank's data
abbrev pub data_in : List ℕ → Bank → List ℕ
data_in region b = data_of (bank_of region b.number) b.length

-- 7: the data CRC
unfoldable pub data_ok : List ℕ → Bank → Bool
data_ok region b = eqb (crc32 0 (data_in region b)) b.crc

abbrev pub then_data : List ℕ → Result Bank Refusal → Result Bank Refusal
then_data region (Ok b) = pick (data_ok region b) (Ok b) (Err Data)
then_data region (Err r) = Err r

-- 1, 2, then 3 to 7
unfoldable pub validated : List ℕ → ℕ → Result Bank Refusal
validated region n = then_data region (named region n)

-- the generation word, as it is, from bad banks too
unfoldable pub generation : List ℕ → ℕ → ℕ
generation region n = word (bank_of region n) generation_offset

-- bank 1 is tried first if its word is newer than bank 0's, otherwise bank 0
unfoldable pub first_tried : List ℕ → ℕ
first_tried region = pick (newer (generation region last_bank) (generation region 0)) last_bank 0

abbrev pub or_else : Result Bank Refusal → Result (Option Bank) Refusal → Result (Option Bank) Refusal
or_else (Ok b) other = Ok (Some b)
or_else (Err r) other = other

-- load: the first bank to pass is given; the only refusal is 1
unfoldable pub loaded : List ℕ → Result (Option Bank) Refusal
loaded region =
    pick (eqb (length region) region_size)
    (or_else (validated region (first_tried region)) (or_else (validated region (last_bank - first_tried region)) (Ok None)))
    (Err Region)
