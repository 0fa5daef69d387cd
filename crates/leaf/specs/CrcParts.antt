-- What is proved of a CRC whose bytes are fed in parts.
use Rattle.std.specs.Prelude.{◌≡◌, ℕ, List, [], ◌∷◌, ◌++◌}
use Rattle.leaf.specs.Crc.{crc32}

-- four bytes whose CRC is 0: 9d 0a d9 6d
abbrev pub with_crc_zero : List ℕ
with_crc_zero = 0x9d ∷ 0x0a ∷ 0xd9 ∷ 0x6d ∷ []

-- CRC-32 fed in parts (02, E6): what `crc_parts_hold` promises (proofs/Checksum.antt)
pub record CrcParts : Type 0 where
  -- "empty parts too": feeding no bytes leaves a CRC unchanged, so an empty part before, between or after others changes nothing
  pub empty_before : (start : ℕ) (s : List ℕ) → crc32 (crc32 start []) s ≡ crc32 start s
  pub empty_between : (start : ℕ) (s t : List ℕ) → crc32 (crc32 (crc32 start s) []) t ≡ crc32 start (s ++ t)
  pub empty_after : (start : ℕ) (s : List ℕ) → crc32 (crc32 start s) [] ≡ crc32 start s
  -- "0 for none"; other bytes have the CRC 0 too, and what follows them has the CRC that it has after no bytes
  pub none : crc32 0 [] ≡ 0
  pub zero : crc32 0 with_crc_zero ≡ 0
  pub after_zero : (s : List ℕ) → crc32 0 (with_crc_zero ++ s) ≡ crc32 0 s
