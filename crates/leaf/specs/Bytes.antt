-- Numbers in a list of bytes, little-endian. A byte past the end reads 0.
use Rattle.std.specs.Prelude.{ℕ, ◌+◌, ◌*◌, ◌/◌, ◌%◌, ◌^◌, List, [], ◌∷◌, ◌++◌, length, take, drop, ℤ, nat_le}
use Rattle.base.specs.Number.{pick, byte_values, word_values, long_bits, signed, unsigned}
use Rattle.base.specs.Lists.{byte}

-- the bytes of a 32-bit number, and of a 64-bit one
abbrev pub word_size : ℕ
word_size = 4

abbrev pub time_size : ℕ
time_size = 8

-- what each byte of a 32-bit number but the first counts
abbrev pub second_byte : ℕ
second_byte = byte_values

abbrev pub third_byte : ℕ
third_byte = 2 ^ 16

abbrev pub fourth_byte : ℕ
fourth_byte = 2 ^ 24

-- the 32-bit number at an offset
unfoldable pub word : List ℕ → ℕ → ℕ
word l at = byte l at + byte l (at + 1) * second_byte + byte l (at + 2) * third_byte + byte l (at + 3) * fourth_byte

-- the signed 64-bit number at an offset
unfoldable pub time : List ℕ → ℕ → ℤ
time l at = signed long_bits (word l at + word l (at + word_size) * word_values)

-- the four bytes of a 32-bit number
unfoldable pub le32 : ℕ → List ℕ
le32 n = n % byte_values ∷ n / second_byte % byte_values ∷ n / third_byte % byte_values ∷ n / fourth_byte % byte_values ∷ []

-- the eight bytes of a signed 64-bit number
unfoldable pub le64 : ℤ → List ℕ
le64 z = le32 (unsigned long_bits z % word_values) ++ le32 (unsigned long_bits z / word_values)

-- a list with the bytes at an offset overwritten, all others unchanged; if they don't fit, nothing changes
unfoldable pub written : List ℕ → ℕ → List ℕ → List ℕ
written l at bytes = pick (nat_le (at + length bytes) (length l)) (take at l ++ bytes ++ drop (at + length bytes) l) l
