-- Used by the private functions that `feed` calls; no public promise needs it.
use Rattle.std.specs.Prelude.{ℕ, ◌+◌, ◌-◌, ◌*◌, ◌^◌}
use Rattle.std.specs.Int.Bits.{bit_xor}
use Rattle.base.specs.Number.{word_values, long_bits}
use Rattle.checksum.specs.Register.{steps}

-- the values and the bits of a nibble
abbrev pub nibbles : ℕ
nibbles = 16

abbrev pub nibble_bits : ℕ
nibble_bits = 4

-- a 64-bit number has 10 digits of 7 bits, the lowest first
abbrev pub digit_bits : ℕ
digit_bits = 7

abbrev pub digit_values : ℕ
digit_values = 128

abbrev pub digits : ℕ
digits = 10

-- the table has a row for each digit, two rows in one
abbrev pub rows : ℕ
rows = 5

-- the steps of a digit: those of 64 that are left once the digits before it are shifted out
abbrev pub row_steps : ℕ → ℕ
row_steps j = long_bits - digit_bits * j

-- two entries of the table: of the digit d in a row, and in the row 5 after it
abbrev pub packed : ℕ → ℕ → ℕ
packed row d = steps (row_steps row) d * word_values + steps (row_steps (rows + row)) d

-- pending 64-bit words as one number, the first word lowest
abbrev pub two : ℕ → ℕ → ℕ
two a b = b * 2 ^ long_bits + a

abbrev pub three : ℕ → ℕ → ℕ → ℕ
three a b c = (c * 2 ^ long_bits + b) * 2 ^ long_bits + a

abbrev pub five : ℕ → ℕ → ℕ → ℕ → ℕ → ℕ
five a b c d e = (((e * 2 ^ long_bits + d) * 2 ^ long_bits + c) * 2 ^ long_bits + b) * 2 ^ long_bits + a

-- the register after a word of 64 bits, with what is added to it
abbrev pub after : ℕ → ℕ → ℕ
after word added = bit_xor (steps long_bits word) added
