-- Numbers of 32 and 64 bits: wrapped, read as signed, rotated.
use Rattle.std.specs.Prelude.{ℕ, suc, ◌+◌, ◌-◌, ◌*◌, ◌/◌, ◌%◌, ◌^◌, Bool, true, false, ltb, ℤ, pos, negsuc}

-- a where the test holds, else b
abbrev pub pick : {A : Type 0} → Bool → A → A → A
pick true a b = a
pick false a b = b

-- the bits of a byte, of a word and of a long number
abbrev pub byte_bits : ℕ
byte_bits = 8

abbrev pub word_bits : ℕ
word_bits = 32

abbrev pub long_bits : ℕ
long_bits = 64

-- how many values a byte has, and a word
abbrev pub byte_values : ℕ
byte_values = 256

abbrev pub word_values : ℕ
word_values = 2 ^ word_bits

-- by how many bits the core rotates
abbrev pub rotation : ℕ
rotation = 13

-- the largest signed 64-bit number; `negsuc` of it is the lowest
abbrev pub max_signed : ℕ
max_signed = 9223372036854775807

-- the largest unsigned one
abbrev pub max_unsigned : ℕ
max_unsigned = 18446744073709551615

-- the low 32 bits of a number
abbrev pub wrap32 : ℕ → ℕ
wrap32 n = n % word_values

-- a - b, wrapping
abbrev pub wrapping_sub32 : ℕ → ℕ → ℕ
wrapping_sub32 a b = wrap32 (a + word_values - b)

-- x, of n bits, read as signed in two's complement: below 2^(n - 1) it is x, from there on x - 2^n. `negsuc k` is -(k + 1).
abbrev pub signed : ℕ → ℕ → ℤ
signed n x = pick (ltb x (2 ^ (n - 1))) (pos x) (negsuc (2 ^ n - suc x))

-- the n bits of a signed number, the inverse of `signed`
abbrev pub unsigned : ℕ → ℤ → ℕ
unsigned n (pos x) = x
unsigned n (negsuc k) = 2 ^ n - suc k

-- 32 bits rotated left by n
abbrev pub rotate_left32 : ℕ → ℕ → ℕ
rotate_left32 n x = wrap32 (x * 2 ^ n) + x / 2 ^ (word_bits - n)
