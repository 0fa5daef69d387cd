-- Generations of banks: 32-bit numbers that wrap.
use Rattle.std.specs.Prelude.{ℕ, ◌+◌, Bool, pos, int_lt}
use Rattle.base.specs.Number.{word_bits, wrap32, wrapping_sub32, signed}

-- newer(a, b): a - b, wrapping, read as signed 32 bits, is above zero
unfoldable pub newer : ℕ → ℕ → Bool
newer a b = int_lt (pos 0) (signed word_bits (wrapping_sub32 a b))

-- the generation after g: 4294967295 is followed by 0
unfoldable pub next : ℕ → ℕ
next g = wrap32 (g + 1)
