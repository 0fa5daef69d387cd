-- Bytes as one number, little-endian.
use Rattle.std.specs.Prelude.{List, [], ◌∷◌, ℕ, ◌+◌, ◌*◌, ◌%◌}
use Rattle.base.specs.Number.{byte_values}

-- the bytes of a 64-bit number
abbrev pub long_bytes : ℕ
long_bytes = 8

-- bytes as one little-endian number
unfoldable pub little : List ℕ → ℕ
little [] = 0
little (b ∷ bs) = little bs * byte_values + b % byte_values
