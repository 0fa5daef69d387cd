-- The buffers of the upper layer's code; no definition of a call uses them.
use Rattle.std.specs.Prelude.{ℕ}

-- the capacity of the buffer for a names line
abbrev pub names_size : ℕ
names_size = 128

-- the longest key without an identity
abbrev pub max_body : ℕ
max_body = 2257
