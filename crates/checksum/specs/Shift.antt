-- Used by the private functions that `feed_both` calls; no public promise needs it.
use Rattle.std.specs.Prelude.{List, ℕ, ◌+◌, ◌*◌, ◌<◌, ◌≡◌, get_or}
use Rattle.checksum.specs.Register.{steps}
use Rattle.checksum.specs.Pending.{nibbles, nibble_bits}

-- how many steps 256 bytes are, and the first row of the table makes
abbrev pub shift_steps : ℕ
shift_steps = 2048

abbrev pub first_steps : ℕ
first_steps = 2020

-- how many rows the table has
abbrev pub table_rows : ℕ
table_rows = 8

-- the table: entry 16 j + n is the nibble n after 2020 + 4 j steps
pub record Shifts (t : List ℕ) : Type 0 where
  pub entry : (j n : ℕ) → j < table_rows → n < nibbles → get_or t (nibbles * j + n) 0 ≡ steps (first_steps + nibble_bits * j) n
