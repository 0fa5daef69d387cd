-- Numbers that contracts name.
use Rattle.std.specs.Prelude.{ℕ}

-- the size of the list's buffer
abbrev pub list_size : ℕ
list_size = 524288
