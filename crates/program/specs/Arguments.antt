-- The size of the buffer for an argument: Linux passes no longer one.
use Rattle.std.specs.Prelude.{ℕ}

abbrev pub argument_size : ℕ
argument_size = 131072
