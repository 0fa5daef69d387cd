-- Pending words as the code passes them, as one number.
use Rattle.std.specs.Prelude.{ℕ, List, get_or}
use Rattle.checksum.specs.Pending as Pending

abbrev pub two : List ℕ → ℕ
two w = Pending.two (get_or w 0 0) (get_or w 1 0)

abbrev pub three : List ℕ → ℕ
three w = Pending.three (get_or w 0 0) (get_or w 1 0) (get_or w 2 0)

abbrev pub five : List ℕ → ℕ
five w = Pending.five (get_or w 0 0) (get_or w 1 0) (get_or w 2 0) (get_or w 3 0) (get_or w 4 0)
