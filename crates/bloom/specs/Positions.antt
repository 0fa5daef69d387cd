-- Positions as the code passes them.
use Rattle.std.specs.Prelude.{ℕ, ◌/◌, ◌<◌, List, [], ◌∷◌}
use Rattle.base.specs.Number.{byte_bits}

-- each position is in a filter of `bytes` bytes
abbrev pub Within : ℕ → List ℕ → Type 0
Within bytes [] = Unit
Within bytes (p ∷ ps) = (p / byte_bits < bytes) × Within bytes ps
