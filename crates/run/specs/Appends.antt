-- Runs of lower calls: what is due is done, bytes are appended.
use Rattle.std.specs.Prelude.{List, [], ◌∷◌, ◌++◌, ℕ}
use Rattle.run.specs.Run.{Lower, bytes, due}

-- At most three operations are due in a row: the header sector's erase, a data sector's, the write. A due call with none due does nothing.
abbrev pub dues : List Lower
dues = due ∷ due ∷ due ∷ []

-- each byte, and after it what is due
unfoldable pub appends : List ℕ → List Lower
appends [] = []
appends (x ∷ xs) = bytes (x ∷ []) ∷ (dues ++ appends xs)
