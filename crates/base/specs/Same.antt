-- Two lists of bytes compared.
use Rattle.std.specs.Prelude.{Bool, true, false, ◌≡◌, List, [], ◌∷◌, ℕ, eqb}
use Rattle.base.specs.Number.{pick}

-- equal length and equal bytes: 01, "has its length and its bytes"
unfoldable pub same : List ℕ → List ℕ → Bool
same [] [] = true
same [] (b ∷ t) = false
same (a ∷ s) [] = false
same (a ∷ s) (b ∷ t) = pick (eqb a b) (same s t) false

-- `same` holds exactly of equal lists (proofs/Same.antt: same-is-equal)
abbrev pub SameIsEqual : Type 0
SameIsEqual = (s t : List ℕ) → (same s t ≡ true → s ≡ t) × (s ≡ t → same s t ≡ true)
