-- Lists of bytes: one byte, n elements of one size, the bytes of elements joined, an element repeated.
use Rattle.std.specs.Prelude.{Bool, true, ◌&&◌, List, [], ◌∷◌, ◌++◌, ℕ, suc, zero, ◌+◌, get_or}

-- the byte at an offset, 0 past the end
abbrev pub byte : List ℕ → ℕ → ℕ
byte l at = get_or l at 0

-- n elements, each read by f, `step` bytes apart, the first at offset `at`
unfoldable pub many : {A : Type 0} → (List ℕ → ℕ → A) → ℕ → List ℕ → ℕ → ℕ → List A
many f step l at zero = []
many f step l at (suc n) = f l at ∷ many f step l (at + step) n

-- the bytes of every element, joined
unfoldable pub puts : {A : Type 0} → (A → List ℕ) → List A → List ℕ
puts g [] = []
puts g (x ∷ xs) = g x ++ puts g xs

-- n times d
unfoldable pub fill : {A : Type 0} → A → ℕ → List A
fill d zero = []
fill d (suc n) = d ∷ fill d n

-- the test p holds of every element
unfoldable pub each : {A : Type 0} → (A → Bool) → List A → Bool
each p [] = true
each p (x ∷ xs) = p x && each p xs
