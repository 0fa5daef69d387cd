-- Polynomials over GF(2), and their division by the generator of IEEE 802.3.
-- A polynomial is the list of its coefficients, that of the highest power first.
use Rattle.std.specs.Prelude.{◌≡◌, ℕ, zero, suc, Bool, true, false, not, ◌||◌, List, [], ◌∷◌, ◌++◌, length, drop, replicate, ◌==◌}

-- the degree of the generator
abbrev pub degree : ℕ
degree = 32

-- n zero coefficients
abbrev pub zeros : ℕ → List Bool
zeros n = replicate n false

-- the sum of two coefficients, which is also their difference
unfoldable pub plus : Bool → Bool → Bool
plus true b = not b
plus false b = b

-- g added to the highest coefficients of p, which is also the difference
unfoldable pub add : List Bool → List Bool → List Bool
add [] g = []
add (a ∷ p) [] = a ∷ p
add (a ∷ p) (b ∷ g) = plus a b ∷ add p g

-- G(x) = x^32 + x^26 + x^23 + x^22 + x^16 + x^12 + x^11 + x^10 + x^8 + x^7 + x^5 + x^4 + x^2 + x + 1: its powers
unfoldable pub powers : List ℕ
powers = 32 ∷ 26 ∷ 23 ∷ 22 ∷ 16 ∷ 12 ∷ 11 ∷ 10 ∷ 8 ∷ 7 ∷ 5 ∷ 4 ∷ 2 ∷ 1 ∷ 0 ∷ []

unfoldable pub has : List ℕ → ℕ → Bool
has [] k = false
has (e ∷ es) k = e == k || has es k

-- G's coefficients of the powers below n
unfoldable pub coefficients : ℕ → List Bool
coefficients zero = []
coefficients (suc n) = has powers n ∷ coefficients n

unfoldable pub generator : List Bool
generator = coefficients (suc degree)

-- a coefficient times G
unfoldable pub times : Bool → List Bool
times true = generator
times false = []

-- one step of the long division: subtracting the leading coefficient times G cancels that coefficient
unfoldable pub turn : Bool → List Bool → List Bool
turn a p = drop 1 (add (a ∷ p) (times a))

-- what is left of p, of n + 32 coefficients, after n steps
unfoldable pub remainder : ℕ → List Bool → List Bool
remainder zero p = p
remainder (suc n) [] = []
remainder (suc n) (a ∷ p) = remainder n (turn a p)

-- the leading coefficient of each step
unfoldable pub quotient : ℕ → List Bool → List Bool
quotient zero p = []
quotient (suc n) [] = []
quotient (suc n) (a ∷ p) = a ∷ quotient n (turn a p)

-- the product of q and G: 32 coefficients more than q
unfoldable pub product : List Bool → List Bool
product [] = zeros degree
product (a ∷ q) = add (false ∷ product q) (times a)

-- p divided by G gives q and leaves r: p = q G + r, and r, of 32 coefficients, is of lower degree than G
pub record Division (p q r : List Bool) : Type 0 where
  pub equal : add (product q) (zeros (length q) ++ r) ≡ p
  pub lower : length r ≡ degree
