-- CRC-32: the frame check sequence of IEEE 802.3, clause 3.2.9, in the standard's terms.
use Rattle.std.specs.Prelude.{ℕ, zero, suc, ◌+◌, ◌*◌, ◌/◌, ◌%◌, Bool, true, false, not, List, [], ◌∷◌, ◌++◌, map, length, ◌==◌}
use Rattle.base.specs.Number.{byte_bits}
use Rattle.leaf.specs.Polynomial.{degree, zeros, add, remainder}

-- the n low bits of x, the least significant first
unfoldable pub bits : ℕ → ℕ → List Bool
bits zero x = []
bits (suc n) x = (x % 2 == 1) ∷ bits n (x / 2)

-- the frame's bits in the order of sending, each byte's least significant first: the coefficients of M(x)
unfoldable pub frame : List ℕ → List Bool
frame [] = []
frame (b ∷ bs) = bits byte_bits b ++ frame bs

-- the number whose bits these are: the first sent, R(x)'s highest coefficient, is the least significant
unfoldable pub number : List Bool → ℕ
number [] = 0
number (true ∷ bs) = number bs * 2 + 1
number (false ∷ bs) = number bs * 2

-- the first n bits complemented
unfoldable pub complement_first : ℕ → List Bool → List Bool
complement_first zero p = p
complement_first (suc n) [] = []
complement_first (suc n) (a ∷ p) = not a ∷ complement_first n p

-- M(x) x^32
unfoldable pub shifted : List ℕ → List Bool
shifted bytes = frame bytes ++ zeros degree

-- p is the frame's M(x) x^32 with its first bits changed; the complement of its remainder on division by G(x) is the CRC
unfoldable pub complemented_remainder : List ℕ → List Bool → ℕ
complemented_remainder bytes p = number (map not (remainder (length (frame bytes)) p))

-- the CRC of a frame: the first 32 bits of M(x) x^32 are complemented
unfoldable pub fcs : List ℕ → ℕ
fcs bytes = complemented_remainder bytes (complement_first degree (shifted bytes))

-- The CRC of bytes that follow others, whose CRC is `start`: the remainder of those, which is the complement of `start`, is added
-- to the first 32 bits. `start` is 0 if there are none: its complement is 32 ones, and adding these complements the bits.
unfoldable pub crc32 : ℕ → List ℕ → ℕ
crc32 start bytes = complemented_remainder bytes (add (shifted bytes) (map not (bits degree start)))
