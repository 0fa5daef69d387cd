-- The shift register that divides by the CRC's generator, one bit a step. leaf/proofs/Shift.antt proves that it computes
-- the remainder of IEEE 802.3.
use Rattle.std.specs.Prelude.{List, [], ◌∷◌, ℕ, zero, suc, ◌*◌, ◌/◌, ◌%◌}
use Rattle.std.specs.Int.Bits.{bit_xor}
use Rattle.base.specs.Number.{byte_values, byte_bits}

-- the generator without x^32, its highest term in the lowest bit
abbrev pub generator : ℕ
generator = 0xedb8_8320

-- one bit
unfoldable pub step : ℕ → ℕ
step r = bit_xor (r / 2) (r % 2 * generator)

unfoldable pub steps : ℕ → ℕ → ℕ
steps zero r = r
steps (suc n) r = steps n (step r)

-- the register after some bytes: each is added to its low bits, then eight steps are made
unfoldable pub run : ℕ → List ℕ → ℕ
run r [] = r
run r (b ∷ bs) = run (steps byte_bits (bit_xor r (b % byte_values))) bs
