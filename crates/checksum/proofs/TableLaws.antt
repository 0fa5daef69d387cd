-- The table's laws. A number is digits of 7 bits; the steps of each, once the digits before it are shifted out, add up to the steps of the
-- number, since the register is linear. A single byte is read by two nibbles in the same way.
use mathlib.Core.Path.{◌≡◌, refl, sym, ap, ap₂, subst, ◌∙◌}
use mathlib.Core.Bool.{Bool, true, false}
use mathlib.Core.List.{List, [], ◌∷◌}
use Prim.Native.Nat.{ℕ, zero, suc, ◌+◌, ◌-◌, ◌*◌, ◌/◌, ◌%◌, ◌^◌, ◌<◌, ◌≤◌}
use native.Mathlib.Nat.{mod-eq_of_lt, div-eq_of_lt, le_of_suc-le-suc, not-suc-le-zero, lt_of_lt_of_le}
use native.Mathlib.Omega.{arith}
use borrow.Author.Tests.{leb-false}
use lib.Dec.{T, eqb, eqb→eq, leb, leb→le}
use lib.Pow.{pow_mono, shr-shr, high, low}
use lib.Bits.{bit_xor, xor_zero_r}
use lib.ListN.{length, get_or}
use Rattle.checksum.specs.Register.{steps}
use Rattle.checksum.specs.Pending.{packed}
use Rattle.checksum.proofs.Steps.{steps-split, steps-lt}

abbrev pub both : Bool → Bool → Bool
both true b = b
both false b = false

unfoldable pub follows : List ℕ → List ℕ → Bool
follows p [] = true
follows [] (x ∷ t) = false
follows (a ∷ p) (x ∷ t) = both (eqb x (steps 4 a)) (follows p t)

both_left : (a b : Bool) → T (both a b) → T a
both_left true b t = tt
both_left false b t = t

both_right : (a b : Bool) → T (both a b) → T b
both_right true b t = t
both_right false b t = absurd t

pub followed : (p t : List ℕ) → T (follows p t) → (k : ℕ) → k < length t → get_or t k 0 ≡ steps 4 (get_or p k 0)
unfolding follows
followed p [] h k l = absurd (not-suc-le-zero l)
followed [] (x ∷ t) h k l = absurd h
followed (a ∷ p) (x ∷ t) h zero l = eqb→eq x (steps 4 a) (both_left (eqb x (steps 4 a)) (follows p t) h)
followed (a ∷ p) (x ∷ t) h (suc k) l = followed p t (both_right (eqb x (steps 4 a)) (follows p t) h) k (le_of_suc-le-suc l)

-- ---- a digit of 7 bits

-- the lowest digit, and the others, of a number of m bits; the highest digit may have fewer bits
pub digit_split : (m y : ℕ) → y < 2 ^ m → bit_xor (steps m (y % 128)) (steps (m - 7) (y / 128)) ≡ steps m y
unfolding steps
digit_split m y h = cases (leb 7 m) refl
  where
    cases : (b : Bool) → leb 7 m ≡ b → bit_xor (steps m (y % 128)) (steps (m - 7) (y / 128)) ≡ steps m y
    cases true e =
        let l : 7 ≤ m = leb→le 7 m (subst T (sym e) tt) in
        let k : 7 + (m - 7) ≡ m = omega arith in
        ap (λ (i : ℕ). bit_xor (steps i (y % 128)) (steps (m - 7) (y / 128))) (sym k)
        ∙ sym (steps-split 7 (m - 7) y)
        ∙ ap (λ (i : ℕ). steps i y) k
    cases false e =
        let l : m < 7 = leb-false 7 m e in
        let z : m - 7 ≡ 0 = omega arith in
        let s : y < 128 = lt_of_lt_of_le h (pow_mono {i = m} {j = 7} (omega arith)) in
        ap₂ (λ (i d : ℕ). bit_xor (steps m i) d) (mod-eq_of_lt s) (ap₂ steps z (div-eq_of_lt s))
        ∙ xor_zero_r (steps m y)

-- two entries of the table, taken apart
entry_lt : (n d : ℕ) → d < 128 → steps n d < 2 ^ 32
entry_lt n d h = steps-lt n d (omega arith)

pub first_entry : (row d : ℕ) → row < 5 → d < 128 → packed (row % 5) d / 2 ^ 32 ≡ steps (64 - 7 * row) d
first_entry row d h l =
    high (steps (64 - 7 * (row % 5)) d) 32 (entry_lt (64 - 7 * (5 + row % 5)) d l)
    ∙ ap (λ (i : ℕ). steps (64 - 7 * i) d) (mod-eq_of_lt h)

pub second-entry : (row d : ℕ) → 5 ≤ row → row < 10 → d < 128 → packed (row % 5) d % 2 ^ 32 ≡ steps (64 - 7 * row) d
second-entry row d h g l =
    let r : 5 + row % 5 ≡ row = omega arith in
    low (steps (64 - 7 * (row % 5)) d) 32 (entry_lt (64 - 7 * (5 + row % 5)) d l)
    ∙ ap (λ (i : ℕ). steps (64 - 7 * i) d) r

-- ---- a byte, by nibbles

pub byte-steps : (crc b : ℕ) → b < 256
    → bit_xor (steps 8 (bit_xor crc b % 16)) (bit_xor (steps 4 (bit_xor crc b / 2 ^ 4 % 16)) (bit_xor crc b / 2 ^ 8)) ≡ steps 8 (bit_xor crc (b % 256))
unfolding steps
byte-steps crc b h =
    sym
    (ap (λ (y : ℕ). steps 8 (bit_xor crc y)) (mod-eq_of_lt h)
    ∙ steps-split 4 4 (bit_xor crc b)
    ∙ ap (bit_xor (steps 8 (bit_xor crc b % 16)))
    (steps-split 4 0 (bit_xor crc b / 2 ^ 4) ∙ ap (bit_xor (steps 4 (bit_xor crc b / 2 ^ 4 % 16))) (shr-shr (bit_xor crc b) 4 4)))
