-- The long division and the shift register compute the same: a turn of the division, its coefficients read as a number, is a step of the
-- register. So `crc32` is a run started from the complement, complemented at the end.
use Rattle.std.proofs.Common.{◌≡◌, ℕ, zero, suc, ◌+◌, ◌-◌, ◌*◌, ◌/◌, ◌%◌, ◌^◌, ◌<◌, ◌≤◌, Bool, true, false, not, eqb, List, [], ◌∷◌, ◌++◌, map, length, sym, refl, ap, ◌∙◌, ap₂, le_of_suc-le-suc, not-suc-le-zero, add-zero, mod-lt, zero-lt-suc, mul_assoc, add_comm, pow-suc, zero-add, zero-mul, mul-one, mul-suc, arith, length-append, pow_pos}
use native.Mathlib.Nat.{mod-one}
use lib.Arith.{digits_div, digits_mod, mod-mul}
use lib.Bits.{bit_xor, xor_comm, xor_zero_r, xor_block}
use lib.ListN.{length-map}
use Rattle.base.specs.Little.{little}
use Rattle.checksum.specs.Register.{step, steps, run}
use Rattle.checksum.proofs.Xor.{digit-ind}
use Rattle.checksum.proofs.Steps.{run-steps}
use Rattle.leaf.specs.Polynomial.{zeros, plus, add, powers, has, coefficients, turn, remainder}
use Rattle.leaf.specs.Crc.{bits, frame, number, shifted, complemented_remainder, crc32}
use Rattle.leaf.proofs.Remainder.{tail, turn-tail, length-add, length-turn, length-remainder}

two_pos : 0 < 2
two_pos = zero-lt-suc 1

-- ---- bits and numbers

digit : Bool → ℕ
digit true = 1
digit false = 0

digit_lt : (b : Bool) → digit b < 2
unfolding digit
digit_lt true = omega arith
digit_lt false = omega arith

number-cons : (b : Bool) (bs : List Bool) → number (b ∷ bs) ≡ number bs * 2 + digit b
unfolding number digit
number-cons true bs = refl
number-cons false bs = sym (add-zero (number bs * 2))

plus-digit : (a b : Bool) → digit (plus a b) ≡ bit_xor (digit a) (digit b)
unfolding digit plus
plus-digit true true = refl
plus-digit true false = refl
plus-digit false b = refl

number-add : (p g : List Bool) → length g ≤ length p → number (add p g) ≡ bit_xor (number p) (number g)
unfolding number add
number-add [] [] h = refl
number-add [] (b ∷ g) h = absurd (not-suc-le-zero h)
number-add (a ∷ p) [] h = sym (xor_zero_r (number (a ∷ p)))
number-add (a ∷ p) (b ∷ g) h =
    number-cons (plus a b) (add p g)
    ∙ ap₂ (λ (x y : ℕ). x * 2 + y) (number-add p g (le_of_suc-le-suc h)) (plus-digit a b)
    ∙ sym (xor_block 1 (number p) (number g) (digit a) (digit b) (digit_lt a) (digit_lt b))
    ∙ ap₂ bit_xor (sym (number-cons a p)) (sym (number-cons b g))

digit-odd : (x : ℕ) → x < 2 → digit (eqb x 1) ≡ x
unfolding digit
digit-odd = digit-ind (λ x. digit (eqb x 1) ≡ x) refl refl

number-bits : (n x : ℕ) → number (bits n x) ≡ x % 2 ^ n
unfolding number bits
number-bits zero x = sym (mod-one x)
number-bits (suc n) x =
    number-cons (eqb (x % 2) 1) (bits n (x / 2))
    ∙ ap₂ (λ (y z : ℕ). y * 2 + z) (number-bits n (x / 2)) (digit-odd (x % 2) (mod-lt x two_pos))
    ∙ sym (ap (λ (y : ℕ). x % y) (pow-suc 2 n) ∙ mod-mul x (pow_pos n) two_pos)

length-bits : (n x : ℕ) → length (bits n x) ≡ n
unfolding bits
length-bits zero x = refl
length-bits (suc n) x = ap suc (length-bits n (x / 2))

number_append : (p q : List Bool) → number (p ++ q) ≡ number q * 2 ^ length p + number p
unfolding number
number_append [] q = sym (add-zero (number q * 1) ∙ mul-one (number q))
number_append (a ∷ p) q =
    let e : number q * 2 ^ suc (length p) ≡ number q * 2 ^ length p * 2 = ap (λ (x : ℕ). number q * x) (pow-suc 2 (length p)) ∙ sym (mul_assoc (number q) (2 ^ length p) 2) in
    let i : number (p ++ q) ≡ number q * 2 ^ length p + number p = number_append p q in
    omega (arith, number-cons a (p ++ q), number-cons a p)

number-frame : (s : List ℕ) → number (frame s) ≡ little s
unfolding frame number little
number-frame [] = refl
number-frame (b ∷ s) =
    number_append (bits 8 b) (frame s)
    ∙ ap₂ (λ (x y : ℕ). x * 2 ^ length (bits 8 b) + y) (number-frame s) (number-bits 8 b)
    ∙ ap (λ (k : ℕ). little s * 2 ^ k + b % 256) (length-bits 8 b)

pub length-frame : (s : List ℕ) → length (frame s) ≡ 8 * length s
unfolding frame
length-frame [] = refl
length-frame (b ∷ s) =
    length-append (bits 8 b) (frame s) ∙ ap₂ (λ (x y : ℕ). x + y) (length-bits 8 b) (length-frame s) ∙ add_comm 8 (8 * length s) ∙ sym (mul-suc 8 (length s))

number-zeros : (n : ℕ) → number (zeros n) ≡ 0
unfolding number
number-zeros zero = refl
number-zeros (suc n) = ap (λ (x : ℕ). x * 2) (number-zeros n)

not_digit : (a : Bool) → digit (not a) + digit a ≡ 1
unfolding digit
not_digit true = refl
not_digit false = refl

number-both : (p : List Bool) → number (map not p) + number p + 1 ≡ 2 ^ length p
unfolding number
number-both [] = refl
number-both (a ∷ p) =
    let i : number (map not p) + number p + 1 ≡ 2 ^ length p = number-both p in
    let d : digit (not a) + digit a ≡ 1 = not_digit a in
    let e : 2 ^ suc (length p) ≡ 2 ^ length p * 2 = pow-suc 2 (length p) in
    omega (arith, number-cons (not a) (map not p), number-cons a p)

number-not : (p : List Bool) (n : ℕ) → length p ≡ n → number (map not p) ≡ (2 ^ n - 1) - number p
number-not p n h =
    let e : 2 ^ length p ≡ 2 ^ n = ap (λ (k : ℕ). 2 ^ k) h in
    let b : number (map not p) + number p + 1 ≡ 2 ^ length p = number-both p in
    omega arith

-- ---- a turn is a step

number-tail : (a : Bool) → number (tail a) ≡ digit a * 0xedb8_8320
unfolding number digit coefficients has powers
number-tail true = refl
number-tail false = refl

tail-short : (a : Bool) (p : List Bool) → 32 ≤ length p → length (tail a) ≤ length p
unfolding coefficients
tail-short true p h = h
tail-short false p h = omega arith

turn_step : (a : Bool) (p : List Bool) → 32 ≤ length p → number (turn a p) ≡ step (number (a ∷ p))
unfolding step
turn_step a p h =
    ap number (turn-tail a p) ∙ number-add p (tail a) (tail-short a p h) ∙ ap (bit_xor (number p)) (number-tail a)
    ∙ sym
    (ap (λ (x : ℕ). bit_xor (x / 2) (x % 2 * 0xedb8_8320)) (number-cons a p)
    ∙ ap₂ (λ (x y : ℕ). bit_xor x (y * 0xedb8_8320)) (digits_div (number p) (digit_lt a)) (digits_mod (number p) (digit_lt a)))

number-remainder : (n : ℕ) (p : List Bool) → length p ≡ n + 32 → number (remainder n p) ≡ steps n (number p)
unfolding remainder steps
number-remainder zero p h = refl
number-remainder (suc n) [] h = absurd (omega arith)
number-remainder (suc n) (a ∷ p) h =
    number-remainder n (turn a p) (length-turn a p ∙ (omega arith)) ∙ ap (steps n) (turn_step a p (omega arith))

-- ---- the whole

module _ (start : ℕ) (s : List ℕ) where
  flips : List Bool
  flips = map not (bits 32 start)

  given : List Bool
  given = add (shifted s) flips

  pub shifted-length : length (shifted s) ≡ length (frame s) + 32
  unfolding shifted
  shifted-length = length-append (frame s) (zeros 32)

  flips-length : length flips ≡ 32
  unfolding flips
  flips-length = length-map (bits 32 start) not ∙ length-bits 32 start

  given-length : length given ≡ length (frame s) + 32
  unfolding given
  given-length = length-add (shifted s) flips ∙ shifted-length

  shifted-number : number (shifted s) ≡ little s
  unfolding shifted
  shifted-number =
      number_append (frame s) (zeros 32)
      ∙ ap₂ (λ (x y : ℕ). x * 2 ^ length (frame s) + y) (number-zeros 32) (number-frame s)
      ∙ ap (λ (x : ℕ). x + little s) (zero-mul (2 ^ length (frame s))) ∙ zero-add (little s)

  flips-number : number flips ≡ (2 ^ 32 - 1) - start % 2 ^ 32
  unfolding flips
  flips-number = number-not (bits 32 start) 32 (length-bits 32 start) ∙ ap (λ (x : ℕ). (2 ^ 32 - 1) - x) (number-bits 32 start)

  given-number : number given ≡ bit_xor (little s) ((2 ^ 32 - 1) - start % 2 ^ 32)
  unfolding given
  given-number = number-add (shifted s) flips (omega (arith, shifted-length, flips-length)) ∙ ap₂ bit_xor shifted-number flips-number

  pub crc32-run : crc32 start s ≡ (2 ^ 32 - 1) - run ((2 ^ 32 - 1) - start % 2 ^ 32) s
  unfolding crc32 complemented_remainder given flips
  crc32-run =
      number-not (remainder (length (frame s)) given) 32 (length-remainder (length (frame s)) given given-length)
      ∙ ap (λ (x : ℕ). (2 ^ 32 - 1) - x)
      (number-remainder (length (frame s)) given given-length
      ∙ ap₂ steps (length-frame s) (given-number ∙ xor_comm (little s) ((2 ^ 32 - 1) - start % 2 ^ 32))
      ∙ sym (run-steps s ((2 ^ 32 - 1) - start % 2 ^ 32)))
