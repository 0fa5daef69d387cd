-- One bit of a filter, read and set: setting a bit sets that one and leaves all others. By the digits of a bitwise or, where a power of two
-- has exactly one digit.
use Rattle.std.proofs.Common.{◌≡◌, ℕ, zero, suc, ◌+◌, ◌*◌, ◌/◌, ◌%◌, ◌^◌, ◌<◌, ◌≤◌, max, Bool, true, false, eqb, ltb, ◌⊎◌, List, length, set, refl, ap, ◌∙◌, inl, inr, ⊎_elim, zero-lt-suc, one-mul, pow-suc, div-one, arith, length-set, get_or-set_other, get_or-set_same, pow_pos, shl_exact, ltb-false, ltb-true, eqb-true}
use native.Mathlib.Nat.{div_self, div-eq_of_lt, mul-div-mul_right, mul-mod_left, max-le, max-zero, max-eq_left, max-eq_right}
use borrow.Author.Tests.{eqb-false}
use lib.Bits.{bit_or, or_step, or_shr}
use lib.Pow.{pow-lt}
use lib.Seq.{set_out}
use Rattle.base.specs.Lists.{byte}
use Rattle.bloom.specs.Bloom.{is_set, set_bit}

-- one, shifted in a byte, is a power of two
shifted_one : (k : ℕ) → k < 8 → (1 * 2 ^ k) % 256 ≡ 2 ^ k
shifted_one k h = shl_exact {a = 1} 1 k 8 (omega arith) (omega arith) ∙ one-mul (2 ^ k)

-- the byte as the code stores it
pub stored : (bits : List ℕ) (p : ℕ) → set bits (p / 8) (bit_or (byte bits (p / 8)) ((1 * 2 ^ (p % 8)) % 256)) ≡ set_bit bits p
unfolding set_bit
stored bits p = ap (λ (m : ℕ). set bits (p / 8) (bit_or (byte bits (p / 8)) m)) (shifted_one (p % 8) (omega arith))

-- the lowest bit of an or
pub or-low : (x y : ℕ) → bit_or x y % 2 ≡ max (x % 2) (y % 2)
or-low x y =
    let m = max (x % 2) (y % 2) in
    let b : m ≤ 1 = max-le {a = x % 2} {b = y % 2} {k = 1} (omega arith) (omega arith) in
    let q = bit_or (x / 2) (y / 2) in
    let e : (q * 2 + m) % 2 ≡ m = omega arith in
    ap (λ (n : ℕ). n % 2) (or_step x y) ∙ e

-- any bit of an or
or-bit : (b y j : ℕ) → bit_or b y / 2 ^ j % 2 ≡ max (b / 2 ^ j % 2) (y / 2 ^ j % 2)
or-bit b y j = ap (λ (n : ℕ). n % 2) (or_shr b y j) ∙ or-low (b / 2 ^ j) (y / 2 ^ j)

-- a power of two has one bit
pow-same : (k : ℕ) → 2 ^ k / 2 ^ k % 2 ≡ 1
pow-same k = ap (λ (n : ℕ). n % 2) (div_self (pow_pos k))

pow-other : (j k : ℕ) → (j ≡ k → ⊥) → 2 ^ k / 2 ^ j % 2 ≡ 0
pow-other zero zero ne = absurd (ne refl)
pow-other zero (suc k) ne = ap (λ (n : ℕ). n % 2) (div-one (2 ^ suc k) ∙ pow-suc 2 k) ∙ mul-mod_left (2 ^ k) 2
pow-other (suc j) zero ne = ap (λ (n : ℕ). n % 2) (div-eq_of_lt (pow-lt {i = zero} {j = suc j} (zero-lt-suc j)))
pow-other (suc j) (suc k) ne =
    rw (pow-suc 2 k, pow-suc 2 j, mul-div-mul_right {m = 2} (2 ^ k) (2 ^ j) (zero-lt-suc 1)) (pow-other j k (λ e. ne (ap suc e)))

-- a byte of a filter in which a bit was set: as before, or, if it is the bit's own byte, with the bit
module _ (bits : List ℕ) (q j : ℕ) where
  After : Type 0
  After = (byte (set_bit bits q) j ≡ byte bits j) ⊎ ((j ≡ q / 8) × (byte (set_bit bits q) j ≡ bit_or (byte bits j) (2 ^ (q % 8))))

  v : ℕ
  v = bit_or (byte bits (q / 8)) (2 ^ (q % 8))

  here : j ≡ q / 8 → (t : Bool) → ltb (q / 8) (length bits) ≡ t → After
  unfolding After v set_bit
  here e true h =
      let s : byte (set bits (q / 8) v) (q / 8) ≡ v = get_or-set_same bits (q / 8) v 0 (ltb-true (q / 8) (length bits) h) in
      inr (e, rw e s)
  here e false h = inl (ap (λ (l : List ℕ). byte l j) (set_out bits (q / 8) v (ltb-false (q / 8) (length bits) h)))

  by : (t : Bool) → eqb j (q / 8) ≡ t → After
  unfolding After v set_bit
  by true h = here (eqb-true j (q / 8) h) (ltb (q / 8) (length bits)) refl
  by false h = inl (get_or-set_other bits (q / 8) j v 0 (eqb-false j (q / 8) h))

  after : After
  after = by (eqb j (q / 8)) refl

module _ (bits : List ℕ) where
  pub length-bit : (p : ℕ) → length (set_bit bits p) ≡ length bits
  unfolding set_bit
  length-bit p = length-set bits (p / 8) (bit_or (byte bits (p / 8)) (2 ^ (p % 8)))

  -- a bit that was set is set
  pub bit-here : (p : ℕ) → p / 8 < length bits → is_set (set_bit bits p) p ≡ true
  unfolding is_set set_bit
  bit-here p h =
      let b = byte bits (p / 8) in
      let k = p % 8 in
      let m : max (b / 2 ^ k % 2) 1 ≡ 1 = max-eq_right (omega arith) in
      let e : bit_or b (2 ^ k) / 2 ^ k % 2 ≡ 1 = or-bit b (2 ^ k) k ∙ rw (pow-same k) m in
      rw (get_or-set_same bits (p / 8) (bit_or b (2 ^ k)) 0 h, e)

  -- a bit that was set before still is
  pub bit_kept : (q p : ℕ) → is_set bits p ≡ true → is_set (set_bit bits q) p ≡ true
  unfolding is_set After
  bit_kept q p h =
      let b = byte bits (p / 8) in
      let k = p % 8 in
      let y = 2 ^ (q % 8) / 2 ^ k % 2 in
      let o : b / 2 ^ k % 2 ≡ 1 = eqb-true (b / 2 ^ k % 2) 1 h in
      let m : max 1 y ≡ 1 = max-eq_left (omega arith) in
      let e : bit_or b (2 ^ (q % 8)) / 2 ^ k % 2 ≡ 1 = or-bit b (2 ^ (q % 8)) k ∙ rw o m in
      ⊎_elim (λ s. rw s h) (λ s. rw (s.1, e)) (after bits q (p / 8))

  -- any other bit is as it was
  pub bit-other : (q p : ℕ) → (p ≡ q → ⊥) → is_set (set_bit bits q) p ≡ is_set bits p
  unfolding is_set After
  bit-other q p ne =
      let b = byte bits (p / 8) in
      let k = p % 8 in
      let apart : p / 8 ≡ q / 8 → k ≡ q % 8 → ⊥ = λ d m. ne (omega arith) in
      let e : p / 8 ≡ q / 8 → bit_or b (2 ^ (q % 8)) / 2 ^ k % 2 ≡ b / 2 ^ k % 2 =
      λ d. or-bit b (2 ^ (q % 8)) k ∙ rw (pow-other k (q % 8) (apart d)) (max-zero (b / 2 ^ k % 2)) in
      ⊎_elim (λ s. rw s) (λ s. rw (s.1, e s.0)) (after bits q (p / 8))
