-- The four positions are inside the filter, equal what the code sums up, and differ from each other: the step is odd, so their remainders
-- modulo 8 differ.
use Rattle.std.proofs.Common.{◌≡◌, ℕ, zero, suc, ◌+◌, ◌*◌, ◌/◌, ◌%◌, ◌^◌, ◌<◌, [], ◌∷◌, sym, refl, ap, ◌∙◌, mod-lt, add-mul, one-mul, arith}
use native.Mathlib.Nat.{mod-mod_of_dvd, dvd-mul_right, max-eq_right}
use Rattle.base.specs.Number.{wrap32, rotate_left32}
use Rattle.bloom.specs.Bloom.{step_of, position, positions}
use Rattle.bloom.specs.Positions.{Within}
use Rattle.bloom.specs.Claims.{Differ}
use Rattle.bloom.proofs.Bits.{or-low}

-- a number modulo the filter's number of bits is a position in the filter
pub in-filter : (x n : ℕ) → 0 < n → x % (8 * n) / 8 < n
in-filter x n h =
    let b : x % (8 * n) < 8 * n = mod-lt x {m = 8 * n} (omega arith) in
    omega arith

pub within : (hash n : ℕ) → 0 < n → Within n (positions hash n)
unfolding position
within hash n h = (in-filter _ n h, (in-filter _ n h, (in-filter _ n h, (in-filter _ n h, tt))))

-- one more step, wrapping
more : (h i s u x : ℕ) → u ≡ wrap32 (h + i * s) → x ≡ (u + s) % 2 ^ 32 → x ≡ wrap32 (h + (i + 1) * s)
more h i s u x eu ex =
    let t = i * s in
    let d : (i + 1) * s ≡ t + s = add-mul i 1 s ∙ ap (λ (m : ℕ). t + m) (one-mul s) in
    let e : x ≡ wrap32 (h + (t + s)) = omega arith in
    e ∙ ap (λ (m : ℕ). wrap32 (h + m)) (sym d)

-- the code adds the step three times
module _ (hash n s : ℕ) (es : s ≡ step_of hash) where
  at : (i u v : ℕ) → u ≡ wrap32 (hash + i * s) → v ≡ u % (8 * n) → v ≡ position hash n i
  unfolding position
  at i u v eu ev = ev ∙ ap (λ (m : ℕ). m % (8 * n)) (eu ∙ ap (λ (m : ℕ). wrap32 (hash + i * m)) es)

  pub summed : (x y z a b c d : ℕ) → hash < 2 ^ 32 → x ≡ (hash + s) % 2 ^ 32 → y ≡ (x + s) % 2 ^ 32 → z ≡ (y + s) % 2 ^ 32
      → a ≡ hash % (8 * n) → b ≡ x % (8 * n) → c ≡ y % (8 * n) → d ≡ z % (8 * n) → a ∷ b ∷ c ∷ d ∷ [] ≡ positions hash n
  summed x y z a b c d h ex ey ez ea eb ec ed =
      let p0 : hash ≡ wrap32 (hash + 0 * s) = omega arith in
      let p1 : x ≡ wrap32 (hash + 1 * s) = more hash 0 s hash x p0 ex in
      let p2 : y ≡ wrap32 (hash + 2 * s) = more hash 1 s x y p1 ey in
      let p3 : z ≡ wrap32 (hash + 3 * s) = more hash 2 s y z p2 ez in
      rw (at 0 hash a p0 ea, at 1 x b p1 eb, at 2 y c p2 ec, at 3 z d p3 ed)

-- the step is odd
odd_step : (hash : ℕ) → step_of hash % 2 ≡ 1
unfolding step_of
odd_step hash =
    let r = rotate_left32 13 hash in
    or-low r 1 ∙ max-eq_right {n = r % 2} {m = 1} (omega arith)

below-4 : (P : ℕ → Type 0) → P 0 → P 1 → P 2 → P 3 → (i : ℕ) → i < 4 → P i
below-4 P a b c d zero h = a
below-4 P a b c d (suc zero) h = b
below-4 P a b c d (suc (suc zero)) h = c
below-4 P a b c d (suc (suc (suc zero))) h = d
below-4 P a b c d (suc (suc (suc (suc i)))) h = absurd (omega arith)

-- modulo 8, position i is hash + i × step
low-three : (hash n i : ℕ) → position hash n i % 8 ≡ (hash + i * step_of hash) % 8
unfolding position
low-three hash n i =
    let x = hash + i * step_of hash in
    let e : x % 2 ^ 32 % 8 ≡ x % 8 = omega arith in
    mod-mod_of_dvd 8 {b = 8 * n} (x % 2 ^ 32) (dvd-mul_right 8 n) ∙ e

module _ (h t : ℕ) where
  Apart : ℕ → ℕ → Type 0
  Apart i j = (h + i * (2 * t + 1)) % 8 ≡ (h + j * (2 * t + 1)) % 8 → i ≡ j

  apart : (i j : ℕ) → i < 4 → j < 4 → Apart i j
  unfolding Apart
  apart i j hi hj =
      below-4 (λ (m : ℕ). Apart m j)
      (below-4 (λ (m : ℕ). Apart 0 m) (λ e. refl) (λ e. omega arith) (λ e. omega arith) (λ e. omega arith) j hj)
      (below-4 (λ (m : ℕ). Apart 1 m) (λ e. omega arith) (λ e. refl) (λ e. omega arith) (λ e. omega arith) j hj)
      (below-4 (λ (m : ℕ). Apart 2 m) (λ e. omega arith) (λ e. omega arith) (λ e. refl) (λ e. omega arith) j hj)
      (below-4 (λ (m : ℕ). Apart 3 m) (λ e. omega arith) (λ e. omega arith) (λ e. omega arith) (λ e. refl) j hj)
      i
      hi

pub differ : Differ
unfolding Apart
differ hash n i j hi hj e =
    let s = step_of hash in
    let o : s ≡ 2 * (s / 2) + 1 = omega (arith, odd_step hash) in
    let at : (k : ℕ) → position hash n k % 8 ≡ (hash + k * (2 * (s / 2) + 1)) % 8 =
    λ k. low-three hash n k ∙ ap (λ (m : ℕ). (hash + k * m) % 8) o in
    apart hash (s / 2) i j hi hj (sym (at i) ∙ e ∙ at j)
