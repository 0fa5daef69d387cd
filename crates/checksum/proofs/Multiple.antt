-- If x^n and the terms es add up to a multiple of the generator, n steps of the register equal the sum of the terms' steps. The multiple is
-- tested on x^0 by computing; linearity extends it to every bit, and so to 32 bits; 64 steps bring 64 bits to 32.
use mathlib.Core.Path.{◌≡◌, refl, sym, ap, ap₂, ◌∙◌, subst}
use mathlib.Core.List.{List, [], ◌∷◌, map}
use Prim.Native.Nat.{ℕ, zero, suc, ◌+◌, ◌-◌, ◌*◌, ◌/◌, ◌%◌, ◌^◌, ◌<◌, ◌≤◌}
use native.Mathlib.Nat.{mod-lt, lt_of_lt_of_le, add_comm, mul_comm, one-mul, zero-mul}
use native.Mathlib.Omega.{arith}
use lib.Arith.{lt-one}
use lib.Pow.{pow_pos, pow-add, split, shr_lt, pow_mono}
use lib.Bits.{bit_xor, xor_shifted, xor_lt}
use Rattle.checksum.specs.Register.{step, steps}
use Rattle.checksum.proofs.Xor.{digit-ind, xor-four}
use Rattle.checksum.proofs.Steps.{steps-xor, steps-add, steps-shift, steps-lt}
use Rattle.checksum.proofs.Sum.{xors}

-- the sum of x after each of these numbers of steps
abbrev pub sum : List ℕ → ℕ → ℕ
sum es x = xors (map (λ e. steps e x) es)

-- x^n and the terms es add up to a multiple of the generator; 2 ^ 31 is the register that holds x^0
abbrev pub Multiple : ℕ → List ℕ → Type 0
Multiple n es = steps n (2 ^ 31) ≡ sum es (2 ^ 31)

steps-comm : (m n x : ℕ) → steps m (steps n x) ≡ steps n (steps m x)
steps-comm m n x = sym (steps-add n m x) ∙ ap (λ (k : ℕ). steps k x) (add_comm n m) ∙ steps-add m n x

pub steps-zero : (n : ℕ) → steps n 0 ≡ 0
unfolding steps step
steps-zero zero = refl
steps-zero (suc n) = steps-zero n

sum-xor : (es : List ℕ) (a b : ℕ) → sum es (bit_xor a b) ≡ bit_xor (sum es a) (sum es b)
sum-xor [] a b = refl
sum-xor (e ∷ es) a b =
    ap₂ bit_xor (steps-xor e a b) (sum-xor es a b) ∙ xor-four (steps e a) (steps e b) (sum es a) (sum es b)

sum-steps : (es : List ℕ) (n x : ℕ) → sum es (steps n x) ≡ steps n (sum es x)
sum-steps [] n x = sym (steps-zero n)
sum-steps (e ∷ es) n x =
    ap₂ bit_xor (steps-comm e n x) (sum-steps es n x) ∙ sym (steps-xor n (steps e x) (sum es x))

sum-zero : (es : List ℕ) → sum es 0 ≡ 0
sum-zero [] = refl
sum-zero (e ∷ es) = ap₂ bit_xor (steps-zero e) (sum-zero es)

one_more : (k : ℕ) → suc k ≡ 1 + k
one_more k = omega arith

-- each step leaves one bit fewer, down to 32
step_down : (k x : ℕ) → x < 2 ^ (32 + suc k) → step x < 2 ^ (32 + k)
unfolding step
step_down k x h =
    xor_lt (32 + k) (x / 2) (x % 2 * 0xedb8_8320) (shr_lt (32 + k) 1 (subst (λ (z : ℕ). x < 2 ^ z) (omega arith) h))
    (lt_of_lt_of_le {m = 2 ^ 32} (omega (arith, mod-lt x (pow_pos 1))) (pow_mono {i = 32} {j = 32 + k} (omega arith)))

steps-down : (k x : ℕ) → x < 2 ^ (32 + k) → steps k x < 2 ^ 32
unfolding steps
steps-down zero x h = h
steps-down (suc k) x h = steps-down k (step x) (step_down k x h)

steps-add-lt : (x : ℕ) → x < 2 ^ 64 → steps 64 x < 2 ^ 32
steps-add-lt x h = subst (λ (z : ℕ). z < 2 ^ 32) (sym (steps-add 32 32 x)) (steps-lt 32 (steps 32 x) (steps-down 32 x h))

gather : (es : List ℕ) (m x : ℕ) → steps m (sum es (steps 64 x)) ≡ xors (map (λ e. steps (64 + (e + m)) x) es)
gather [] m x = steps-zero m
gather (e ∷ es) m x =
    steps-xor m (steps e (steps 64 x)) (sum es (steps 64 x))
    ∙ ap₂ bit_xor (sym (steps-add 64 (e + m) x ∙ steps-add e m (steps 64 x))) (gather es m x)

module _ (n : ℕ) (es : List ℕ) (given : Multiple n es) where
  Good : ℕ → Type 0
  Good x = steps n x ≡ sum es x

  good-xor : (a b : ℕ) → Good a → Good b → Good (bit_xor a b)
  unfolding Good
  good-xor a b p q = steps-xor n a b ∙ ap₂ bit_xor p q ∙ sym (sum-xor es a b)

  good-steps : (m x : ℕ) → Good x → Good (steps m x)
  unfolding Good
  good-steps m x p = steps-comm n m x ∙ ap (steps m) p ∙ sym (sum-steps es m x)

  good-zero : Good 0
  unfolding Good
  good-zero = steps-zero n ∙ sym (sum-zero es)

  -- one bit: x^0 shifted
  good-bit : (j k : ℕ) → j + k ≡ 31 → Good (1 * 2 ^ k)
  unfolding Good
  good-bit j k h =
      let e : steps j (2 ^ 31) ≡ 1 * 2 ^ k =
      ap (λ (m : ℕ). steps j (2 ^ m)) (sym h) ∙ ap (steps j) (pow-add 2 j k ∙ mul_comm (2 ^ j) (2 ^ k) ∙ ap (λ (m : ℕ). m * 2 ^ j) (sym (one-mul (2 ^ k))))
      ∙ steps-shift j (1 * 2 ^ k)
      in subst (λ (x : ℕ). steps n x ≡ sum es x) e (good-steps j (2 ^ 31) given)

  good-digit : (k : ℕ) → k < 32 → (d : ℕ) → d < 2 → Good (d * 2 ^ k)
  good-digit k h =
      digit-ind (λ d. Good (d * 2 ^ k)) (subst Good (sym (zero-mul (2 ^ k))) good-zero) (good-bit (31 - k) k (omega arith))

  good-below : (k : ℕ) → k ≤ 32 → (x : ℕ) → x < 2 ^ k → Good x
  good-below zero h x l = subst Good (sym (lt-one l)) good-zero
  good-below (suc k) h x l =
      subst Good (xor_shifted (x / 2 ^ k) k (x % 2 ^ k) (mod-lt x (pow_pos k)) ∙ split x k)
      (good-xor (x / 2 ^ k * 2 ^ k) (x % 2 ^ k)
      (good-digit k (omega arith) (x / 2 ^ k) (shr_lt 1 k (subst (λ (z : ℕ). x < 2 ^ z) (one_more k) l)))
      (good-below k (omega arith) (x % 2 ^ k) (mod-lt x (pow_pos k))))

  -- 64 steps on 64 bits leave 32
  pub multiple : (m x : ℕ) → x < 2 ^ 64 → steps (64 + (n + m)) x ≡ xors (map (λ e. steps (64 + (e + m)) x) es)
  unfolding Good
  multiple m x l =
      steps-add 64 (n + m) x ∙ steps-add n m (steps 64 x)
      ∙ ap (steps m) (good-below 32 (omega arith) (steps 64 x) (steps-add-lt x l))
      ∙ gather es m x
