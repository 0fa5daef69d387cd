-- The table for 2048 steps is right: each entry is 4 steps after the one sixteen before it, which one computed test checks. Eight lookups,
-- one a nibble, add up to 2048 steps, since the register is linear; so one register gives the other after 256 bytes.
use mathlib.Core.Path.{◌≡◌, refl, sym, ap, ap₂, ◌∙◌}
use mathlib.Core.List.{List, [], ◌∷◌, ◌++◌}
use Prim.Native.Nat.{ℕ, zero, suc, ◌+◌, ◌*◌, ◌/◌, ◌%◌, ◌^◌, ◌<◌, ◌≤◌}
use native.Mathlib.Nat.{zero-add, add-zero, zero-mul, one-mul, mod-lt, le_of_suc-le-suc, not-suc-le-zero}
use native.Mathlib.Omega.{arith}
use lib.Dec.{T}
use lib.Pow.{pow_pos, shr-shr, shr_mod}
use lib.Bits.{bit_xor, xor_comm, xor_self}
use lib.ListN.{length, get_or, get_or-append}
use lib.Seq.{get_or-append-add}
use Rattle.checksum.specs.Register.{step, steps, run}
use Rattle.checksum.proofs.Xor.{digit-ind, xor-four}
use Rattle.checksum.proofs.Steps.{steps-add, steps-split, steps-xor, run-zero}
use Rattle.checksum.proofs.TableLaws.{follows, followed}
use Rattle.checksum.specs.Shift.{Shifts}

-- ---- two registers

-- the second register, from the first one and the difference
pub second : (a b n : ℕ) (s : List ℕ) → 8 * length s ≡ n → bit_xor (run a s) (steps n (bit_xor a b)) ≡ run b s
second a b n s h =
    let m : ℕ = 8 * length s in
    ap (λ (k : ℕ). bit_xor (run a s) (steps k (bit_xor a b))) (sym h)
    ∙ ap₂ bit_xor (run-zero s a) (steps-xor m a b)
    ∙ xor-four (steps m a) (run 0 s) (steps m a) (steps m b)
    ∙ ap (λ (z : ℕ). bit_xor z (bit_xor (run 0 s) (steps m b))) (xor_self (steps m a))
    ∙ xor_comm (run 0 s) (steps m b)
    ∙ sym (run-zero s b)

-- ---- lookups

-- a register of 32 bits, nibble by nibble
pub shift : (x : ℕ) → x < 2 ^ 32
    → bit_xor (steps 2048 (x % 16)) (bit_xor (steps 2044 (x / 2 ^ 4 % 16)) (bit_xor (steps 2040 (x / 2 ^ 8 % 16)) (bit_xor (steps 2036 (x / 2 ^ 12 % 16))
    (bit_xor (steps 2032 (x / 2 ^ 16 % 16)) (bit_xor (steps 2028 (x / 2 ^ 20 % 16)) (bit_xor (steps 2024 (x / 2 ^ 24 % 16)) (steps 2020 (x / 2 ^ 28 % 16))))))))
    ≡ steps 2048 x
shift x h = sym (steps-split 4 2044 x ∙ ap (bit_xor (steps 2048 (x % 16))) (part 2040 4 x ∙ ap (bit_xor (steps 2044 (x / 2 ^ 4 % 16))) (part 2036 8 x ∙ ap (bit_xor (steps 2040 (x / 2 ^ 8 % 16))) (part 2032 12 x ∙ ap (bit_xor (steps 2036 (x / 2 ^ 12 % 16))) (part 2028 16 x ∙ ap (bit_xor (steps 2032 (x / 2 ^ 16 % 16))) (part 2024 20 x ∙ ap (bit_xor (steps 2028 (x / 2 ^ 20 % 16))) (part 2020 24 x ∙ ap (bit_xor (steps 2024 (x / 2 ^ 24 % 16))) (ap (steps 2020) (sym (shr_mod 4 28 h))))))))))
  where
    part : (m i x : ℕ) → steps (4 + m) (x / 2 ^ i) ≡ bit_xor (steps (4 + m) (x / 2 ^ i % 16)) (steps m (x / 2 ^ (i + 4)))
    part m i x = steps-split 4 m (x / 2 ^ i) ∙ ap (λ (y : ℕ). bit_xor (steps (4 + m) (x / 2 ^ i % 16)) (steps m y)) (shr-shr x i 4)

-- ---- the table

-- the lowest bit after 2013 steps and more
shifted-3 : steps 2013 1 ≡ 533709592
unfolding steps step
shifted-3 = refl

shifted-2 : steps 2014 1 ≡ 266854796
unfolding steps step
shifted-2 = steps-add 2013 1 1 ∙ ap (steps 1) shifted-3

shifted-1 : steps 2015 1 ≡ 133427398
unfolding steps step
shifted-1 = steps-add 2014 1 1 ∙ ap (steps 1) shifted-2

shifted-0 : steps 2016 1 ≡ 66713699
unfolding steps step
shifted-0 = steps-add 2015 1 1 ∙ ap (steps 1) shifted-1

-- a nibble after 2016 steps, bit by bit
unfoldable pub shifted : ℕ → ℕ
shifted n = bit_xor (n % 2 * 66713699) (bit_xor (n / 2 % 2 * 133427398) (bit_xor (n / 2 ^ 2 % 2 * 266854796) (n / 2 ^ 3 % 2 * 533709592)))

steps-zero : (m : ℕ) → steps m 0 ≡ 0
steps-zero m = steps-xor m 0 0 ∙ xor_self (steps m 0)

bit : (m e n : ℕ) → steps m 1 ≡ e → steps m (n % 2) ≡ n % 2 * e
bit m e n h =
    digit-ind (λ (d : ℕ). steps m d ≡ d * e) (steps-zero m ∙ sym (zero-mul e)) (h ∙ sym (one-mul e)) (n % 2) (mod-lt n (pow_pos 1))

shifted-steps : (n : ℕ) → n < 16 → shifted n ≡ steps 2016 n
unfolding shifted
shifted-steps n h =
    sym
    (steps-split 1 2015 n
    ∙ ap₂ bit_xor (bit 2016 66713699 n shifted-0)
    (steps-split 1 2014 (n / 2)
    ∙ ap₂ bit_xor (bit 2015 133427398 (n / 2) shifted-1)
    (ap (steps 2014) (shr-shr n 1 1)
    ∙ steps-split 1 2013 (n / 2 ^ 2)
    ∙ ap₂ bit_xor (bit 2014 266854796 (n / 2 ^ 2) shifted-2)
    (ap (steps 2013) (shr-shr n 2 1 ∙ sym (shr_mod 1 3 h)) ∙ bit 2013 533709592 (n / 2 ^ 3) shifted-3))))

-- n nibbles from i on, each after 2016 steps
unfoldable pub ahead : ℕ → ℕ → List ℕ
ahead i zero = []
ahead i (suc n) = shifted i ∷ ahead (suc i) n

ahead-at : (i n k : ℕ) → k < n → i + n ≤ 16 → get_or (ahead i n) k 0 ≡ steps 2016 (i + k)
unfolding ahead
ahead-at i zero k h l = absurd (not-suc-le-zero h)
ahead-at i (suc n) zero h l = shifted-steps i (omega arith) ∙ ap (steps 2016) (sym (add-zero i))
ahead-at i (suc n) (suc k) h l = ahead-at (suc i) n k (le_of_suc-le-suc h) (omega arith) ∙ ap (steps 2016) (omega arith)

ahead-length : (i n : ℕ) → length (ahead i n) ≡ n
unfolding ahead
ahead-length i zero = refl
ahead-length i (suc n) = ap suc (ahead-length (suc i) n)

-- each entry is the one sixteen before it after 4 more steps; before the first sixteen are the nibbles after 2016 steps
module _ (t : List ℕ) (test : T (follows (ahead 0 16 ++ t) t)) where
  first : (n : ℕ) → n < 16 → get_or (ahead 0 16 ++ t) n 0 ≡ steps 2016 n
  first n h =
      let l : n < length (ahead 0 16) = omega (arith, ahead-length 0 16) in
      get_or-append (ahead 0 16) t 0 n l ∙ ahead-at 0 16 n h (omega arith) ∙ ap (steps 2016) (zero-add n)

  later : (k : ℕ) → get_or (ahead 0 16 ++ t) (16 + k) 0 ≡ get_or t k 0
  later k = ap (λ (i : ℕ). get_or (ahead 0 16 ++ t) (i + k) 0) (sym (ahead-length 0 16)) ∙ get_or-append-add (ahead 0 16) t k 0

  rows : (j n : ℕ) → n < 16 → 16 * j + n < length t → get_or t (16 * j + n) 0 ≡ steps (2020 + 4 * j) n
  rows zero n l m =
      ap (λ (k : ℕ). get_or t k 0) (zero-add n)
      ∙ followed (ahead 0 16 ++ t) t test n (omega arith)
      ∙ ap (steps 4) (first n l)
      ∙ sym (steps-add 2016 4 n)
  rows (suc j) n l m =
      let e : 16 * suc j + n ≡ 16 + (16 * j + n) = omega arith in
      let c : 2020 + 4 * j + 4 ≡ 2020 + 4 * suc j = omega arith in
      followed (ahead 0 16 ++ t) t test (16 * suc j + n) m
      ∙ ap (λ (k : ℕ). steps 4 (get_or (ahead 0 16 ++ t) k 0)) e
      ∙ ap (steps 4) (later (16 * j + n) ∙ rows j n l (omega arith))
      ∙ sym (steps-add (2020 + 4 * j) 4 n)
      ∙ ap (λ (k : ℕ). steps k n) c

  pub table : length t ≡ 128 → Shifts t
  table h = record { entry = λ j n hj hn. rows j n hn (omega arith) }
