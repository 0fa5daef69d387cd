-- The first word of an input may have fewer than 8 bytes: shifted up, as if zeros were before it, 64 steps do the same. A fold of such a
-- word leaves five pending words that do the same on what follows.
use mathlib.Core.Path.{◌≡◌, sym, ap, ap₂, ◌∙◌}
use mathlib.Core.List.{List}
use Prim.Native.Nat.{ℕ, ◌+◌, ◌-◌, ◌*◌, ◌/◌, ◌%◌, ◌^◌, ◌<◌, ◌≤◌}
use native.Mathlib.Nat.{add-zero, add_comm, mod-eq_of_lt, div-eq_of_lt, mul-mod_left}
use native.Mathlib.Omega.{arith}
use lib.Pow.{low, shl-shr, mod-pow-add}
use lib.Bits.{bit_xor, xor_mod, xor_shr, xor_zero_r}
use lib.ListN.{length, take, drop, take-append-drop}
use lib.Seq.{length-take-le}
use Rattle.base.specs.Little.{little}
use Rattle.checksum.specs.Register.{steps, run}
use Rattle.base.proofs.Little.{little-two, part-lt}
use Rattle.checksum.proofs.Steps.{steps-xor, steps-add, steps-shift, steps-split, run-append, run-steps, run-zero}

-- n bytes are N bits; r zeros are before them in a word of 64
module _ (c w n r : ℕ) (s : List ℕ) (fits : 8 * n + r ≡ 64) (long : 8 ≤ length s) (loaded : w ≡ little (take 8 s)) where
  u : ℕ
  u = little (take n s)

  u-lt : u < 2 ^ (8 * n)
  unfolding u
  u-lt = part-lt n s

  -- the word's low bits are the first n bytes
  low_bits : w % 2 ^ (8 * n) ≡ u
  unfolding u
  low_bits =
      let e : n + (8 - n) ≡ 8 = omega arith in
      ap (λ (x : ℕ). x % 2 ^ (8 * n)) (loaded ∙ ap (λ (i : ℕ). little (take i s)) (sym e) ∙ little-two n (8 - n) s (omega arith))
      ∙ low (little (take (8 - n) (drop n s))) (8 * n) (part-lt n s)

  -- shifted up, the other bits go
  shifted : bit_xor c w * 2 ^ r % 2 ^ 64 ≡ bit_xor c w % 2 ^ (8 * n) * 2 ^ r
  shifted =
      ap (λ (k : ℕ). bit_xor c w * 2 ^ r % 2 ^ k) (sym fits)
      ∙ mod-pow-add (bit_xor c w * 2 ^ r) (8 * n) r
      ∙ ap₂ (λ (a b : ℕ). a % 2 ^ (8 * n) * 2 ^ r + b) (shl-shr (bit_xor c w) r) (mul-mod_left (bit_xor c w) (2 ^ r))
      ∙ add-zero (bit_xor c w % 2 ^ (8 * n) * 2 ^ r)

  same_low : bit_xor c w % 2 ^ (8 * n) ≡ bit_xor c u % 2 ^ (8 * n)
  same_low =
      xor_mod c w (8 * n)
      ∙ ap (bit_xor (c % 2 ^ (8 * n))) (low_bits ∙ sym (mod-eq_of_lt u-lt))
      ∙ sym (xor_mod c u (8 * n))

  word-steps : steps 64 (bit_xor c w * 2 ^ r % 2 ^ 64) ≡ steps (8 * n) (bit_xor c u % 2 ^ (8 * n))
  word-steps =
      ap₂ steps (sym fits ∙ add_comm (8 * n) r) shifted
      ∙ steps-add r (8 * n) (bit_xor c w % 2 ^ (8 * n) * 2 ^ r)
      ∙ ap (steps (8 * n)) (steps-shift r (bit_xor c w % 2 ^ (8 * n)) ∙ same_low)

  above : bit_xor c u / 2 ^ (8 * n) ≡ c / 2 ^ (8 * n)
  above =
      xor_shr c u (8 * n) ∙ ap (bit_xor (c / 2 ^ (8 * n))) (div-eq_of_lt u-lt) ∙ xor_zero_r (c / 2 ^ (8 * n))

  register : bit_xor (steps 64 (bit_xor c w * 2 ^ r % 2 ^ 64)) (c / 2 ^ (8 * n)) ≡ run c (take n s)
  unfolding u steps
  register =
      ap₂ bit_xor word-steps (sym above)
      ∙ sym
      (run-steps (take n s) c
      ∙ ap (λ (k : ℕ). steps (8 * k) (bit_xor c u)) (length-take-le n s (omega arith))
      ∙ ap (λ (k : ℕ). steps k (bit_xor c u)) (sym (add-zero (8 * n)))
      ∙ steps-split (8 * n) 0 (bit_xor c u)
      ∙ ap (λ (k : ℕ). bit_xor (steps k (bit_xor c u % 2 ^ (8 * n))) (bit_xor c u / 2 ^ (8 * n))) (add-zero (8 * n)))

  pub first_word : run (bit_xor (steps 64 (bit_xor c w * 2 ^ r % 2 ^ 64)) (c / 2 ^ (8 * n))) (drop n s) ≡ run c s
  first_word =
      ap (λ (x : ℕ). run x (drop n s)) register ∙ sym (run-append c (take n s) (drop n s)) ∙ ap (run c) (take-append-drop n s)

-- what a fold of the first word leaves does the same after any number of steps
later : (k m v x : ℕ) → k ≤ m → steps k v ≡ steps (64 + k) x → steps m v ≡ steps m (steps 64 x)
later k m v x h e =
    let i : k + (m - k) ≡ m = omega arith in
    let j : 64 + k + (m - k) ≡ 64 + m = omega arith in
    ap (λ (n : ℕ). steps n v) (sym i)
    ∙ steps-add k (m - k) v
    ∙ ap (steps (m - k)) e
    ∙ sym (steps-add (64 + k) (m - k) x)
    ∙ ap (λ (n : ℕ). steps n x) j
    ∙ steps-add 64 m x

-- and with what is added to it, on the bytes that follow
pub first-fold : (k v x b : ℕ) (s : List ℕ) → k ≤ 8 * length s → steps k v ≡ steps (64 + k) x → run (bit_xor v b) s ≡ run (bit_xor (steps 64 x) b) s
first-fold k v x b s h e =
    run-zero s (bit_xor v b)
    ∙ ap (λ (z : ℕ). bit_xor z (run 0 s))
    (steps-xor (8 * length s) v b ∙ ap (λ (z : ℕ). bit_xor z (steps (8 * length s) b)) (later k (8 * length s) v x h e) ∙ sym (steps-xor (8 * length s) (steps 64 x) b))
    ∙ sym (run-zero s (bit_xor (steps 64 x) b))
