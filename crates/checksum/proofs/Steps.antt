-- The shift register is linear, and low digits that are 0 are only shifted out. So many steps are the exclusive or of the steps on parts of
-- the register, and a run over bytes is steps on the bytes as one number.
use mathlib.Core.Path.{◌≡◌, refl, sym, ap, ap₂, ◌∙◌}
use mathlib.Core.List.{List, [], ◌∷◌, ◌++◌}
use Prim.Native.Nat.{ℕ, zero, suc, ◌+◌, ◌*◌, ◌/◌, ◌%◌, ◌^◌, ◌<◌}
use native.Mathlib.Nat.{mod-lt, mul-one, suc-add, zero-add, mul-suc, add_comm, zero-lt-suc}
use native.Mathlib.Omega.{arith}
use lib.Pow.{pow_pos, split}
use lib.Bits.{bit_xor, differ, xor_comm, xor_zero_r, xor_shifted, shifted_half, shifted_even, xor_lt}
use lib.ListN.{length}
use Rattle.base.specs.Little.{little}
use Rattle.checksum.specs.Register.{step, steps, run}
use Rattle.checksum.proofs.Xor.{digit-ind, xor-odd, xor-half, xor_assoc, xor-four}

two_pos : 0 < 2
two_pos = zero-lt-suc 1

Times : ℕ → ℕ → Type 0
Times x y = differ x y * 0xedb8_8320 ≡ bit_xor (x * 0xedb8_8320) (y * 0xedb8_8320)

times : (x : ℕ) → x < 2 → (y : ℕ) → y < 2 → Times x y
unfolding Times
times = digit-ind (λ x. (y : ℕ) → y < 2 → Times x y) (λ y h. refl) (digit-ind (λ y. Times 1 y) refl refl)

step-xor : (a b : ℕ) → step (bit_xor a b) ≡ bit_xor (step a) (step b)
unfolding step Times
step-xor a b =
    ap₂ (λ (x y : ℕ). bit_xor x (y * 0xedb8_8320)) (xor-half a b) (xor-odd a b)
    ∙ ap (bit_xor (bit_xor (a / 2) (b / 2))) (times (a % 2) (mod-lt a two_pos) (b % 2) (mod-lt b two_pos))
    ∙ xor-four (a / 2) (b / 2) (a % 2 * 0xedb8_8320) (b % 2 * 0xedb8_8320)

pub steps-xor : (n a b : ℕ) → steps n (bit_xor a b) ≡ bit_xor (steps n a) (steps n b)
unfolding steps
steps-xor zero a b = refl
steps-xor (suc n) a b = ap (steps n) (step-xor a b) ∙ steps-xor n (step a) (step b)

pub steps-add : (m n r : ℕ) → steps (m + n) r ≡ steps n (steps m r)
unfolding steps
steps-add zero n r = ap (λ (k : ℕ). steps k r) (zero-add n)
steps-add (suc m) n r = ap (λ (k : ℕ). steps k r) (suc-add m n) ∙ steps-add m n (step r)

step-shift : (h n : ℕ) → step (h * 2 ^ suc n) ≡ h * 2 ^ n
unfolding step
step-shift h n = ap₂ (λ (x y : ℕ). bit_xor x (y * 0xedb8_8320)) (shifted_half h n) (shifted_even h n) ∙ xor_zero_r (h * 2 ^ n)

pub steps-shift : (n h : ℕ) → steps n (h * 2 ^ n) ≡ h
unfolding steps
steps-shift zero h = mul-one h
steps-shift (suc n) h = ap (steps n) (step-shift h n) ∙ steps-shift n h

-- the k lowest digits, and the others, which the first k steps move down
pub steps-split : (k m x : ℕ) → steps (k + m) x ≡ bit_xor (steps (k + m) (x % 2 ^ k)) (steps m (x / 2 ^ k))
steps-split k m x =
    ap (steps (k + m)) (sym (split x k) ∙ sym (xor_shifted (x / 2 ^ k) k (x % 2 ^ k) (mod-lt x (pow_pos k))))
    ∙ steps-xor (k + m) (x / 2 ^ k * 2 ^ k) (x % 2 ^ k)
    ∙ ap (λ (y : ℕ). bit_xor y (steps (k + m) (x % 2 ^ k))) (steps-add k m (x / 2 ^ k * 2 ^ k) ∙ ap (steps m) (steps-shift k (x / 2 ^ k)))
    ∙ xor_comm (steps m (x / 2 ^ k)) (steps (k + m) (x % 2 ^ k))

-- ---- bytes

pub run-append : (r : ℕ) (s t : List ℕ) → run r (s ++ t) ≡ run (run r s) t
unfolding run
run-append r [] t = refl
run-append r (b ∷ s) t = run-append (steps 8 (bit_xor r (b % 256))) s t

-- a run over bytes is eight steps a byte, the bytes added at the start as one number
pub run-steps : (s : List ℕ) (r : ℕ) → run r s ≡ steps (8 * length s) (bit_xor r (little s))
unfolding run little steps
run-steps [] r = sym (xor_zero_r r)
run-steps (b ∷ s) r =
    run-steps s (steps 8 (bit_xor r (b % 256)))
    ∙ ap (steps (8 * length s))
    (ap (bit_xor (steps 8 (bit_xor r (b % 256)))) (sym (steps-shift 8 (little s)))
    ∙ sym (steps-xor 8 (bit_xor r (b % 256)) (little s * 256))
    ∙ ap (steps 8) (xor_assoc r (b % 256) (little s * 256) ∙ ap (bit_xor r) (xor_comm (b % 256) (little s * 256) ∙ xor_shifted (little s) 8 (b % 256) (mod-lt b (pow_pos 8)))))
    ∙ sym (steps-add 8 (8 * length s) (bit_xor r (little s * 256 + b % 256)))
    ∙ ap (λ (k : ℕ). steps k (bit_xor r (little s * 256 + b % 256))) (add_comm 8 (8 * length s) ∙ sym (mul-suc 8 (length s)))

-- the register and the bytes separately
pub run-zero : (s : List ℕ) (r : ℕ) → run r s ≡ bit_xor (steps (8 * length s) r) (run 0 s)
run-zero s r = run-steps s r ∙ steps-xor (8 * length s) r (little s) ∙ ap (bit_xor (steps (8 * length s) r)) (sym (run-steps s 0))

-- ---- a register of 32 bits stays one

step-lt : (r : ℕ) → r < 2 ^ 32 → step r < 2 ^ 32
unfolding step
step-lt r h = xor_lt 32 (r / 2) (r % 2 * 0xedb8_8320) (omega arith) (omega (arith, mod-lt r two_pos))

pub steps-lt : (n r : ℕ) → r < 2 ^ 32 → steps n r < 2 ^ 32
unfolding steps
steps-lt zero r h = h
steps-lt (suc n) r h = steps-lt n (step r) (step-lt r h)

pub run-lt : (s : List ℕ) (r : ℕ) → r < 2 ^ 32 → run r s < 2 ^ 32
unfolding run
run-lt [] r h = h
run-lt (b ∷ s) r h = run-lt s (steps 8 (bit_xor r (b % 256))) (steps-lt 8 (bit_xor r (b % 256)) (xor_lt 32 r (b % 256) h (omega (arith, mod-lt b (pow_pos 8)))))
