-- Laws of exclusive or that the library lacks, by induction on the digits: the lowest one by its four cases, the others by the law for half
-- the numbers.
use mathlib.Core.Path.{◌≡◌, refl, sym, ap, ap₂, ◌∙◌}
use Prim.Native.Nat.{ℕ, zero, suc, ◌+◌, ◌*◌, ◌/◌, ◌%◌, ◌<◌}
use native.Mathlib.Nat.{mod-lt, not-suc-le-zero, le_of_suc-le-suc, zero-lt-suc}
use native.Mathlib.Omega.{arith}
use lib.Arith.{bin_ind, digits_mod}
use lib.Bits.{bit_xor, differ, xor_step, xor_shr, xor_comm}

-- what holds of 0 and of 1 holds of each digit
pub digit-ind : (P : ℕ → Type 0) → P 0 → P 1 → (x : ℕ) → x < 2 → P x
digit-ind P p q zero h = p
digit-ind P p q (suc zero) h = q
digit-ind P p q (suc (suc n)) h = absurd (not-suc-le-zero (le_of_suc-le-suc (le_of_suc-le-suc h)))

two_pos : 0 < 2
two_pos = zero-lt-suc 1

differ-lt : (x : ℕ) → x < 2 → (y : ℕ) → y < 2 → differ x y < 2
differ-lt = digit-ind (λ x. (y : ℕ) → y < 2 → differ x y < 2) (λ y h. h) (digit-ind (λ y. differ 1 y < 2) (omega arith) (omega arith))

Assoc : ℕ → ℕ → ℕ → Type 0
Assoc x y z = differ (differ x y) z ≡ differ x (differ y z)

differ-assoc : (x : ℕ) → x < 2 → (y : ℕ) → y < 2 → (z : ℕ) → z < 2 → Assoc x y z
unfolding Assoc
differ-assoc =
    digit-ind (λ x. (y : ℕ) → y < 2 → (z : ℕ) → z < 2 → Assoc x y z) (λ y hy z hz. refl)
    (digit-ind (λ y. (z : ℕ) → z < 2 → Assoc 1 y z) (λ z hz. refl) (digit-ind (λ z. Assoc 1 1 z) refl refl))

-- digit by digit: the lowest one, and the others
pub xor-odd : (a b : ℕ) → bit_xor a b % 2 ≡ differ (a % 2) (b % 2)
xor-odd a b =
    ap (λ (x : ℕ). x % 2) (xor_step a b)
    ∙ digits_mod (bit_xor (a / 2) (b / 2)) (differ-lt (a % 2) (mod-lt a two_pos) (b % 2) (mod-lt b two_pos))

pub xor-half : (a b : ℕ) → bit_xor a b / 2 ≡ bit_xor (a / 2) (b / 2)
xor-half a b = xor_shr a b 1

pub xor_assoc : (a b c : ℕ) → bit_xor (bit_xor a b) c ≡ bit_xor a (bit_xor b c)
unfolding Assoc
xor_assoc =
    bin_ind (λ (n : ℕ). (b c : ℕ) → bit_xor (bit_xor n b) c ≡ bit_xor n (bit_xor b c)) (λ b c. refl)
    (λ n ih b c.
    xor_step (bit_xor n b) c
    ∙ ap₂ (λ (x y : ℕ). bit_xor x (c / 2) * 2 + differ y (c % 2)) (xor-half n b) (xor-odd n b)
    ∙ ap₂ (λ (x y : ℕ). x * 2 + y) (ih (b / 2) (c / 2)) (differ-assoc (n % 2) (mod-lt n two_pos) (b % 2) (mod-lt b two_pos) (c % 2) (mod-lt c two_pos))
    ∙ sym (xor_step n (bit_xor b c) ∙ ap₂ (λ (x y : ℕ). bit_xor (n / 2) x * 2 + differ (n % 2) y) (xor-half b c) (xor-odd b c)))

pub xor-left-comm : (a b c : ℕ) → bit_xor a (bit_xor b c) ≡ bit_xor b (bit_xor a c)
xor-left-comm a b c = sym (xor_assoc a b c) ∙ ap (λ (x : ℕ). bit_xor x c) (xor_comm a b) ∙ xor_assoc b a c

pub xor-four : (a b c d : ℕ) → bit_xor (bit_xor a b) (bit_xor c d) ≡ bit_xor (bit_xor a c) (bit_xor b d)
xor-four a b c d = xor_assoc a b (bit_xor c d) ∙ ap (bit_xor a) (xor-left-comm b c d) ∙ sym (xor_assoc a c (bit_xor b d))
