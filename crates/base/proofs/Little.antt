-- Bytes as one number, the first byte the lowest: joined parts, bounds, and eight bytes.
use mathlib.Core.Path.{◌≡◌, sym, ap, ◌∙◌}
use mathlib.Core.List.{List, [], ◌∷◌, ◌++◌}
use Prim.Native.Nat.{ℕ, suc, ◌+◌, ◌*◌, ◌%◌, ◌^◌, ◌<◌, ◌≤◌}
use native.Mathlib.Nat.{mod-lt, mul-suc, mul_assoc, lt_of_lt_of_le, min-le_left}
use native.Mathlib.Omega.{arith}
use lib.Pow.{pow_pos, pow-add, pow_mono}
use lib.ListN.{length, take, drop, length-take}
use lib.Seq.{take-add, length-take-le}
use Rattle.base.specs.Little.{little}

pub little-append : (s t : List ℕ) → little (s ++ t) ≡ little t * 2 ^ (8 * length s) + little s
unfolding little
little-append [] t = omega arith
little-append (b ∷ s) t =
    let i : little (s ++ t) ≡ little t * 2 ^ (8 * length s) + little s = little-append s t in
    let e : little t * 2 ^ (8 * suc (length s)) ≡ little t * 2 ^ (8 * length s) * 256 =
    ap (λ (z : ℕ). little t * 2 ^ z) (mul-suc 8 (length s)) ∙ ap (λ (z : ℕ). little t * z) (pow-add 2 (8 * length s) 8) ∙ sym (mul_assoc (little t) (2 ^ (8 * length s)) 256)
    in omega arith

-- two parts, one after the other
pub little-two : (n m : ℕ) (s : List ℕ) → n ≤ length s → little (take (n + m) s) ≡ little (take m (drop n s)) * 2 ^ (8 * n) + little (take n s)
little-two n m s h =
    ap little (take-add n m s) ∙ little-append (take n s) (take m (drop n s))
    ∙ ap (λ (k : ℕ). little (take m (drop n s)) * 2 ^ (8 * k) + little (take n s)) (length-take-le n s h)

pub little-lt : (s : List ℕ) → little s < 2 ^ (8 * length s)
unfolding little
little-lt [] = omega arith
little-lt (b ∷ s) =
    let i : little s < 2 ^ (8 * length s) = little-lt s in
    let e : 2 ^ (8 * suc (length s)) ≡ 2 ^ (8 * length s) * 256 = ap (λ (z : ℕ). 2 ^ z) (mul-suc 8 (length s)) ∙ pow-add 2 (8 * length s) 8 in
    let l : b % 256 < 256 = mod-lt b (pow_pos 8) in
    omega arith

pub part-lt : (n : ℕ) (s : List ℕ) → little (take n s) < 2 ^ (8 * n)
part-lt n s =
    lt_of_lt_of_le (little-lt (take n s))
    (pow_mono {i = 8 * length (take n s)} {j = 8 * n} (omega (arith, length-take n s, min-le_left n (length s))))
