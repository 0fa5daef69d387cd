-- Digits appended one by one: a turn of the loop in `text::digits` appends the digit at an index, and each exit is a case of `appended`.
use Rattle.std.proofs.Common.{◌≡◌, ℕ, ◌+◌, ◌*◌, ◌<◌, ◌≤◌, List, [], ◌∷◌, length, get_or, drop, refl, add-one, arith, drop_of_length-le, drop-cons, le-ltb, lt-ltb, Some, None}
use Rattle.program.specs.Text.{value_of, most_before, appended, number_of}

pub without : (s : List ℕ) → length s ≡ 0 → None ≡ number_of s
unfolding number_of
without [] e = refl
without (c ∷ s) e = absurd (omega arith)

pub from_zero : (s : List ℕ) → (length s ≡ 0 → ⊥) → number_of s ≡ appended 0 s
unfolding number_of
from_zero [] e = absurd (e refl)
from_zero (c ∷ s) e = refl

module _ (s : List ℕ) (v i d : ℕ) (h : i < length s) (e : d ≡ value_of (get_or s i 0)) where
  pub no_digit : 9 < d → None ≡ appended v (drop i s)
  unfolding appended
  no_digit n = rw (drop-cons s i 0 h, ← e, lt-ltb 9 d n)

  pub too_large : d ≤ 9 → most_before < v → None ≡ appended v (drop i s)
  unfolding appended
  too_large n m = rw (drop-cons s i 0 h, ← e, le-ltb 9 d n, lt-ltb most_before v m)

  pub one_more : d ≤ 9 → v ≤ most_before → appended v (drop i s) ≡ appended (v * 10 + d) (drop (i + 1) s)
  unfolding appended
  one_more n m = rw (add-one, drop-cons s i 0 h, ← e, le-ltb 9 d n, le-ltb most_before v m)

pub all_read : (s : List ℕ) (v i : ℕ) → length s ≤ i → Some v ≡ appended v (drop i s)
unfolding appended
all_read s v i h = rw (drop_of_length-le s {i = i} h)
