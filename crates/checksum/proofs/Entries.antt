-- The tables are right: each row is computed. Of a list that is made of a function's values from i on, entry k is the value at i + k.
use mathlib.Core.Path.{◌≡◌, refl, sym, ap, ◌∙◌}
use mathlib.Core.List.{List, [], ◌∷◌}
use Prim.Native.Nat.{ℕ, zero, suc, ◌+◌, ◌<◌}
use native.Mathlib.Nat.{add-zero, zero-add, le_of_suc-le-suc}
use native.Mathlib.Omega.{arith}
use lib.ListN.{get_or}
use Rattle.checksum.specs.Register.{step, steps}
use Rattle.checksum.specs.Pending.{packed}
use Rattle.checksum.specs.declared.table.TheConstants.{ENTRIES}
use Rattle.checksum.specs.declared.register.TheConstants.{AFTER_4, AFTER_8}

unfoldable pub made : (ℕ → ℕ) → ℕ → ℕ → List ℕ
made f i zero = []
made f i (suc n) = f i ∷ made f (suc i) n

made-at : (f : ℕ → ℕ) (i n k : ℕ) → k < n → get_or (made f i n) k 0 ≡ f (i + k)
unfolding made
made-at f i zero k h = absurd (omega arith)
made-at f i (suc n) zero h = ap f (sym (add-zero i))
made-at f i (suc n) (suc k) h = made-at f (suc i) n k (le_of_suc-le-suc h) ∙ ap f (omega arith)

entry : (t : List ℕ) (f : ℕ → ℕ) (n k : ℕ) → t ≡ made f 0 n → k < n → get_or t k 0 ≡ f k
entry t f n k e h = ap (λ (l : List ℕ). get_or l k 0) e ∙ made-at f 0 n k h ∙ ap f (zero-add k)

pub after_4 : (n : ℕ) → n < 16 → get_or AFTER_4 n 0 ≡ steps 4 n
unfolding made steps step
after_4 n h = entry AFTER_4 (steps 4) 16 n refl h

pub after_8 : (n : ℕ) → n < 16 → get_or AFTER_8 n 0 ≡ steps 8 n
unfolding made steps step
after_8 n h = entry AFTER_8 (steps 8) 16 n refl h

pub entry_at : (row d : ℕ) → row < 5 → d < 128 → get_or (get_or ENTRIES row []) d 0 ≡ packed row d
unfolding made steps step
entry_at zero d h l = entry (get_or ENTRIES 0 []) (packed 0) 128 d refl l
entry_at (suc zero) d h l = entry (get_or ENTRIES 1 []) (packed 1) 128 d refl l
entry_at (suc (suc zero)) d h l = entry (get_or ENTRIES 2 []) (packed 2) 128 d refl l
entry_at (suc (suc (suc zero))) d h l = entry (get_or ENTRIES 3 []) (packed 3) 128 d refl l
entry_at (suc (suc (suc (suc zero)))) d h l = entry (get_or ENTRIES 4 []) (packed 4) 128 d refl l
entry_at (suc (suc (suc (suc (suc row))))) d h l = absurd (omega arith)
