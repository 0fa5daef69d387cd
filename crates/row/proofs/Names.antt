-- The code's constants are right: the number of columns of each table, and the offsets of the names lines in the constant that joins them.
-- Each is computed for the eight tables.
use Prim.Native.Nat.{ℕ, zero, suc, ◌+◌, ◌-◌, ◌≤◌, ◌<◌}
use native.Mathlib.Omega.{arith}
use native.Mathlib.Decide.{dec_lt}
use mathlib.Core.Path.{◌≡◌, refl, sym, ap}
use mathlib.Core.List.{List, [], ◌∷◌}
use lib.ListN.{length, take, drop, get_or, get_or-eq_default}
use Rattle.rfc4180.specs.Write.{special, any_special, field_of, row_of}
use Rattle.row.specs.Columns.{columns, columns_of, column_count, line, names_line}
use Rattle.row.specs.Steps.{lines, all_lines}
use Rattle.row.specs.Claims.{NamesAreARow}
use Rattle.rfc4180.specs.Csv.{max_columns}
use Rattle.base.specs.Table.{last_table}

abbrev pub counts : List ℕ
counts = 3 ∷ 3 ∷ 5 ∷ 8 ∷ 10 ∷ 3 ∷ 2 ∷ 8 ∷ []

abbrev pub starts : List ℕ
starts = 0 ∷ 37 ∷ 65 ∷ 120 ∷ 218 ∷ 306 ∷ 337 ∷ 367 ∷ 473 ∷ []

pub eight-tables : length columns ≡ 8
unfolding columns
eight-tables = refl

columns-past : (t : ℕ) → last_table < t → columns_of t ≡ []
unfolding columns_of
columns-past t h = get_or-eq_default columns [] {n = t} (omega (arith, eight-tables))

pub count_past : (t : ℕ) → last_table < t → 0 ≡ column_count t
count_past t h = sym (ap length (columns-past t h))

-- what holds of 0 to 7 holds below eight
below : (P : ℕ → Type 0) → P 0 → P 1 → P 2 → P 3 → P 4 → P 5 → P 6 → P 7 → (t : ℕ) → t < 8 → P t
below P a b c d e f g i zero h = a
below P a b c d e f g i (suc zero) h = b
below P a b c d e f g i (suc (suc zero)) h = c
below P a b c d e f g i (suc (suc (suc zero))) h = d
below P a b c d e f g i (suc (suc (suc (suc zero)))) h = e
below P a b c d e f g i (suc (suc (suc (suc (suc zero))))) h = f
below P a b c d e f g i (suc (suc (suc (suc (suc (suc zero)))))) h = g
below P a b c d e f g i (suc (suc (suc (suc (suc (suc (suc zero))))))) h = i
below P a b c d e f g i (suc (suc (suc (suc (suc (suc (suc (suc t)))))))) h = absurd (let k : suc (suc (suc (suc (suc (suc (suc (suc t))))))) < 8 = h in omega arith)

pub count-is : (t : ℕ) → t < 8 → get_or counts t 0 ≡ column_count t
unfolding columns_of columns
count-is = below (λ t. get_or counts t 0 ≡ length (get_or columns t [])) refl refl refl refl refl refl refl refl

pub count_most : (t : ℕ) → t ≤ last_table → column_count t ≤ max_columns
unfolding columns_of columns
count_most t h = below (λ t. length (get_or columns t []) ≤ max_columns) (omega arith) (omega arith) (omega arith) (omega arith) (omega arith) (omega arith) (omega arith) (omega arith) t (omega arith)

-- where a table's names line is in the constant
pub record LineAt (t : ℕ) : Type 0 where
  pub rises : get_or starts t 0 ≤ get_or starts (t + 1) 0
  pub inside : get_or starts (t + 1) 0 ≤ length all_lines
  pub is : take (get_or starts (t + 1) 0 - get_or starts t 0) (drop (get_or starts t 0) all_lines) ≡ names_line t

pub line_at : (t : ℕ) → t < 8 → LineAt t
unfolding columns_of columns line lines all_lines
line_at =
    below LineAt
    (record { rises = omega arith; inside = omega arith; is = refl })
    (record { rises = omega arith; inside = omega arith; is = refl })
    (record { rises = omega arith; inside = omega arith; is = refl })
    (record { rises = omega arith; inside = omega arith; is = refl })
    (record { rises = omega arith; inside = omega arith; is = refl })
    (record { rises = omega arith; inside = omega arith; is = refl })
    (record { rises = omega arith; inside = omega arith; is = refl })
    (record { rises = omega arith; inside = omega arith; is = refl })

names-below : (t : ℕ) → t < 8 → names_line t ≡ row_of (columns_of t)
unfolding columns_of columns line special any_special field_of row_of
names-below = below (λ t. line (get_or columns t []) ≡ row_of (get_or columns t [])) refl refl refl refl refl refl refl refl

none : (vs : List (List ℕ)) → vs ≡ [] → line vs ≡ row_of vs
unfolding line row_of
none vs e = rw e

-- no name needs quotes, so a names line is a row
pub names-are-a-row : NamesAreARow
names-are-a-row t = go (dec_lt t 8)
  where
    go : Dec (t < 8) → names_line t ≡ row_of (columns_of t)
    go (yes h) = names-below t h
    go (no h) = none (columns_of t) (columns-past t (omega arith))
