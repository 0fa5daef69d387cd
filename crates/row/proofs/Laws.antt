-- The laws that the proofs of this crate cite, in the order of the modules: bytes copied, special bytes, quotes doubled, the row. A loop that
-- copies has stored the first i bytes; one that doubles quotes has the rest left to store, and the output with it stays the same list.
use Prim.Native.Nat.{ℕ, zero, suc, ◌+◌, ◌-◌, ◌*◌, ◌/◌, ◌≤◌, ◌<◌, min}
use native.Mathlib.Omega.{arith}
use native.Mathlib.Decide.{dec_lt}
use native.Mathlib.Numerals.{add-one}
use native.Mathlib.Nat.{add-zero}
use mathlib.Core.Bool.{Bool, true, false, ◌||◌, true≢false, or_assoc, or-false, or-true}
use mathlib.Core.Path.{◌≡◌, refl, sym, ap, ◌∙◌}
use mathlib.Core.List.{List, [], ◌∷◌, ◌++◌, append_assoc}
use lib.Dec.{eqb}
use lib.ListN.{length, take, drop, get_or, set, drop_of_length-le, length-drop, length-append, length-take, take-append-drop}
use lib.Seq.{sets, sets-eq, set-set, drop-cons, drop-drop, take_all, take-add, take-append_seam, length-take-le}
use borrow.Author.Tests.{eq-eqb, ne_eqb, eqb-true, eqb-false}
use Rattle.base.specs.Number.{pick}
use Rattle.rfc4180.specs.Write.{special, any_special, doubled, field_of, delimiter, row_of}
use Rattle.base.proofs.Lists.{next}
use Rattle.rfc4180.proofs.Laws.{sets-append, sets_over}
use Rattle.row.specs.Write.{cut_by}
use Rattle.row.specs.Steps.{has, quoted_of}
use Rattle.rfc4180.specs.Csv.{quote, comma, carriage_return, line_feed}

-- ---- bytes copied

-- the first bytes of an array into which v was stored are v
pub sets-front : (b v : List ℕ) → length v ≤ length b → take (length v) (sets b 0 v) ≡ v
sets-front b v h = ap (take (length v)) (sets-eq v b 0 (omega arith)) ∙ take-append_seam v (drop (0 + length v) b)

-- k more bytes of v after the first i
pub copy_more : (out v : List ℕ) (to i k : ℕ) → i ≤ length v → sets (sets out to (take i v)) (to + i) (take k (drop i v)) ≡ sets out to (take (i + k) v)
copy_more out v to i k h = next out (take i v) (take k (drop i v)) to i (length-take-le i v h) ∙ ap (sets out to) (sym (take-add i k v))

-- the first j bytes of v, and then those from i on: an overlap is stored twice
pub copy-overlap : (out v : List ℕ) (to i j : ℕ) → i ≤ j → j ≤ length v → sets (sets out to (take j v)) (to + i) (drop i v) ≡ sets out to v
copy-overlap out v to i j h g =
    let a = take i v in
    let b = take (j - i) (drop i v) in
    let c = drop i v in
    let m : j ≡ i + (j - i) = omega arith in
    let n : length a ≡ i = length-take-le i v (omega arith) in
    let t : take j v ≡ a ++ b = ap (λ (z : ℕ). take z v) m ∙ take-add i (j - i) v in
    let s : sets out to (take j v) ≡ sets (sets out to a) (to + i) b = ap (sets out to) t ∙ sym (next out a b to i n) in
    let w : sets out to v ≡ sets (sets out to a) (to + i) c = ap (sets out to) (sym (take-append-drop i v)) ∙ sym (next out a c to i n) in
    let l : length b ≤ length c = omega (arith, length-take (j - i) c) in
    ap (λ (o : List ℕ). sets o (to + i) c) s ∙ sets_over (sets out to a) (to + i) b c l ∙ sym w

-- the first, the middle and the last of 1, 2 or 3 bytes are all
pub copy-three : (out v : List ℕ) (to : ℕ) → 0 < length v → length v < 4
    → set (set (set out to (get_or v 0 0)) (to + length v / 2) (get_or v (length v / 2) 0)) (to + (length v - 1)) (get_or v (length v - 1) 0) ≡ sets out to v
copy-three out [] to h g = absurd (omega arith)
copy-three out (a ∷ []) to h g = rw (add-zero to, set-set (set out to a) to a a, set-set out to a a)
copy-three out (a ∷ b ∷ []) to h g = rw (add-one to, set-set)
copy-three out (a ∷ b ∷ d ∷ []) to h g = let n : to + 2 ≡ suc (suc to) = omega arith in rw (n, add-one to)
copy-three out (a ∷ b ∷ d ∷ e ∷ v) to h g = absurd (omega arith)

-- ---- special bytes

or_swap : (a b c d : Bool) → (a || b) || (c || d) ≡ (a || c) || (b || d)
or_swap true b c d = refl
or_swap false true true d = refl
or_swap false true false d = refl
or_swap false false c d = refl

or-none : (a b : Bool) → a || b ≡ false → (a ≡ false) × (b ≡ false)
or-none true b e = absurd (true≢false e)
or-none false b e = (refl, e)

or-twice : (a b c : Bool) → (a || b) || c ≡ (a || b) || (b || c)
or-twice true b c = refl
or-twice false true c = refl
or-twice false false c = refl

module _ (byte : ℕ) (v : List ℕ) (i : ℕ) (found : Bool) (e : has byte v ≡ found || has byte (drop i v)) where
  pub has-turn : i < length v → has byte v ≡ (found || eqb (get_or v i 0) byte) || has byte (drop (i + 1) v)
  unfolding has
  has-turn h = e ∙ rw (add-one i, drop-cons v i 0 h) (sym (or_assoc found (eqb (get_or v i 0) byte) (has byte (drop (suc i) v))))

  pub has_end : length v ≤ i → found ≡ has byte v
  unfolding has
  has_end h = sym (e ∙ rw (drop_of_length-le v h) (or-false found))

or-four : (a A b B c C d D : Bool) → (a || A) || ((b || B) || ((c || C) || (d || D))) ≡ (a || (b || (c || d))) || (A || (B || (C || D)))
or-four a A b B c C d D =
    ap (λ (z : Bool). (a || A) || ((b || B) || z)) (or_swap c C d D) ∙ ap (λ (z : Bool). (a || A) || z) (or_swap b B (c || d) (C || D))
    ∙ or_swap a A (b || (c || d)) (B || (C || D))

-- a byte is special if it is one of four
pub special-is : (v : List ℕ) → has quote v || (has comma v || (has carriage_return v || has line_feed v)) ≡ any_special v
unfolding has any_special special
special-is [] = refl
special-is (b ∷ v) =
    or-four (eqb b quote) (has quote v) (eqb b comma) (has comma v) (eqb b carriage_return) (has carriage_return v) (eqb b line_feed) (has line_feed v)
    ∙ ap (λ (z : Bool). special b || z) (special-is v)

special-append : (v w : List ℕ) → any_special (v ++ w) ≡ any_special v || any_special w
unfolding any_special
special-append [] w = refl
special-append (b ∷ v) w = ap (λ (z : Bool). special b || z) (special-append v w) ∙ sym (or_assoc (special b) (any_special v) (any_special w))

special-split : (n : ℕ) (v : List ℕ) → any_special v ≡ any_special (take n v) || any_special (drop n v)
special-split n v = ap any_special (sym (take-append-drop n v)) ∙ special-append (take n v) (drop n v)

-- the first n bytes of v, and those from m on: an overlap is tested twice
pub special-overlap : (v : List ℕ) (m n : ℕ) → m ≤ n → any_special (take n v) || any_special (drop m v) ≡ any_special v
special-overlap v m n h =
    let k = n - m in
    let e : m + k ≡ n = omega arith in
    let a = any_special (take m v) in
    let b = any_special (take k (drop m v)) in
    let c = any_special (drop n v) in
    let f : any_special (take n v) ≡ a || b = ap (λ (z : ℕ). any_special (take z v)) (sym e) ∙ ap any_special (take-add m k v) ∙ special-append (take m v) (take k (drop m v)) in
    let g : any_special (drop m v) ≡ b || c = special-split k (drop m v) ∙ rw (drop-drop k m v, e) in
    rw (f, g) (sym (special-split n v ∙ rw f (or-twice a b c)))

-- k more bytes after the first i, none special
pub special-more : (v : List ℕ) (i k : ℕ) → any_special (take i v) ≡ false → any_special (take k (drop i v)) ≡ false → any_special (take (i + k) v) ≡ false
special-more v i k e f = ap any_special (take-add i k v) ∙ special-append (take i v) (take k (drop i v)) ∙ rw (e, f)

pub special-inside : (v : List ℕ) (i k : ℕ) → any_special (take k (drop i v)) ≡ true → true ≡ any_special v
special-inside v i k e = sym (special-split i v ∙ rw (special-split k (drop i v), e) (or-true (any_special (take i v))))

-- both parts of bytes that aren't special
pub special-parts : (v : List ℕ) (i : ℕ) → any_special v ≡ false → (any_special (take i v) ≡ false) × (any_special (drop i v) ≡ false)
special-parts v i e = or-none (any_special (take i v)) (any_special (drop i v)) (sym (special-split i v) ∙ e)

pub special-none : (v : List ℕ) → length v ≡ 0 → false ≡ any_special v
unfolding any_special
special-none [] e = refl
special-none (b ∷ v) e = absurd (omega arith)

-- the first, the middle and the last of 1, 2 or 3 bytes are all
pub special-three : (v : List ℕ) → 0 < length v → length v < 4 → any_special (get_or v 0 0 ∷ get_or v (length v / 2) 0 ∷ get_or v (length v - 1) 0 ∷ []) ≡ any_special v
unfolding any_special
special-three [] h g = absurd (omega arith)
special-three (a ∷ []) h g = same (special a)
  where
    same : (q : Bool) → q || (q || (q || false)) ≡ q || false
    same true = refl
    same false = refl
special-three (a ∷ b ∷ []) h g = same (special a) (special b)
  where
    same : (q r : Bool) → q || (r || (r || false)) ≡ q || (r || false)
    same true r = refl
    same false true = refl
    same false false = refl
special-three (a ∷ b ∷ c ∷ []) h g = refl
special-three (a ∷ b ∷ c ∷ d ∷ v) h g = absurd (omega arith)

-- ---- quotes doubled

doubled-split : (n : ℕ) (v : List ℕ) → doubled v ≡ doubled (take n v) ++ doubled (drop n v)
unfolding doubled
doubled-split zero v = refl
doubled-split (suc n) [] = refl
doubled-split (suc n) (b ∷ v) = go (eqb b quote) (doubled-split n v)
  where
    go : (t : Bool) → doubled v ≡ doubled (take n v) ++ doubled (drop n v) → pick t (quote ∷ quote ∷ doubled v) (b ∷ doubled v) ≡ pick t (quote ∷ quote ∷ doubled (take n v)) (b ∷ doubled (take n v)) ++ doubled (drop n v)
    go true e = ap (λ (l : List ℕ). quote ∷ quote ∷ l) e
    go false e = ap (λ (l : List ℕ). b ∷ l) e

-- k bytes from an offset on, and those after them
doubled-part : (v : List ℕ) (i k : ℕ) → doubled (drop i v) ≡ doubled (take k (drop i v)) ++ doubled (drop (i + k) v)
doubled-part v i k = doubled-split k (drop i v) ∙ rw (drop-drop k i v)

pub part_length : (v : List ℕ) (i k : ℕ) → k ≤ length v - i → length (take k (drop i v)) ≡ k
part_length v i k h = omega (arith, length-take k (drop i v), length-drop i v)

pub doubled-quote : (v : List ℕ) (i : ℕ) → i < length v → get_or v i 0 ≡ quote → doubled (drop i v) ≡ quote ∷ get_or v i 0 ∷ doubled (drop (i + 1) v)
unfolding doubled
doubled-quote v i h e = rw (add-one i, drop-cons v i 0 h) (simp (eq-eqb (get_or v i 0) quote e) (rw e))

pub doubled-byte : (v : List ℕ) (i : ℕ) → i < length v → (get_or v i 0 ≡ quote → ⊥) → doubled (drop i v) ≡ get_or v i 0 ∷ doubled (drop (i + 1) v)
unfolding doubled
doubled-byte v i h e = rw (add-one i, drop-cons v i 0 h) (simp (ne_eqb (get_or v i 0) quote e))

pub doubled-out : (v : List ℕ) (i : ℕ) → length v ≤ i → doubled (drop i v) ≡ []
unfolding doubled
doubled-out v i h = rw (drop_of_length-le v h)

pub doubled-less : (v : List ℕ) → length v ≤ length (doubled v)
unfolding doubled
doubled-less [] = omega arith
doubled-less (b ∷ v) = go (eqb b quote) (doubled-less v)
  where
    go : (t : Bool) → length v ≤ length (doubled v) → suc (length v) ≤ length (pick t (quote ∷ quote ∷ doubled v) (b ∷ doubled v))
    go true h = omega arith
    go false h = omega arith

-- bytes without a quote
pub doubled-plain : (v : List ℕ) → has quote v ≡ false → doubled v ≡ v
unfolding doubled has
doubled-plain [] e = refl
doubled-plain (b ∷ v) e = let q = or-none (eqb b quote) (has quote v) e in simp q.0 (ap (λ (l : List ℕ). b ∷ l) (doubled-plain v q.1))

sets-one : (out : List ℕ) (n b : ℕ) (v w : List ℕ) → v ≡ b ∷ w → sets out n v ≡ sets (set out n b) (n + 1) w
sets-one out n b v w e = rw (e, add-one n)

sets-two : (out : List ℕ) (n a b : ℕ) (v w : List ℕ) → v ≡ a ∷ b ∷ w → sets out n v ≡ sets (set (set out n a) (n + 1) b) (n + 1 + 1) w
sets-two out n a b v w e = rw (e, add-one (n + 1), add-one n)

-- how many bytes doubling adds to the byte at i, and what is stored for it: a quote, and the byte after that or over it
module _ (v : List ℕ) (i q : ℕ) (h : i < length v) (z : q ≡ pick (eqb (get_or v i 0) quote) 1 0) where
  pub each-size : length (doubled (drop i v)) ≡ q + 1 + length (doubled (drop (i + 1) v))
  each-size = go (eqb (get_or v i 0) quote) refl z
    where
      go : (t : Bool) → eqb (get_or v i 0) quote ≡ t → q ≡ pick t 1 0 → length (doubled (drop i v)) ≡ q + 1 + length (doubled (drop (i + 1) v))
      go true e y = omega (arith, ap length (doubled-quote v i h (eqb-true (get_or v i 0) quote e)))
      go false e y = omega (arith, ap length (doubled-byte v i h (eqb-false (get_or v i 0) quote e)))

  pub each_turn : (out : List ℕ) (n : ℕ) → sets out (n + i) (doubled (drop i v)) ≡ sets (set (set out (n + i) quote) (n + q + i) (get_or v i 0)) (n + q + (i + 1)) (doubled (drop (i + 1) v))
  each_turn out n = go (eqb (get_or v i 0) quote) refl z
    where
      go : (t : Bool) → eqb (get_or v i 0) quote ≡ t → q ≡ pick t 1 0 → sets out (n + i) (doubled (drop i v)) ≡ sets (set (set out (n + i) quote) (n + q + i) (get_or v i 0)) (n + q + (i + 1)) (doubled (drop (i + 1) v))
      go true e y =
          let a : n + q + i ≡ n + i + 1 = omega arith in
          let b : n + q + (i + 1) ≡ n + i + 1 + 1 = omega arith in
          rw (a, b) (sets-two out (n + i) quote (get_or v i 0) _ _ (doubled-quote v i h (eqb-true (get_or v i 0) quote e)))
      go false e y =
          let a : n + q + i ≡ n + i = omega arith in
          let b : n + q + (i + 1) ≡ n + i + 1 = omega arith in
          rw (a, b, set-set out (n + i) quote (get_or v i 0)) (sets-one out (n + i) (get_or v i 0) _ _ (doubled-byte v i h (eqb-false (get_or v i 0) quote e)))

-- k more bytes without a quote after the first i
pub plain_more : (v : List ℕ) (i k : ℕ) → doubled v ≡ take i v ++ doubled (drop i v) → has quote (take k (drop i v)) ≡ false → doubled v ≡ take (i + k) v ++ doubled (drop (i + k) v)
plain_more v i k e q =
    let d : doubled (drop i v) ≡ take k (drop i v) ++ doubled (drop (i + k) v) = doubled-part v i k ∙ ap (λ (l : List ℕ). l ++ doubled (drop (i + k) v)) (doubled-plain (take k (drop i v)) q) in
    e ∙ ap (λ (l : List ℕ). take i v ++ l) d ∙ sym (append_assoc (take i v) (take k (drop i v)) (doubled (drop (i + k) v)))
    ∙ ap (λ (l : List ℕ). l ++ doubled (drop (i + k) v)) (sym (take-add i k v))

-- the first i bytes are copied and the rest is left
pub plain-left : (v out o : List ℕ) (to i : ℕ) → i ≤ length v → doubled v ≡ take i v ++ doubled (drop i v) → o ≡ sets out to (take i v)
    → (to + i + length (doubled (drop i v)) ≡ to + length (doubled v)) × (sets o (to + i) (doubled (drop i v)) ≡ sets out to (doubled v))
plain-left v out o to i h e f =
    let n : length (take i v) ≡ i = length-take-le i v h in
    (omega (arith, ap length e, length-append (take i v) (doubled (drop i v)), n), rw (f, e) (next out (take i v) (doubled (drop i v)) to i n))

-- k more bytes are stored, quotes doubled, of those left from i on
module _ (v out o : List ℕ) (i k n r : ℕ) (e : r ≡ n + length (doubled (take k (drop i v)))) where
  pub part-size : n + length (doubled (drop i v)) ≡ r + length (doubled (drop (i + k) v))
  part-size = omega (arith, ap length (doubled-part v i k), length-append (doubled (take k (drop i v))) (doubled (drop (i + k) v)))

  pub part-sets : o ≡ sets out n (doubled (take k (drop i v))) → sets out n (doubled (drop i v)) ≡ sets o r (doubled (drop (i + k) v))
  part-sets f = ap (sets out n) (doubled-part v i k) ∙ sets-append out n (doubled (take k (drop i v))) (doubled (drop (i + k) v)) ∙ rw (f, e)

-- quotes counted in k more bytes
pub count_turn : (v : List ℕ) (i k n q : ℕ) → k ≤ length v - i → q + length (take k (drop i v)) ≡ length (doubled (take k (drop i v)))
    → n + length (doubled (drop i v)) ≡ length (doubled v) + (length v - i) → n + q + length (doubled (drop (i + k) v)) ≡ length (doubled v) + (length v - (i + k))
count_turn v i k n q h e f =
    let d = ap length (doubled-part v i k) ∙ length-append (doubled (take k (drop i v))) (doubled (drop (i + k) v)) in
    omega (arith, d, e, f, part_length v i k h)

pub field-quoted : (v : List ℕ) → any_special v ≡ true → field_of v ≡ quoted_of v
unfolding field_of
field-quoted v e = simp e

pub field-same : (v : List ℕ) → any_special v ≡ false → field_of v ≡ v
unfolding field_of
field-same v e = simp e

pub quoted-length : (v : List ℕ) → length (quoted_of v) ≡ length (doubled v) + 2
quoted-length v = simp length-append (omega arith)

pub quoted-sets : (out : List ℕ) (to : ℕ) (v : List ℕ) → sets out to (quoted_of v) ≡ set (sets (set out to quote) (to + 1) (doubled v)) (to + 1 + length (doubled v)) quote
quoted-sets out to v = rw (add-one to) (sets-append (set out to quote) (suc to) (doubled v) (quote ∷ []))

-- ---- the row

pub field-less : (v : List ℕ) → length v ≤ length (field_of v)
unfolding field_of
field-less v = go (any_special v)
  where
    go : (t : Bool) → length v ≤ length (pick t (quoted_of v) v)
    go true = omega (arith, quoted-length v, doubled-less v)
    go false = omega arith

row-length : (v : List ℕ) (vs : List (List ℕ)) → length (row_of (v ∷ vs)) ≡ length (field_of v) + 1 + length (row_of vs)
unfolding row_of
row-length v vs = simp length-append (omega arith)

row-sets : (out : List ℕ) (to : ℕ) (v : List ℕ) (vs : List (List ℕ)) → sets out to (row_of (v ∷ vs)) ≡ sets (set (sets out to (field_of v)) (to + length (field_of v)) (delimiter vs)) (to + length (field_of v) + 1) (row_of vs)
unfolding row_of
row-sets out to v vs = rw (add-one (to + length (field_of v))) (sets-append out to (field_of v) (delimiter vs ∷ row_of vs))

take_min : (n : ℕ) (l : List ℕ) → take (min n (length l)) l ≡ take n l
take_min n l = go (dec_lt n (length l))
  where
    go : Dec (n < length l) → take (min n (length l)) l ≡ take n l
    go (yes h) = let e : min n (length l) ≡ n = omega arith in rw e
    go (no h) = take_all (min n (length l)) l (omega arith) ∙ sym (take_all n l (omega arith))

drop_min : (n : ℕ) (l : List ℕ) → drop (min n (length l)) l ≡ drop n l
drop_min n l = go (dec_lt n (length l))
  where
    go : Dec (n < length l) → drop (min n (length l)) l ≡ drop n l
    go (yes h) = let e : min n (length l) ≡ n = omega arith in rw e
    go (no h) = let a : length l ≤ min n (length l) = omega arith in let b : length l ≤ n = omega arith in drop_of_length-le l a ∙ sym (drop_of_length-le l b)

-- the values left, from length k on: the first has n bytes, at most those that are left
cut-turn : (lengths rest : List ℕ) (k n : ℕ) → k < length lengths → n ≡ min (get_or lengths k 0) (length rest)
    → cut_by (drop k lengths) rest ≡ take n rest ∷ cut_by (drop (k + 1) lengths) (drop n rest)
unfolding cut_by
cut-turn lengths rest k n h e = rw (e, add-one k, drop-cons lengths k 0 h, take_min (get_or lengths k 0) rest, drop_min (get_or lengths k 0) rest)

cut-none : (lengths rest : List ℕ) (k : ℕ) → length lengths ≤ k → cut_by (drop k lengths) rest ≡ []
unfolding cut_by
cut-none lengths rest k h = rw (drop_of_length-le lengths h)

pub cut-delimiter : (lengths rest : List ℕ) (k : ℕ) → k ≤ length lengths → pick (eqb k (length lengths)) line_feed comma ≡ delimiter (cut_by (drop k lengths) rest)
unfolding cut_by
cut-delimiter lengths rest k h = go (dec_lt k (length lengths))
  where
    go : Dec (k < length lengths) → pick (eqb k (length lengths)) line_feed comma ≡ delimiter (cut_by (drop k lengths) rest)
    go (yes i) = rw (ne_eqb k (length lengths) (λ e. omega arith), drop-cons lengths k 0 i)
    go (no i) = let e : k ≡ length lengths = omega arith in let m : length lengths ≤ k = omega arith in rw (eq-eqb k (length lengths) e, drop_of_length-le lengths m)

pub doubled-most : (v : List ℕ) → length (doubled v) ≤ length v + length v
unfolding doubled
doubled-most [] = omega arith
doubled-most (b ∷ v) = go (eqb b quote) (doubled-most v)
  where
    go : (t : Bool) → length (doubled v) ≤ length v + length v → length (pick t (quote ∷ quote ∷ doubled v) (b ∷ doubled v)) ≤ suc (length v) + suc (length v)
    go true h = omega arith
    go false h = omega arith

pub quoted-size : (v : List ℕ) → any_special v ≡ true → length (field_of v) ≡ length (doubled v) + 2
quoted-size v e = ap length (field-quoted v e) ∙ quoted-length v

module _ (lengths rest : List ℕ) (k n : ℕ) (h : k < length lengths) (e : n ≡ min (get_or lengths k 0) (length rest)) where
  pub size-turn : length (row_of (cut_by (drop k lengths) rest)) ≡ length (field_of (take n rest)) + 1 + length (row_of (cut_by (drop (k + 1) lengths) (drop n rest)))
  size-turn = rw (cut-turn lengths rest k n h e) (row-length (take n rest) (cut_by (drop (k + 1) lengths) (drop n rest)))

  pub put-turn : (out : List ℕ) (to : ℕ) → sets out to (row_of (cut_by (drop k lengths) rest)) ≡ sets (set (sets out to (field_of (take n rest))) (to + length (field_of (take n rest))) (delimiter (cut_by (drop (k + 1) lengths) (drop n rest)))) (to + length (field_of (take n rest)) + 1) (row_of (cut_by (drop (k + 1) lengths) (drop n rest)))
  put-turn out to = rw (cut-turn lengths rest k n h e) (row-sets out to (take n rest) (cut_by (drop (k + 1) lengths) (drop n rest)))

pub none-size : (lengths rest : List ℕ) (k : ℕ) → length lengths ≤ k → length (row_of (cut_by (drop k lengths) rest)) ≡ 0
unfolding row_of
none-size lengths rest k h = rw (cut-none lengths rest k h)

pub none-sets : (lengths rest : List ℕ) (k : ℕ) (out : List ℕ) (to : ℕ) → length lengths ≤ k → sets out to (row_of (cut_by (drop k lengths) rest)) ≡ out
unfolding row_of
none-sets lengths rest k out to h = rw (cut-none lengths rest k h)

pub field_bound : (v : List ℕ) → length (field_of v) ≤ length v + length v + 2
unfolding field_of
field_bound v = go (any_special v)
  where
    go : (t : Bool) → length (pick t (quoted_of v) v) ≤ length v + length v + 2
    go true = omega (arith, quoted-length v, doubled-most v)
    go false = omega arith

-- the most that a row can have
pub row-bound : (lengths texts : List ℕ) → length (row_of (cut_by lengths texts)) ≤ length texts + length texts + length lengths * 3
unfolding row_of cut_by
row-bound [] texts = omega arith
row-bound (n ∷ ns) texts =
    omega (arith, row-length (take n texts) (cut_by ns (drop n texts)), field_bound (take n texts), row-bound ns (drop n texts), length-take n texts, length-drop n texts)
