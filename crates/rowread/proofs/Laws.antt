-- What a turn of each scanning loop does to what is left to read: the size so far and that of the rest add up to the reader's. By cases on
-- the byte: text, quote, comma, CR, LF.
use Prim.Native.Nat.{ℕ, zero, suc, ◌+◌, ◌-◌, ◌≤◌, ◌<◌}
use native.Mathlib.Omega.{arith}
use native.Mathlib.Decide.{dec_lt}
use native.Mathlib.Numerals.{add-one}
use native.Mathlib.Nat.{add-zero}
use mathlib.Core.Bool.{Bool, true, false}
use mathlib.Core.Path.{◌≡◌, refl, sym, ap, ◌∙◌}
use mathlib.Core.List.{List, [], ◌∷◌, ◌++◌}
use lib.ListN.{length, take, drop, get_or, drop_of_length-le, length-drop, length-append, get_or-eq_default}
use lib.Seq.{drop-cons, get_or-drop, drop-drop, take_at}
use borrow.Author.Tests.{eq-eqb, ne_eqb}
use Rattle.base.specs.Number.{pick}
use Rattle.rfc4180.specs.Csv.{is_text, RowEnd, quote, comma, carriage_return, line_feed}
use Rattle.rfc4180.specs.Read.{Got, got, bad, push, plain_value, plain_rest, inner, closing, field_at, Row, row, malformed, front, row_end, ended, parted, values}
use Rattle.rfc4180.proofs.Grammar.{end-sound, end-size}
use Rattle.rfc4180.proofs.Offsets.{field-offset}
use Rattle.std.proofs.Common.{None}
use Rattle.std.proofs.Common.{None}
use Rattle.rowread.specs.Stored.{joined}
use Rattle.rowread.proofs.Spans.{span-parts}
use Rattle.rowread.specs.Steps.{spanned, piece_of, scan_from, scan_of}

-- ---- a value without quotes

pub plain_out : (t : List ℕ) (i : ℕ) → length t ≤ i → i ≡ i + length (plain_value (drop i t))
unfolding plain_value
plain_out t i h = rw (drop_of_length-le t h) (omega arith)

pub plain-stop : (t : List ℕ) (i : ℕ) → i < length t → is_text (get_or t i 0) ≡ false → i ≡ i + length (plain_value (drop i t))
unfolding plain_value
plain-stop t i h e = rw (drop-cons t i 0 h) (simp e (omega arith))

pub plain_turn : (t : List ℕ) (i : ℕ) → i < length t → is_text (get_or t i 0) ≡ true → i + length (plain_value (drop i t)) ≡ i + 1 + length (plain_value (drop (i + 1) t))
unfolding plain_value
plain_turn t i h e = rw (add-one i, drop-cons t i 0 h) (simp e (omega arith))

-- ---- a quoted value

closing-yes : (bs : List ℕ) → get_or bs 0 0 ≡ quote → closing bs ≡ push quote (inner (drop 1 bs))
unfolding closing
closing-yes [] h = absurd (omega arith)
closing-yes (b ∷ bs) h = simp (eq-eqb b quote h)

closing-no : (bs : List ℕ) → (get_or bs 0 0 ≡ quote → ⊥) → closing bs ≡ got [] bs
unfolding closing
closing-no [] h = refl
closing-no (b ∷ bs) h = simp (ne_eqb b quote h)

first : (t : List ℕ) (i : ℕ) → get_or (drop i t) 0 0 ≡ get_or t i 0
first t i = rw (get_or-drop i t 0 0, add-zero i)

pub inner_out : (t : List ℕ) (i : ℕ) → length t ≤ i → inner (drop i t) ≡ bad
unfolding inner
inner_out t i h = rw (drop_of_length-le t h)

pub inner-byte : (t : List ℕ) (i : ℕ) → i < length t → (get_or t i 0 ≡ quote → ⊥) → inner (drop i t) ≡ push (get_or t i 0) (inner (drop (i + 1) t))
unfolding inner
inner-byte t i h e = rw (add-one i, drop-cons t i 0 h) (simp (ne_eqb (get_or t i 0) quote e))

pub inner-quote : (t : List ℕ) (i : ℕ) → i < length t → get_or t i 0 ≡ quote → inner (drop i t) ≡ closing (drop (i + 1) t)
unfolding inner
inner-quote t i h e = rw (add-one i, drop-cons t i 0 h) (simp (eq-eqb (get_or t i 0) quote e))

pub inner-twice : (t : List ℕ) (i : ℕ) → i < length t → get_or t i 0 ≡ quote → get_or t (i + 1) 0 ≡ quote → inner (drop i t) ≡ push quote (inner (drop (i + 1 + 1) t))
inner-twice t i h e k = inner-quote t i h e ∙ closing-yes (drop (i + 1) t) (first t (i + 1) ∙ k) ∙ rw (drop-drop 1 (i + 1) t)

pub inner-close : (t : List ℕ) (i : ℕ) → i < length t → get_or t i 0 ≡ quote → (get_or t (i + 1) 0 ≡ quote → ⊥) → inner (drop i t) ≡ got [] (drop (i + 1) t)
inner-close t i h e k = inner-quote t i h e ∙ closing-no (drop (i + 1) t) (λ q. k (sym (first t (i + 1)) ∙ q))

pub past : (t : List ℕ) (i b : ℕ) → get_or t i 0 ≡ suc b → i < length t
past t i b e = go (dec_lt i (length t))
  where
    go : Dec (i < length t) → i < length t
    go (yes h) = h
    go (no h) = absurd (let z : get_or t i 0 ≡ 0 = get_or-eq_default t 0 {n = i} (omega arith) in omega arith)

-- ---- a row end

second : (t : List ℕ) (i : ℕ) → get_or (drop i t) 1 0 ≡ get_or t (i + 1) 0
second t i = get_or-drop i t 1 0

pub end-lf : (t : List ℕ) (i : ℕ) → get_or t i 0 ≡ line_feed → 1 ≡ row_end (drop i t)
unfolding row_end
end-lf t i e = rw (first t i) (simp (eq-eqb (get_or t i 0) line_feed e))

pub end-crlf : (t : List ℕ) (i : ℕ) → get_or t i 0 ≡ carriage_return → get_or t (i + 1) 0 ≡ line_feed → 2 ≡ row_end (drop i t)
unfolding row_end
end-crlf t i e f = rw (first t i, second t i, e, f)

pub end-no : (t : List ℕ) (i : ℕ) → (get_or t i 0 ≡ line_feed → ⊥) → (get_or t i 0 ≡ carriage_return → ⊥) → 0 ≡ row_end (drop i t)
unfolding row_end
end-no t i e f = rw (first t i) (simp (ne_eqb (get_or t i 0) line_feed e, ne_eqb (get_or t i 0) carriage_return f))

pub end-lone : (t : List ℕ) (i : ℕ) → get_or t i 0 ≡ carriage_return → (get_or t (i + 1) 0 ≡ line_feed → ⊥) → 0 ≡ row_end (drop i t)
unfolding row_end
end-lone t i e f = rw (first t i, second t i, e, ne_eqb (get_or t (i + 1) 0) line_feed f)

-- the row end of the grammar, and it is inside
module _ (t : List ℕ) (i : ℕ) {e : ℕ} (q : e ≡ row_end (drop i t)) (h : e ≡ 0 → ⊥) where
  pub end_row : RowEnd (drop i t) (drop (i + e) t)
  end_row =
      let d : drop (row_end (drop i t)) (drop i t) ≡ drop (i + e) t = drop-drop (row_end (drop i t)) i t ∙ rw (← q) in
      rw d at (end-sound (drop i t) (λ z. h (q ∙ z)))

  pub end_fits : i + e ≤ length t
  end_fits = omega (arith, q, h, end-size (drop i t), length-drop i t)

-- ---- a field

plain-all : (bs : List ℕ) → plain_value bs ++ plain_rest bs ≡ bs
unfolding plain_value plain_rest
plain-all [] = refl
plain-all (b ∷ bs) = go (is_text b) (plain-all bs)
  where
    go : (q : Bool) → plain_value bs ++ plain_rest bs ≡ bs → pick q (b ∷ plain_value bs) [] ++ pick q (plain_rest bs) (b ∷ bs) ≡ b ∷ bs
    go true e = ap (λ (l : List ℕ). b ∷ l) e
    go false e = refl

pub plain_size : (t : List ℕ) (i : ℕ) → length (plain_value (drop i t)) + length (plain_rest (drop i t)) ≡ length t - i
plain_size t i = sym (length-append (plain_value (drop i t)) (plain_rest (drop i t))) ∙ ap length (plain-all (drop i t)) ∙ length-drop i t

-- its bytes are a part of t
pub plain-part : (t : List ℕ) (from e : ℕ) → e ≡ from + length (plain_value (drop from t)) → take (e - from) (drop from t) ≡ plain_value (drop from t)
plain-part t from e h =
    let z : e - from ≡ length (plain_value (drop from t)) = omega (arith, h) in
    rw z (rw (plain-all (drop from t)) at (take_at (plain_value (drop from t)) (plain_rest (drop from t)) (length (plain_value (drop from t))) refl))

field-not : (bs : List ℕ) → (get_or bs 0 0 ≡ quote → ⊥) → field_at bs ≡ got (plain_value bs) (plain_rest bs)
unfolding field_at plain_value plain_rest
field-not [] h = refl
field-not (b ∷ bs) h = simp (ne_eqb b quote h)

pub field-quote : (t : List ℕ) (i : ℕ) → get_or t i 0 ≡ quote → field_at (drop i t) ≡ inner (drop (i + 1) t)
unfolding field_at
field-quote t i e = rw (add-one i, drop-cons t i 0 (past t i 33 e)) (simp (eq-eqb (get_or t i 0) quote e))

pub field_plain : (t : List ℕ) (i : ℕ) → (get_or t i 0 ≡ quote → ⊥) → field_at (drop i t) ≡ got (plain_value (drop i t)) (plain_rest (drop i t))
field_plain t i e = field-not (drop i t) (λ q. e (sym (first t i) ∙ q))

pub plain-piece : (t : List ℕ) (i e : ℕ) → i ≤ length t → (get_or t i 0 ≡ quote → ⊥) → e ≡ i + length (plain_value (drop i t)) → spanned e (e - i) ≡ piece_of (length t) (field_at (drop i t))
plain-piece t i e l h q =
    let d = plain_size t i in
    let a : length t - length (plain_rest (drop i t)) ≡ e = omega arith in
    let b : length (plain_value (drop i t)) ≡ e - i = omega arith in
    rw (field_plain t i h, a, b)

-- ---- a row

-- what a piece says of the value
pub record IsValue (t : List ℕ) (from to size : ℕ) : Type 0 where
  pub value : List ℕ
  pub read : field_at (drop from t) ≡ got value (drop to t)
  pub sized : length value ≡ size
  pub grows : from + size ≤ to
  pub inside : to ≤ length t

pub is-value : (t : List ℕ) (from to size : ℕ) → from ≤ length t → spanned to size ≡ piece_of (length t) (field_at (drop from t)) → IsValue t from to size
is-value t from to size h e = go (field_at (drop from t)) refl e
  where
    go : (g : Got) → field_at (drop from t) ≡ g → spanned to size ≡ piece_of (length t) g → IsValue t from to size
    go bad q p = absurd (let z : ◌≡◌ {A = ℕ} 0 1 = cc in omega arith)
    go (got v r) q p =
        let w = field-offset t from v r h q in
        let d = span-parts to size (length t - length r) (length v) p in
        let a = d.0 in
        let b = sym d.1 in
        record { value = v; read = rw a (q ∙ ap (got v) w.0); sized = b; grows = omega (arith, w.1); inside = omega (arith, w.2) }

pub is-bad : (t : List ℕ) (from : ℕ) → None ≡ piece_of (length t) (field_at (drop from t)) → field_at (drop from t) ≡ bad
is-bad t from e = go (field_at (drop from t)) e
  where
    go : (g : Got) → None ≡ piece_of (length t) g → g ≡ bad
    go bad p = refl
    go (got v r) p = absurd (let z : ◌≡◌ {A = ℕ} 0 1 = cc in omega arith)

values-bad : (n : ℕ) (bs : List ℕ) → field_at bs ≡ bad → values (suc n) bs ≡ malformed
unfolding values
values-bad zero bs e = simp e
values-bad (suc n) bs e = simp e

scan-front : (L s : ℕ) (v : List ℕ) (g : Row) → scan_from L s (front v g) ≡ scan_from L (s + length v) g
unfolding joined
scan-front L s v malformed = refl
scan-front L s v (row vs r) =
    let e : s + length (v ++ joined vs) ≡ s + length v + length (joined vs) = simp length-append (omega arith) in
    rw e

parted-yes : (t : List ℕ) (n to : ℕ) (v : List ℕ) → get_or t to 0 ≡ comma → parted (values n) v (drop to t) ≡ front v (values n (drop (to + 1) t))
unfolding parted
parted-yes t n to v e = rw (add-one to, drop-cons t to 0 (past t to 43 e)) (simp (eq-eqb (get_or t to 0) comma e))

parted-no : (n : ℕ) (v bs : List ℕ) → (get_or bs 0 0 ≡ comma → ⊥) → parted (values n) v bs ≡ malformed
unfolding parted
parted-no n v [] e = refl
parted-no n v (b ∷ bs) e = simp (ne_eqb b comma e)

-- at the start, and a row of no values
pub scan-start : (width : ℕ) (t : List ℕ) → scan_of width t ≡ scan_from (length t) 0 (values width (drop 0 t))
unfolding scan_of
scan-start width t = refl

pub scan-zero : (n s : ℕ) (bs : List ℕ) → scan_from n s (values 0 bs) ≡ None
unfolding values
scan-zero n s bs = refl

-- m values are left to read, at least two
module _ (t : List ℕ) (s from m n : ℕ) (left : m ≡ suc (suc n)) where
  pub scan-turn : {to size : ℕ} → IsValue t from to size → get_or t to 0 ≡ comma
      → scan_from (length t) s (values m (drop from t)) ≡ scan_from (length t) (s + size) (values (suc n) (drop (to + 1) t))
  unfolding values
  scan-turn {to} {size} p e =
      rw left (simp p.read (rw (parted-yes t (suc n) to p.value e) (scan-front (length t) s p.value (values (suc n) (drop (to + 1) t)) ∙ rw p.sized)))

  pub scan-no-comma : {to size : ℕ} → IsValue t from to size → (get_or t to 0 ≡ comma → ⊥) → None ≡ scan_from (length t) s (values m (drop from t))
  unfolding values
  scan-no-comma {to} {size} p e = rw left (simp p.read (rw (parted-no (suc n) p.value (drop to t) (λ q. e (sym (first t to) ∙ q)))))

pub scan-bad : (t : List ℕ) (s from m n : ℕ) → m ≡ suc n → field_at (drop from t) ≡ bad → None ≡ scan_from (length t) s (values m (drop from t))
scan-bad t s from m n left e = rw (left, values-bad n (drop from t) e)

-- one value is left to read
module _ (t : List ℕ) (s from to size : ℕ) (p : IsValue t from to size) where
  pub scan-last : (e : ℕ) → e ≡ row_end (drop to t) → (e ≡ 0 → ⊥) → spanned (to + e) (s + size) ≡ scan_from (length t) s (values 1 (drop from t))
  unfolding values ended joined
  scan-last e q h =
      let n : row_end (drop to t) ≡ 0 → ⊥ = λ z. h (q ∙ z) in
      let i : to + e ≤ length t = end_fits t to q h in
      let d : drop (row_end (drop to t)) (drop to t) ≡ drop (to + e) t = drop-drop (row_end (drop to t)) to t ∙ rw (← q) in
      let m : length t - length (drop (to + e) t) ≡ to + e = rw (length-drop (to + e) t) (omega arith) in
      let z : s + length (p.value ++ []) ≡ s + size = simp length-append (omega (arith, p.sized)) in
      simp p.read (rw (ne_eqb (row_end (drop to t)) 0 n, d, m, z))

  pub scan-no-end : row_end (drop to t) ≡ 0 → None ≡ scan_from (length t) s (values 1 (drop from t))
  unfolding values ended
  scan-no-end h = simp p.read (rw (eq-eqb (row_end (drop to t)) 0 h))
