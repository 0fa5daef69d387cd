-- Rows without quotes: what a turn of their loops does to what is left, and why the result is a row of the grammar. The bytes before the
-- first quote, CR or LF are plain values with commas between them: with a row end after them they are a row.
use Prim.Native.Nat.{ℕ, suc, ◌+◌, ◌-◌, ◌≤◌, ◌<◌}
use native.Mathlib.Omega.{arith}
use native.Mathlib.Numerals.{add-one}
use native.Mathlib.Nat.{add-zero}
use mathlib.Core.Bool.{Bool, true, false, not, ◌||◌}
use mathlib.Core.Path.{◌≡◌, refl, sym, ap, ◌∙◌}
use mathlib.Core.List.{List, [], ◌∷◌, ◌++◌, append-nil}
use lib.Dec.{eqb}
use lib.ListN.{length, take, drop, get_or, set}
use lib.Seq.{sets, drop-cons}
use borrow.Author.Tests.{eqb-true}
use Rattle.base.specs.Number.{pick}
use Rattle.rfc4180.specs.Csv.{is_text, NonEscaped, none, text, Field, non_escaped, Record, last, more, quote, comma, carriage_return, line_feed}
use Rattle.rfc4180.proofs.Laws.{sets-append}
use Rattle.rowread.specs.Stored.{joined, ends_of}
use Rattle.rowread.specs.Steps.{is_line_stop, line_of, commas_in, text_in, cuts_in, marks_in, any_line_stop, Holds}
use Rattle.rfc4180.specs.Read.{row_end}
use Rattle.rowread.proofs.Laws.{end_row, end_fits}

-- ---- the bytes before the first quote, CR or LF

pub line-stop : (t : List ℕ) (i : ℕ) → i < length t → is_line_stop (get_or t i 0) ≡ true → i ≡ i + length (line_of (drop i t))
unfolding line_of
line-stop t i h e = rw (drop-cons t i 0 h) (simp e (omega arith))

pub line-turn : (t : List ℕ) (i : ℕ) → i < length t → is_line_stop (get_or t i 0) ≡ false → i + length (line_of (drop i t)) ≡ i + 1 + length (line_of (drop (i + 1) t))
unfolding line_of
line-turn t i h e = rw (add-one i, drop-cons t i 0 h) (simp e (omega arith))

pub neither : (a b : Bool) → (a || b) ≡ false → (a ≡ false) × (b ≡ false)
neither true b e = absurd (let z : ◌≡◌ {A = ℕ} 0 1 = cc in omega arith)
neither false b e = (refl, e)

pub line-size : (t : List ℕ) → length (line_of t) ≤ length t
unfolding line_of
line-size [] = omega arith
line-size (b ∷ t) = go (is_line_stop b) (line-size t)
  where
    go : (q : Bool) → length (line_of t) ≤ length t → length (pick q [] (b ∷ line_of t)) ≤ suc (length t)
    go true e = omega arith
    go false e = omega (arith, e)

-- ---- commas, and the text between them

pub cuts-size : (n : ℕ) (v : List ℕ) → length (cuts_in n v) ≡ commas_in v
unfolding cuts_in commas_in
cuts-size n [] = refl
cuts-size n (b ∷ v) = go (eqb b comma) (cuts-size n v) (cuts-size (n + 1) v)
  where
    go : (q : Bool) → length (cuts_in n v) ≡ commas_in v → length (cuts_in (n + 1) v) ≡ commas_in v → length (pick q (n ∷ cuts_in n v) (cuts_in (n + 1) v)) ≡ pick q 1 0 + commas_in v
    go true e f = omega (arith, e)
    go false e f = omega (arith, f)

-- each byte is a comma or text
pub text-size : (v : List ℕ) → length (text_in v) + commas_in v ≡ length v
unfolding text_in commas_in
text-size [] = refl
text-size (b ∷ v) = go (eqb b comma) (text-size v)
  where
    go : (q : Bool) → length (text_in v) + commas_in v ≡ length v → length (pick q (text_in v) (b ∷ text_in v)) + (pick q 1 0 + commas_in v) ≡ suc (length v)
    go true e = omega (arith, e)
    go false e = omega (arith, e)

-- the last end after the others
pub marks-last : (ends v : List ℕ) (k n : ℕ) → k ≡ length v - n → n ≡ length (text_in v) → set (sets ends 0 (cuts_in 0 v)) k n ≡ sets ends 0 (marks_in 0 v)
marks-last ends v k n e f =
    let z : 0 + length (cuts_in 0 v) ≡ k = omega (arith, e, f, cuts-size 0 v, text-size v) in
    let y : 0 + length (text_in v) ≡ n = omega (arith, f) in
    rw (sets-append ends 0 (cuts_in 0 v) ((0 + length (text_in v)) ∷ []), z, y)

-- ---- the values

unfoldable first_in : List ℕ → List ℕ
first_in [] = []
first_in (b ∷ v) = pick (eqb b comma) [] (b ∷ first_in v)

unfoldable others_in : List ℕ → List (List ℕ)
others_in [] = []
others_in (b ∷ v) = pick (eqb b comma) (first_in v ∷ others_in v) (others_in v)

abbrev values_in : List ℕ → List (List ℕ)
values_in v = first_in v ∷ others_in v

joined_in : (v : List ℕ) → first_in v ++ joined (others_in v) ≡ text_in v
unfolding first_in others_in text_in joined
joined_in [] = refl
joined_in (b ∷ v) = go (eqb b comma) (joined_in v)
  where
    go : (q : Bool) → first_in v ++ joined (others_in v) ≡ text_in v → pick q [] (b ∷ first_in v) ++ joined (pick q (first_in v ∷ others_in v) (others_in v)) ≡ pick q (text_in v) (b ∷ text_in v)
    go true e = e
    go false e = ap (λ (l : List ℕ). b ∷ l) e

ends-in : (n : ℕ) (v : List ℕ) → (n + length (first_in v)) ∷ ends_of (n + length (first_in v)) (others_in v) ≡ marks_in n v
unfolding first_in others_in cuts_in text_in ends_of
ends-in n [] = refl
ends-in n (b ∷ v) = go (eqb b comma) (ends-in n v) (ends-in (n + 1) v)
  where
    go : (q : Bool) → (n + length (first_in v)) ∷ ends_of (n + length (first_in v)) (others_in v) ≡ marks_in n v
        → (n + 1 + length (first_in v)) ∷ ends_of (n + 1 + length (first_in v)) (others_in v) ≡ marks_in (n + 1) v
        → (n + length (pick q [] (b ∷ first_in v))) ∷ ends_of (n + length (pick q [] (b ∷ first_in v))) (pick q (first_in v ∷ others_in v) (others_in v))
        ≡ pick q (n ∷ cuts_in n v) (cuts_in (n + 1) v) ++ ((n + length (pick q (text_in v) (b ∷ text_in v))) ∷ [])
    go true e f = rw (add-zero n) (ap (λ (l : List ℕ). n ∷ l) e)
    go false e f =
        let z : n + suc (length (first_in v)) ≡ n + 1 + length (first_in v) = omega arith in
        let y : n + suc (length (text_in v)) ≡ n + 1 + length (text_in v) = omega arith in
        rw (z, y) f

many-in : (v : List ℕ) → length (others_in v) ≡ commas_in v
unfolding others_in commas_in
many-in [] = refl
many-in (b ∷ v) = go (eqb b comma) (many-in v)
  where
    go : (q : Bool) → length (others_in v) ≡ commas_in v → length (pick q (first_in v ∷ others_in v) (others_in v)) ≡ pick q 1 0 + commas_in v
    go true e = omega (arith, e)
    go false e = omega (arith, e)

-- ---- the row

-- v is followed by c, which is a comma or starts a row end: its first field, and the row once that is a field
record Begun (v : List ℕ) (c : ℕ) (r : List ℕ) (ws : List (List ℕ)) (s : List ℕ) : Type 0 where
  rest : List ℕ
  head : NonEscaped (v ++ (c ∷ r)) (first_in v) rest
  whole : {bs f : List ℕ} → Field bs f rest → Record bs (f ∷ (others_in v ++ ws)) s

text_of : (b : ℕ) → is_line_stop b ≡ false → eqb b comma ≡ false → is_text b ≡ true
unfolding is_line_stop is_text
text_of b s c = go (eqb b quote) (eqb b carriage_return || eqb b line_feed) s
  where
    go : (p q : Bool) → (p || q) ≡ false → not (p || (eqb b comma || q)) ≡ true
    go true q e = absurd (let z : ◌≡◌ {A = ℕ} 0 1 = cc in omega arith)
    go false true e = absurd (let z : ◌≡◌ {A = ℕ} 0 1 = cc in omega arith)
    go false false e = simp c

-- after v: a row of its last value and ws, once that value is a field
module _ (c : ℕ) (r : List ℕ) (ws : List (List ℕ)) (s : List ℕ) (following : (bs f : List ℕ) → Field bs f (c ∷ r) → Record bs (f ∷ ws) s) where
  begun : (v : List ℕ) → any_line_stop v ≡ false → Begun v c r ws s
  unfolding any_line_stop first_in others_in
  begun [] e = record { rest = c ∷ r; head = none; whole = λ {bs} {f} h. following bs f h }
  begun (b ∷ v) e = go (eqb b comma) refl (begun v (neither (is_line_stop b) (any_line_stop v) e).1)
    where
      go : (q : Bool) → eqb b comma ≡ q → Begun v c r ws s → Begun (b ∷ v) c r ws s
      go true d w =
          let k : b ≡ comma = eqb-true b comma d in
          rw k (record { rest = comma ∷ (v ++ (c ∷ r)); head = none; whole = λ f. more f (w.whole (non_escaped w.head)) })
      go false d w =
          let n : is_text b ≡ true = text_of b (neither (is_line_stop b) (any_line_stop v) e).0 d in
          let h : NonEscaped (b ∷ (v ++ (c ∷ r))) (b ∷ first_in v) w.rest = text n w.head in
          record { rest = w.rest; head = rw d h; whole = rw d w.whole }

  plain_row : (v : List ℕ) → any_line_stop v ≡ false → Record (v ++ (c ∷ r)) (values_in v ++ ws) s
  plain_row v e = let b = begun v e in b.whole (non_escaped b.head)

pub line_clean : (t : List ℕ) → any_line_stop (line_of t) ≡ false
unfolding any_line_stop line_of
line_clean [] = refl
line_clean (b ∷ t) = go (is_line_stop b) refl (line_clean t)
  where
    go : (q : Bool) → is_line_stop b ≡ q → any_line_stop (line_of t) ≡ false → any_line_stop (pick q [] (b ∷ line_of t)) ≡ false
    go true s e = refl
    go false s e = rw s e

line-all : (t : List ℕ) → line_of t ++ drop (length (line_of t)) t ≡ t
unfolding line_of
line-all [] = refl
line-all (b ∷ t) = go (is_line_stop b) (line-all t)
  where
    go : (q : Bool) → line_of t ++ drop (length (line_of t)) t ≡ t → pick q [] (b ∷ line_of t) ++ drop (length (pick q [] (b ∷ line_of t))) (b ∷ t) ≡ b ∷ t
    go true e = refl
    go false e = ap (λ (l : List ℕ). b ∷ l) e

pub line-take : (t : List ℕ) → take (length (line_of t)) t ≡ line_of t
unfolding line_of
line-take [] = refl
line-take (b ∷ t) = go (is_line_stop b) (line-take t)
  where
    go : (q : Bool) → take (length (line_of t)) t ≡ line_of t → take (length (pick q [] (b ∷ line_of t))) (b ∷ t) ≡ pick q [] (b ∷ line_of t)
    go true e = refl
    go false e = ap (λ (l : List ℕ). b ∷ l) e

-- ---- a row without quotes

pub line-holds : (t : List ℕ) (e z n width : ℕ) (out ends o s : List ℕ) → e ≡ length (line_of t) → z ≡ row_end (drop e t) → (z ≡ 0 → ⊥) → n ≡ commas_in (take e t) → n + 1 ≡ width
    → e - n ≤ length out → width ≤ length ends → o ≡ sets out 0 (text_in (take e t)) → s ≡ sets ends 0 (marks_in 0 (take e t)) → Holds t 0 0 0 width out ends o s (e + z) (e - n)
unfolding joined ends_of
line-holds t e z n width out ends o s p q h c w l m x y =
    let v = line_of t in
    let f : take e t ≡ v = ap (λ (x : ℕ). take x t) p ∙ line-take t in
    let u = end_row t e q h in
    let i : e + z ≤ length t = end_fits t e q h in
    let j : e < length t = omega (arith, i) in
    let d : drop e t ≡ get_or t e 0 ∷ drop (suc e) t = drop-cons t e 0 j in
    let a : v ++ (get_or t e 0 ∷ drop (suc e) t) ≡ t = rw (← d, p) (line-all t) in
    let r : Record t (values_in v ++ []) (drop (e + z) t) = rw a at (plain_row (get_or t e 0) (drop (suc e) t) [] (drop (e + z) t) (λ bs g f. last f (rw d at u)) v (line_clean t)) in
    let k : n ≡ commas_in v = c ∙ rw f in
    record {
      values = values_in v;
      read = rw append-nil at r;
      many = omega (arith, many-in v, k, w);
      sized = omega (arith, ap length (joined_in v), text-size v, k, p);
      inside = omega arith;
      fits = l;
      slots = m;
      bytes = x ∙ rw (f, joined_in v);
      marks = y ∙ rw (f, ends-in 0 v);
    }

-- ---- the values one after the other

-- w starts with a value that ends at c, and a comma
pub record FirstCut (w : List ℕ) (to c : ℕ) (cs : List ℕ) : Type 0 where
  pub after : to ≤ c
  pub inside : c - to < length w
  pub bytes : text_in w ≡ take (c - to) w ++ text_in (drop (c - to + 1) w)
  pub others : cs ≡ cuts_in c (drop (c - to + 1) w)

pub first-cut : (w : List ℕ) (to c : ℕ) (cs : List ℕ) → cuts_in to w ≡ c ∷ cs → FirstCut w to c cs
unfolding cuts_in text_in
first-cut [] to c cs e = absurd (let z : 0 ≡ suc (length cs) = ap length e in omega (arith, z))
first-cut (b ∷ w) to c cs e = go (eqb b comma) refl e (first-cut w (to + 1) c cs)
  where
    go : (q : Bool) → eqb b comma ≡ q → pick q (to ∷ cuts_in to w) (cuts_in (to + 1) w) ≡ c ∷ cs → (cuts_in (to + 1) w ≡ c ∷ cs → FirstCut w (to + 1) c cs) → FirstCut (b ∷ w) to c cs
    go true d e f =
        let h : to ≡ c = ap (λ (l : List ℕ). get_or l 0 0) e in
        let z : c - to ≡ 0 = omega (arith, h) in
        let y : c - to + 1 ≡ 1 = omega (arith, h) in
        record { after = omega (arith, h); inside = omega (arith, z); bytes = rw (y, z) (simp d); others = rw (y, ← h) (sym (ap (drop 1) e)) }
    go false d e f =
        let g = f e in
        let k = c - (to + 1) in
        let z : c - to ≡ suc k = omega (arith, g.after) in
        let y : c - to + 1 ≡ suc (k + 1) = omega (arith, g.after) in
        record {
          after = omega (arith, g.after);
          inside = omega (arith, g.inside, z);
          bytes = rw (y, z) (simp d (ap (λ (l : List ℕ). b ∷ l) g.bytes));
          others = rw y g.others;
        }

-- no comma is left
pub last-cut : (w : List ℕ) (to : ℕ) → cuts_in to w ≡ [] → text_in w ≡ w
unfolding cuts_in text_in
last-cut [] to e = refl
last-cut (b ∷ w) to e = go (eqb b comma) e (last-cut w (to + 1))
  where
    go : (q : Bool) → pick q (to ∷ cuts_in to w) (cuts_in (to + 1) w) ≡ [] → (cuts_in (to + 1) w ≡ [] → text_in w ≡ w) → pick q (text_in w) (b ∷ text_in w) ≡ b ∷ w
    go true e f = absurd (let z : suc (length (cuts_in to w)) ≡ 0 = ap length e in omega (arith, z))
    go false e f = ap (λ (l : List ℕ). b ∷ l) (f e)
