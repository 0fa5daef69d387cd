-- A line searched by marks. The marks of a word from some index on: the first one is a delimiter, none is before it, and clearing it leaves the
-- marks after it. So what holds of the bytes before that index (`At`) holds of those before the next delimiter, and after it if that is a comma.
use Prim.Native.Nat.{ℕ, zero, suc, ◌+◌, ◌-◌, ◌*◌, ◌%◌, ◌≤◌, ◌<◌}
use native.Mathlib.Omega.{arith}
use native.Mathlib.Decide.{dec_lt}
use native.Mathlib.Numerals.{add-one}
use native.Mathlib.Nat.{add-zero}
use mathlib.Core.Bool.{Bool, true, false, not, ◌||◌}
use mathlib.Core.Path.{◌≡◌, refl, sym, ap, ◌∙◌}
use mathlib.Core.List.{List, [], ◌∷◌, ◌++◌, append-nil}
use lib.Dec.{eqb}
use lib.ListN.{length, take, drop, get_or, set, length-take, length-drop, get_or-eq_default}
use lib.Seq.{sets, take-suc, get_or-take, get_or-drop}
use borrow.Author.Tests.{eq-eqb, ne_eqb}
use Rattle.base.specs.Number.{pick}
use Rattle.rfc4180.specs.Csv.{is_text, quote, comma, carriage_return, line_feed}
use Rattle.rfc4180.specs.Read.{plain_value}
use Rattle.rowread.proofs.Laws.{plain_turn}
use Rattle.rfc4180.proofs.Laws.{sets-append}
use Rattle.base.specs.Little.{little}
use Rattle.rowread.specs.Marks.{Bytes, mark, marks, AreMarks, none, more, Marks, FirstOf, is_delimiter, first_mark, cleared, since}
use Rattle.rowread.specs.Steps.{is_line_stop, commas_in, text_in, cuts_in, At}
use Rattle.rowread.proofs.Lines.{neither, line-turn, cuts-size, text-size}

-- ---- marks from an index on

pub since-zero : (ms : List ℕ) → little ms ≡ little (since 0 ms)
unfolding since
since-zero ms = refl

since-are : (d : ℕ) {ms : List ℕ} → AreMarks ms → AreMarks (since d ms)
unfolding since
since-are zero a = a
since-are (suc d) none = none
since-are (suc d) (more q a) = more false (since-are d a)

marks-are : (q : ℕ → Bool) (bs : List ℕ) → AreMarks (marks q bs)
unfolding marks
marks-are q [] = none
marks-are q (b ∷ bs) = more (q b) (marks-are q bs)

since-length : (d : ℕ) (ms : List ℕ) → length (since d ms) ≡ length ms
unfolding since
since-length zero ms = refl
since-length (suc d) [] = refl
since-length (suc d) (m ∷ ms) = ap suc (since-length d ms)

marks-length : (q : ℕ → Bool) (bs : List ℕ) → length (marks q bs) ≡ length bs
unfolding marks
marks-length q [] = refl
marks-length q (b ∷ bs) = ap suc (marks-length q bs)

pub since-marks : (q : ℕ → Bool) (bs : List ℕ) (d : ℕ) → length bs ≡ 8 → Marks (since d (marks q bs))
since-marks q bs d e = record { eight = since-length d (marks q bs) ∙ marks-length q bs ∙ e; each = since-are d (marks-are q bs) }

pub marks-all : (bs : List ℕ) → length bs ≡ 8 → Marks (marks is_delimiter bs)
marks-all bs e = record { eight = marks-length is_delimiter bs ∙ e; each = marks-are is_delimiter bs }

-- the first mark from d on is at j
pub record FirstAt (q : ℕ → Bool) (bs : List ℕ) (d j : ℕ) : Type 0 where
  pub from : d ≤ j
  pub inside : j < length bs
  pub here : q (get_or bs j 0) ≡ true
  pub before : (k : ℕ) → d ≤ k → k < j → q (get_or bs k 0) ≡ false

first_next : {q : ℕ → Bool} {bs : List ℕ} {d j : ℕ} (b : ℕ) → FirstAt q bs d j → FirstAt q (b ∷ bs) (suc d) (suc j)
first_next {q} {bs} {d} {j} b f = record { from = omega (arith, f.from); inside = omega (arith, f.inside); here = f.here; before = go }
  where
    go : (k : ℕ) → suc d ≤ k → k < suc j → q (get_or (b ∷ bs) k 0) ≡ false
    go zero l h = absurd (omega arith)
    go (suc k) l h = f.before k (omega arith) (omega arith)

first-skip : {q : ℕ → Bool} {bs : List ℕ} {j : ℕ} (b : ℕ) → q b ≡ false → FirstAt q bs 0 j → FirstAt q (b ∷ bs) 0 (suc j)
first-skip {q} {bs} {j} b e f = record { from = omega arith; inside = omega (arith, f.inside); here = f.here; before = go }
  where
    go : (k : ℕ) → 0 ≤ k → k < suc j → q (get_or (b ∷ bs) k 0) ≡ false
    go zero l h = e
    go (suc k) l h = f.before k (omega arith) (omega arith)

pub first-at : (q : ℕ → Bool) (bs : List ℕ) (d : ℕ) → (little (since d (marks q bs)) ≡ 0 → ⊥) → FirstAt q bs d (first_mark (since d (marks q bs)))
unfolding since marks little first_mark
first-at q [] zero n = absurd (n refl)
first-at q [] (suc d) n = absurd (n refl)
first-at q (b ∷ bs) (suc d) n = first_next b (first-at q bs d (λ e. n (omega (arith, e))))
first-at q (b ∷ bs) zero n = go (q b) refl n (first-at q bs zero)
  where
    go : (x : Bool) → q b ≡ x → (little (marks q bs) * 256 + mark x % 256 ≡ 0 → ⊥) → ((little (marks q bs) ≡ 0 → ⊥) → FirstAt q bs 0 (first_mark (marks q bs))) → FirstAt q (b ∷ bs) 0 (pick (eqb (mark x) 0) (suc (first_mark (marks q bs))) 0)
    go true e n f = record { from = omega arith; inside = omega arith; here = e; before = λ k l h. absurd (omega arith) }
    go false e n f = first-skip b e (f (λ z. n (omega (arith, z))))

pub cleared_at : (q : ℕ → Bool) (bs : List ℕ) (d : ℕ) → cleared (since d (marks q bs)) ≡ since (suc (first_mark (since d (marks q bs)))) (marks q bs)
unfolding since marks cleared first_mark
cleared_at q [] zero = refl
cleared_at q [] (suc d) = refl
cleared_at q (b ∷ bs) (suc d) = ap (λ (l : List ℕ). 0 ∷ l) (cleared_at q bs d)
cleared_at q (b ∷ bs) zero = go (q b) (cleared_at q bs zero)
  where
    go : (x : Bool) → cleared (marks q bs) ≡ since (suc (first_mark (marks q bs))) (marks q bs)
        → cleared (mark x ∷ marks q bs) ≡ since (suc (first_mark (mark x ∷ marks q bs))) (mark x ∷ marks q bs)
    go true e = refl
    go false e = ap (λ (l : List ℕ). 0 ∷ l) e

-- no mark from d on
pub none-since : (q : ℕ → Bool) (bs : List ℕ) (d : ℕ) → little (since d (marks q bs)) ≡ 0 → (k : ℕ) → d ≤ k → k < length bs → q (get_or bs k 0) ≡ false
unfolding since marks little
none-since q [] d e k l h = absurd (omega arith)
none-since q (b ∷ bs) (suc d) e zero l h = absurd (omega arith)
none-since q (b ∷ bs) (suc d) e (suc k) l h = none-since q bs d (omega (arith, e)) k (omega arith) (omega arith)
none-since q (b ∷ bs) zero e k l h = go (q b) refl e k h (none-since q bs zero)
  where
    go : (x : Bool) → q b ≡ x → little (marks q bs) * 256 + mark x % 256 ≡ 0 → (k : ℕ) → k < suc (length bs) → (little (marks q bs) ≡ 0 → (k : ℕ) → 0 ≤ k → k < length bs → q (get_or bs k 0) ≡ false) → q (get_or (b ∷ bs) k 0) ≡ false
    go true c e k h f = absurd (omega (arith, e))
    go false c e zero h f = c
    go false c e (suc k) h f = f (omega (arith, e)) k (omega arith) (omega arith)

-- ---- one byte more

commas-snoc : (v : List ℕ) (b : ℕ) → commas_in (v ++ (b ∷ [])) ≡ commas_in v + pick (eqb b comma) 1 0
unfolding commas_in
commas-snoc [] b = omega arith
commas-snoc (a ∷ v) b = omega (arith, commas-snoc v b)

cuts-snoc : (n : ℕ) (v : List ℕ) (b : ℕ) → cuts_in n (v ++ (b ∷ [])) ≡ cuts_in n v ++ pick (eqb b comma) ((n + length (text_in v)) ∷ []) []
unfolding cuts_in text_in
cuts-snoc n [] b = ap (λ (z : ℕ). pick (eqb b comma) (z ∷ []) []) (sym (add-zero n))
cuts-snoc n (a ∷ v) b = go (eqb a comma) (cuts-snoc n v b) (cuts-snoc (n + 1) v b)
  where
    go : (x : Bool) → cuts_in n (v ++ (b ∷ [])) ≡ cuts_in n v ++ pick (eqb b comma) ((n + length (text_in v)) ∷ []) []
        → cuts_in (n + 1) (v ++ (b ∷ [])) ≡ cuts_in (n + 1) v ++ pick (eqb b comma) ((n + 1 + length (text_in v)) ∷ []) []
        → pick x (n ∷ cuts_in n (v ++ (b ∷ []))) (cuts_in (n + 1) (v ++ (b ∷ []))) ≡ pick x (n ∷ cuts_in n v) (cuts_in (n + 1) v) ++ pick (eqb b comma) ((n + length (pick x (text_in v) (a ∷ text_in v))) ∷ []) []
    go true e f = ap (λ (l : List ℕ). n ∷ l) e
    go false e f = let z : n + suc (length (text_in v)) ≡ n + 1 + length (text_in v) = omega arith in rw z f

no_stop : (b : ℕ) → is_delimiter b ≡ false → (is_line_stop b ≡ false) × (eqb b comma ≡ false)
unfolding is_line_stop
no_stop b e =
    let p = neither (eqb b quote) (eqb b comma || (eqb b carriage_return || eqb b line_feed)) e in
    let q = neither (eqb b comma) (eqb b carriage_return || eqb b line_feed) p.1 in
    (rw p.0 q.1, q.0)

pub at-start : (t slots : List ℕ) → At t slots slots 0 0
unfolding commas_in cuts_in
at-start t slots = record { inside = omega arith; line = omega arith; many = refl; same = refl; ends = λ h. refl }

module _ {t slots marks : List ℕ} {p k : ℕ} (a : At t slots marks p k) (h : p < length t) where
  after : take (p + 1) t ≡ take p t ++ (get_or t p 0 ∷ [])
  after = rw (add-one p) (take-suc t p 0 h)

  pub at-text : is_delimiter (get_or t p 0) ≡ false → At t slots marks (p + 1) k
  at-text e =
      let n = no_stop (get_or t p 0) e in
      let c : commas_in (take (p + 1) t) ≡ commas_in (take p t) = ap commas_in after ∙ commas-snoc (take p t) (get_or t p 0) ∙ rw n.1 (omega arith) in
      let d : cuts_in 0 (take (p + 1) t) ≡ cuts_in 0 (take p t) = ap (cuts_in 0) after ∙ cuts-snoc 0 (take p t) (get_or t p 0) ∙ rw n.1 (append-nil (cuts_in 0 (take p t))) in
      record { inside = omega arith; line = a.line ∙ line-turn t p h n.0; many = a.many ∙ sym c; same = a.same; ends = λ l. a.ends l ∙ rw d }

  -- the comma's own mark, if there is a slot for it
  pub at-comma : (after : List ℕ) → get_or t p 0 ≡ comma → (k < length marks → after ≡ set marks k (p - k)) → length after ≡ length marks → At t slots after (p + 1) (k + 1)
  unfolding is_line_stop
  at-comma m e f g =
      let q : eqb (get_or t p 0) comma ≡ true = eq-eqb (get_or t p 0) comma e in
      let s : is_line_stop (get_or t p 0) ≡ false = rw e in
      let c : commas_in (take (p + 1) t) ≡ commas_in (take p t) + 1 = ap commas_in after ∙ commas-snoc (take p t) (get_or t p 0) ∙ rw q in
      let x : 0 + length (text_in (take p t)) ≡ p - k = omega (arith, text-size (take p t), length-take p t, a.many, a.inside) in
      let d : cuts_in 0 (take (p + 1) t) ≡ cuts_in 0 (take p t) ++ ((p - k) ∷ []) = ap (cuts_in 0) after ∙ cuts-snoc 0 (take p t) (get_or t p 0) ∙ rw (q, x) in
      let z : 0 + length (cuts_in 0 (take p t)) ≡ k = omega (arith, cuts-size 0 (take p t), a.many) in
      record {
        inside = omega arith;
        line = a.line ∙ line-turn t p h s;
        many = omega (arith, a.many, c);
        same = g ∙ a.same;
        ends = λ l. f (omega (arith, l, a.same)) ∙ ap (λ (w : List ℕ). set w k (p - k)) (a.ends (omega (arith, l))) ∙ sym (ap (sets slots 0) d ∙ sets-append slots 0 (cuts_in 0 (take p t)) ((p - k) ∷ []) ∙ rw z);
      }

-- n bytes without a delimiter
pub at-skip : (n : ℕ) {t slots marks : List ℕ} {p k : ℕ} → At t slots marks p k → p + n ≤ length t → ((j : ℕ) → j < n → is_delimiter (get_or t (p + j) 0) ≡ false) → At t slots marks (p + n) k
at-skip zero {p = p} a h f = rw (add-zero p) a
at-skip (suc n) {t = t} {slots = slots} {marks = marks} {p = p} {k = k} a h f =
    let e : is_delimiter (get_or t p 0) ≡ false = rw (add-zero p) at (f 0 (omega arith)) in
    let z : p + suc n ≡ p + 1 + n = omega arith in
    let g : (j : ℕ) → j < n → is_delimiter (get_or t (p + 1 + j) 0) ≡ false = λ j l. let y : p + suc j ≡ p + 1 + j = omega arith in rw y at (f (suc j) (omega arith)) in
    rw z (at-skip n (at-text a (omega arith) e) (omega arith) g)

-- ---- a word

pub word-eight : (t : List ℕ) (i : ℕ) → i + 8 ≤ length t → length (take 8 (drop i t)) ≡ 8
word-eight t i h = omega (arith, length-take 8 (drop i t), length-drop i t)

pub byte_of : (t : List ℕ) (i k : ℕ) → k < 8 → get_or (take 8 (drop i t)) k 0 ≡ get_or t (i + k) 0
byte_of t i k h = get_or-take 8 (drop i t) k 0 h ∙ get_or-drop i t k 0

pub word_bytes : (t : List ℕ) (i : ℕ) → Bytes t → Bytes (take 8 (drop i t))
word_bytes t i b k = go (dec_lt k 8)
  where
    go : Dec (k < 8) → get_or (take 8 (drop i t)) k 0 < 256
    go (yes h) = rw (byte_of t i k h) (b (i + k))
    go (no h) = let z : get_or (take 8 (drop i t)) k 0 ≡ 0 = get_or-eq_default (take 8 (drop i t)) 0 {n = k} (omega (arith, length-take 8 (drop i t))) in omega (arith, z)

-- the next delimiter of the word at i is at j
pub record WordStep (t : List ℕ) (i d j : ℕ) : Type 0 where
  pub from : d ≤ j
  pub inside : j < 8
  pub here : is_delimiter (get_or t (i + j) 0) ≡ true
  pub on : {slots marks : List ℕ} {k : ℕ} → At t slots marks (i + d) k → At t slots marks (i + j) k

skip-to : {t slots marks : List ℕ} {k : ℕ} (i d j : ℕ) → d ≤ j → i + j ≤ length t → ((n : ℕ) → d ≤ n → n < j → is_delimiter (get_or t (i + n) 0) ≡ false) → At t slots marks (i + d) k → At t slots marks (i + j) k
skip-to {t} {slots} {marks} {k} i d j l h f a =
    let z : i + d + (j - d) ≡ i + j = omega arith in
    let g : (n : ℕ) → n < j - d → is_delimiter (get_or t (i + d + n) 0) ≡ false = λ n m. let y : i + (d + n) ≡ i + d + n = omega arith in rw y at (f (d + n) (omega arith) (omega arith)) in
    rw z at (at-skip (j - d) a (omega arith) g)

pub word-step : (t : List ℕ) (i d j : ℕ) → i + 8 ≤ length t → (little (since d (marks is_delimiter (take 8 (drop i t)))) ≡ 0 → ⊥) → j ≡ first_mark (since d (marks is_delimiter (take 8 (drop i t)))) → WordStep t i d j
word-step t i d j h n e =
    let f : FirstAt is_delimiter (take 8 (drop i t)) d j = rw (← e) at (first-at is_delimiter (take 8 (drop i t)) d n) in
    let l : j < 8 = omega (arith, f.inside, word-eight t i h) in
    record {
      from = f.from;
      inside = l;
      here = rw (byte_of t i j l) at f.here;
      on = λ {slots} {marks} {k} a. skip-to i d j f.from (omega arith) (λ n p q. let y : n < 8 = omega arith in rw (byte_of t i n y) at (f.before n p q)) a;
    }

pub word-done : (t : List ℕ) (i d : ℕ) → i + 8 ≤ length t → d ≤ 8 → little (since d (marks is_delimiter (take 8 (drop i t)))) ≡ 0 → {slots marks : List ℕ} {k : ℕ} → At t slots marks (i + d) k → At t slots marks (i + 8) k
word-done t i d h l e a = skip-to i d 8 l h (λ n p q. rw (byte_of t i n q) at (none-since is_delimiter (take 8 (drop i t)) d e n p (omega (arith, word-eight t i h)))) a

-- the marks after the next delimiter
pub word-cleared : (t : List ℕ) (i d j r : ℕ) → j ≡ first_mark (since d (marks is_delimiter (take 8 (drop i t)))) → r ≡ little (cleared (since d (marks is_delimiter (take 8 (drop i t))))) → r ≡ little (since (j + 1) (marks is_delimiter (take 8 (drop i t))))
word-cleared t i d j r e f = f ∙ ap little (cleared_at is_delimiter (take 8 (drop i t)) d) ∙ rw (add-one j, e)

pub stop-of : (b : ℕ) → is_delimiter b ≡ true → (b ≡ comma → ⊥) → is_line_stop b ≡ true
unfolding is_line_stop
stop-of b e n = rw (ne_eqb b comma n) at e

pub word-found : (t : List ℕ) (i d m j : ℕ) → i + 8 ≤ length t → m ≡ little (since d (marks is_delimiter (take 8 (drop i t)))) → (m ≡ 0 → ⊥) → FirstOf m j
    → (j ≡ first_mark (since d (marks is_delimiter (take 8 (drop i t))))) × WordStep t i d j
word-found t i d m j h e n f =
    let k = f (since d (marks is_delimiter (take 8 (drop i t)))) (since-marks is_delimiter (take 8 (drop i t)) d (word-eight t i h)) e in
    (k, word-step t i d j h (λ z. n (e ∙ z)) k)

-- the first delimiter of a word
pub word_first : (t : List ℕ) (i m j : ℕ) → i + 8 ≤ length t → m ≡ little (marks is_delimiter (take 8 (drop i t))) → (m ≡ 0 → ⊥) → FirstOf m j
    → (j < 8) × (is_delimiter (get_or t (i + j) 0) ≡ true) × ((k : ℕ) → k < j → is_delimiter (get_or t (i + k) 0) ≡ false)
word_first t i m j h e n f =
    let z = e ∙ since-zero (marks is_delimiter (take 8 (drop i t))) in
    let k = f (since 0 (marks is_delimiter (take 8 (drop i t)))) (since-marks is_delimiter (take 8 (drop i t)) 0 (word-eight t i h)) z in
    let a : FirstAt is_delimiter (take 8 (drop i t)) 0 j = rw (← k) at (first-at is_delimiter (take 8 (drop i t)) 0 (λ x. n (z ∙ x))) in
    let l : j < 8 = omega (arith, a.inside, word-eight t i h) in
    (l, rw (byte_of t i j l) at a.here, λ k g. let y : k < 8 = omega arith in rw (byte_of t i k y) at (a.before k (omega arith) g))

pub word-plain : (t : List ℕ) (i m : ℕ) → i + 8 ≤ length t → m ≡ little (marks is_delimiter (take 8 (drop i t))) → m ≡ 0 → (k : ℕ) → k < 8 → is_delimiter (get_or t (i + k) 0) ≡ false
word-plain t i m h e z k l = rw (byte_of t i k l) at (none-since is_delimiter (take 8 (drop i t)) 0 (sym (e ∙ since-zero (marks is_delimiter (take 8 (drop i t)))) ∙ z) k (omega arith) (omega (arith, word-eight t i h)))

-- ---- a value without quotes

pub text-not : (b : ℕ) (q : Bool) → is_delimiter b ≡ q → is_text b ≡ not q
unfolding is_text
text-not b q e = ap not e

-- n bytes without a delimiter
pub plain-skip : (n : ℕ) (t : List ℕ) (i : ℕ) → i + n ≤ length t → ((k : ℕ) → k < n → is_delimiter (get_or t (i + k) 0) ≡ false) → i + length (plain_value (drop i t)) ≡ i + n + length (plain_value (drop (i + n) t))
plain-skip zero t i h f = rw (add-zero i)
plain-skip (suc n) t i h f =
    let e : is_delimiter (get_or t i 0) ≡ false = rw (add-zero i) at (f 0 (omega arith)) in
    let z : i + 1 + n ≡ i + suc n = omega arith in
    let g : (k : ℕ) → k < n → is_delimiter (get_or t (i + 1 + k) 0) ≡ false = λ k l. let y : i + suc k ≡ i + 1 + k = omega arith in rw y at (f (suc k) (omega arith)) in
    plain_turn t i (omega arith) (text-not (get_or t i 0) false e) ∙ rw z at (plain-skip n t (i + 1) (omega arith) g)
