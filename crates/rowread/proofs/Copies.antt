-- The values of a row, one after the other, for both passes of the exact path: what is left of them in the second, nothing in the first.
use Prim.Native.Nat.{ℕ, ◌+◌, ◌-◌, ◌≤◌, ◌<◌}
use native.Mathlib.Omega.{arith}
use native.Mathlib.Numerals.{add-one}
use mathlib.Core.Bool.{Bool, true, false}
use mathlib.Core.Path.{◌≡◌, refl, sym, ap, ◌∙◌}
use mathlib.Core.List.{List, [], ◌∷◌, ◌++◌, append_assoc}
use lib.ListN.{length, drop, set, length-drop, length-append, length-set}
use lib.Seq.{sets, drop-drop}
use Rattle.rfc4180.specs.Csv.{Record, last, more, comma}
use Rattle.rfc4180.specs.Read.{Got, got, field_at, Row, row, malformed, values}
use Rattle.rfc4180.proofs.Grammar.{sound, field-complete, comma-stops, ends, last-read}
use Rattle.rfc4180.proofs.Offsets.{field-offset}
use Rattle.std.proofs.Common.{None}
use Rattle.rowread.specs.Stored.{values_of, joined, ends_of}
use mathlib.Core.Logic.{◌⊎◌, inl, inr}
use Rattle.rfc4180.proofs.Sizes.{value-size}
use Rattle.rowread.proofs.Spans.{span-parts}
use Rattle.rowread.specs.Steps.{spanned, value_of, rest_of, scan_from, scan_of, IsRow, Ahead, Filled, Ample, Fitting, FieldRoom, RowRoom, RowWritten}
use Rattle.rowread.proofs.Laws.{IsValue}

-- ---- the values of a row, one by one

-- values that are in t from an offset on, one after the other
pub data Fields (t : List ℕ) : ℕ → List (List ℕ) → Type 0 where
  none : {from : ℕ} → Fields t from []
  one : {from offset : ℕ} {v : List ℕ} {vs : List (List ℕ)} → from ≤ length t → offset < length t → field_at (drop from t) ≡ got v (drop offset t)
      → Fields t (offset + 1) vs → Fields t from (v ∷ vs)

-- a rest that is not empty starts inside t
starts : (t r : List ℕ) (b : ℕ) → b ∷ r ≡ drop (length t - length (b ∷ r)) t → length t - length (b ∷ r) < length t
starts t r b e = omega (arith, ap length e, length-drop (length t - length (b ∷ r)) t)

fields-of : (t : List ℕ) {bs r : List ℕ} {vs : List (List ℕ)} → Record bs vs r → (from : ℕ) → bs ≡ drop from t → from ≤ length t → Fields t from vs
fields-of t (last {v = v} f e) from b h =
    let x = ends e in
    let q : field_at (drop from t) ≡ got v (x.first ∷ x.others) = ap field_at (sym b) ∙ last-read f e ∙ ap (got v) x.is in
    let p = field-offset t from v (x.first ∷ x.others) h q in
    one h (starts t x.others x.first p.0) (q ∙ ap (got v) p.0) none
fields-of t (more {v = v} {w = w} {cs = cs} {ws = ws} f g) from b h =
    let q : field_at (drop from t) ≡ got v (comma ∷ cs) = ap field_at (sym b) ∙ field-complete f comma-stops in
    let p = field-offset t from v (comma ∷ cs) h q in
    let i = starts t cs comma p.0 in
    let d : cs ≡ drop (length t - length (comma ∷ cs) + 1) t = ap (drop 1) p.0 ∙ drop-drop 1 (length t - length (comma ∷ cs)) t in
    one h i (q ∙ ap (got v) p.0) (fields-of t g (length t - length (comma ∷ cs) + 1) d (omega arith))

-- the first of several
pub record First (t : List ℕ) (from : ℕ) (ws : List (List ℕ)) : Type 0 where
  pub value : List ℕ
  pub others : List (List ℕ)
  pub offset : ℕ
  pub split : ws ≡ value ∷ others
  pub start : from ≤ length t
  pub inside : offset < length t
  pub read : field_at (drop from t) ≡ got value (drop offset t)
  pub left : Fields t (offset + 1) others

pub first_of : {t : List ℕ} {from : ℕ} {ws : List (List ℕ)} → Fields t from ws → 0 < length ws → First t from ws
first_of none h = absurd (omega arith)
first_of (one {offset = offset} {v = v} {vs = vs} s i r l) h = record { value = v; others = vs; offset = offset; split = refl; start = s; inside = i; read = r; left = l }

pub is-got : (g : Got) (v r : List ℕ) → g ≡ got v r → g ≡ got (value_of g) (rest_of g)
is-got g v r e = rw e

-- what is left to copy: values from an offset on, after `to` bytes and k ends
pub record Left (b : ℕ) (t out₀ ends₀ : List ℕ) (width : ℕ) (out ends : List ℕ) (from to k : ℕ) : Type 0 where
  pub values : List (List ℕ)
  pub fields : Fields t from values
  pub many : k + length values ≡ width
  pub same : length out ≡ length out₀
  pub alike : length ends ≡ length ends₀
  pub fits : to + length (joined values) + b ≤ length out
  pub bytes : (rest : List ℕ) → b ≤ length rest → sets out₀ 0 (joined (values_of (Rattle.rfc4180.specs.Read.values width t)) ++ rest) ≡ sets out to (joined values ++ rest)
  pub marks : sets ends₀ 0 (ends_of 0 (values_of (Rattle.rfc4180.specs.Read.values width t))) ≡ sets ends k (ends_of to values)

pub left-all : (b : ℕ) (t out ends : List ℕ) (width : ℕ) → IsRow (values width t) → length (joined (values_of (values width t))) + b ≤ length out → Left b t out ends width out ends 0 0 0
left-all b t out ends width h n = go (values width t) refl h n
  where
    go : (g : Row) → values width t ≡ g → IsRow g → length (joined (values_of g)) + b ≤ length out → Left b t out ends width out ends 0 0 0
    go malformed q i m = absurd i
    go (row vs r) q i m =
        let s = sound width t vs r q in
        record { values = vs; fields = fields-of t s.0 0 refl (omega arith); many = omega (arith, s.1); same = refl; alike = refl; fits = omega arith; bytes = λ rest l. rw q; marks = rw q }

joined-split : (ws : List (List ℕ)) (v : List ℕ) (vs : List (List ℕ)) → ws ≡ v ∷ vs → length (joined ws) ≡ length v + length (joined vs)
unfolding joined
joined-split ws v vs e = rw e (length-append v (joined vs))

joined-rest : (ws : List (List ℕ)) (v : List ℕ) (vs : List (List ℕ)) (rest : List ℕ) → ws ≡ v ∷ vs → joined ws ++ rest ≡ v ++ (joined vs ++ rest)
unfolding joined
joined-rest ws v vs rest e = rw e (append_assoc v (joined vs) rest)

ends-split : (ends : List ℕ) (k to : ℕ) (ws : List (List ℕ)) (v : List ℕ) (vs : List (List ℕ)) → ws ≡ v ∷ vs → sets ends k (ends_of to ws) ≡ sets (set ends k (to + length v)) (k + 1) (ends_of (to + length v) vs)
unfolding ends_of
ends-split ends k to ws v vs e = rw (e, add-one k)

module _ {b : ℕ} {t out₀ ends₀ : List ℕ} {width : ℕ} {out ends : List ℕ} {from to k : ℕ} (l : Left b t out₀ ends₀ width out ends from to k) where
  module _ (h : k < width) where
    pub here : First t from l.values
    here = first_of l.fields (omega (arith, l.many))

    read-value : value_of (field_at (drop from t)) ≡ here.value
    read-value = ap value_of here.read

    pub here-got : field_at (drop from t) ≡ got (value_of (field_at (drop from t))) (rest_of (field_at (drop from t)))
    here-got = is-got (field_at (drop from t)) here.value (drop here.offset t) here.read

    pub here-fits : to + length (value_of (field_at (drop from t))) + b ≤ length out
    here-fits = omega (arith, ap length read-value, l.fits, joined-split l.values here.value here.others here.split)

    here-offset : (next : ℕ) (v : List ℕ) → next ≤ length t → field_at (drop from t) ≡ got v (drop next t) → next ≡ here.offset
    here-offset next v m e =
        let z : length (drop next t) ≡ length (drop here.offset t) = ap (λ (g : Got). length (rest_of g)) (sym e ∙ here.read) in
        omega (arith, z, length-drop next t, length-drop here.offset t, here.inside)

    pub left-next : (o : List ℕ) (next end : ℕ) (v : List ℕ) → Ahead b out to (value_of (field_at (drop from t))) o → next ≤ length t → field_at (drop from t) ≡ got v (drop next t)
        → end ≡ to + length (value_of (field_at (drop from t))) → Left b t out₀ ends₀ width o (set ends k end) (next + 1) end (k + 1)
    left-next o next end v e m p q =
        let f = here in
        let z : next ≡ f.offset = here-offset next v m p in
        let y : end ≡ to + length f.value = q ∙ rw read-value in
        let x : Ahead b out to f.value o = rw read-value at e in
        let w = joined-split l.values f.value f.others f.split in
        record {
          values = f.others;
          fields = rw z f.left;
          many = omega (arith, l.many, ap length f.split);
          same = e.0 ∙ l.same;
          alike = length-set ends k end ∙ l.alike;
          fits = omega (arith, y, w, l.fits, e.0);
          bytes = λ rest r. l.bytes rest r ∙ ap (sets out to) (joined-rest l.values f.value f.others rest f.split) ∙ sym (x.1 (joined f.others ++ rest) (omega (arith, r, length-append (joined f.others) rest))) ∙ rw y;
          marks = l.marks ∙ rw y (ends-split ends k to l.values f.value f.others f.split);
        }

  none_left : width ≤ k → l.values ≡ []
  none_left h = go l.values (omega (arith, l.many))
    where
      go : (vs : List (List ℕ)) → length vs ≡ 0 → vs ≡ []
      go [] e = refl
      go (v ∷ vs) e = absurd (omega arith)

  pub left-none : width ≤ k → to ≡ length (joined (values_of (values width t))) → Ahead b out₀ 0 (joined (values_of (values width t))) out × (ends ≡ sets ends₀ 0 (ends_of 0 (values_of (values width t))))
  unfolding joined ends_of
  left-none h m = (
    (
      l.same,
      λ rest r.
          let z : 0 + length (joined (values_of (values width t))) ≡ to = omega (arith, m) in
          rw z (sym (l.bytes rest r ∙ ap (λ (vs : List (List ℕ)). sets out to (joined vs ++ rest)) (none_left h))),
    ),
    sym (l.marks ∙ rw (none_left h)),
  )

-- ---- both passes

-- a row can't be malformed
row-sound : (t : List ℕ) (width : ℕ) → None ≡ scan_of width t → IsRow (values width t) → ⊥
unfolding scan_of
row-sound t width e i = go (values width t) i e
  where
    go : (g : Row) → IsRow g → None ≡ scan_from (length t) 0 g → ⊥
    go malformed i f = i
    go (row vs s) i f = let z : ◌≡◌ {A = ℕ} 0 1 = cc in omega arith

pub broken-row : {b : ℕ} {write : Bool} {t : List ℕ} {width : ℕ} {out ends o s : List ℕ} → None ≡ scan_of width t → (write ≡ false → (o ≡ out) × (s ≡ ends)) → length o ≡ length out → length s ≡ length ends
    → RowWritten b write t width out ends o s
broken-row {t = t} {width = width} e f l m = record { kept = f; same = l; alike = m; ahead = λ w i. absurd (row-sound t width e i) }

-- the values of a row have no more bytes than it
pub joined-size : {bs r : List ℕ} {vs : List (List ℕ)} → Record bs vs r → length (joined vs) ≤ length bs
unfolding joined
joined-size (last {v = v} f e) = omega (arith, value-size f, length-append v [])
joined-size (more {v = v} {w = w} {ws = ws} f g) = omega (arith, value-size f, joined-size g, length-append v (joined (w ∷ ws)))

-- so they fit where all of t does
row_fits : (b : ℕ) (t : List ℕ) (width : ℕ) (out : List ℕ) → (IsRow (values width t) × (length (joined (values_of (values width t))) + b ≤ length out)) ⊎ Ample b t out → IsRow (values width t)
    → length (joined (values_of (values width t))) + b ≤ length out
row_fits b t width out (inl x) i = x.1
row_fits b t width out (inr y) i = go (values width t) refl i
  where
    go : (g : Row) → values width t ≡ g → IsRow g → length (joined (values_of g)) + b ≤ length out
    go malformed q i = absurd i
    go (row vs r) q i = omega (arith, y, joined-size (sound width t vs r q).0)

pub record RowState (b : ℕ) (write : Bool) (t : List ℕ) (width : ℕ) (out₀ ends₀ out ends : List ℕ) (from to k : ℕ) : Type 0 where
  pub kept : write ≡ false → (out ≡ out₀) × (ends ≡ ends₀)
  pub same : length out ≡ length out₀
  pub alike : length ends ≡ length ends₀
  pub left : write ≡ true → IsRow (values width t) → Left b t out₀ ends₀ width out ends from to k

pub state-start : (b : ℕ) (write : Bool) (t : List ℕ) (width : ℕ) (out ends : List ℕ) → RowRoom b write t width out ends → RowState b write t width out ends out ends 0 0 0
state-start b write t width out ends r = record { kept = λ w. (refl, refl); same = refl; alike = refl; left = λ w i. left-all b t out ends width i (row_fits b t width out (r w).0 i) }

module _ {b : ℕ} {write : Bool} {t : List ℕ} {width : ℕ} {out₀ ends₀ out ends : List ℕ} {from to k : ℕ} (s : RowState b write t width out₀ ends₀ out ends from to k) where
  pub state-room : RowRoom b write t width out₀ ends₀ → k < width → FieldRoom b write t from out to
  state-room r h w = go (r w).0
    where
      go : (IsRow (values width t) × (length (joined (values_of (values width t))) + b ≤ length out₀)) ⊎ Ample b t out₀ → Fitting b out to (field_at (drop from t)) ⊎ Ample b t out
      go (inl x) = let l = s.left w x.0 in inl (here-got l h, here-fits l h)
      go (inr y) = inr (omega (arith, y, s.same))

  pub state-next : k < width → (o m : List ℕ) {next size : ℕ} (end : ℕ) → IsValue t from next size → end ≡ to + size → Filled b write out to (field_at (drop from t)) o
      → (write ≡ false → m ≡ ends) × (write ≡ true → m ≡ set ends k end) → RowState b write t width out₀ ends₀ o m (next + 1) end (k + 1)
  state-next h o m {next} {size} end v e w p =
      let z : length (value_of (field_at (drop from t))) ≡ size = ap (λ (g : Got). length (value_of g)) v.read ∙ v.sized in
      let i = is-got (field_at (drop from t)) v.value (drop next t) v.read in
      record {
        kept = λ f. (w.kept f ∙ (s.kept f).0, p.0 f ∙ (s.kept f).1);
        same = w.same ∙ s.same;
        alike = ends-length write refl ∙ s.alike;
        left = λ f r. rw (p.1 f) (left-next (s.left f r) h o next end v.value (w.ahead f i) v.inside v.read (omega (arith, e, z)));
      }
    where
      ends-length : (x : Bool) → write ≡ x → length m ≡ length ends
      ends-length true f = ap length (p.1 f) ∙ length-set ends k end
      ends-length false f = ap length (p.0 f)

  -- all values are written, or there is no row
  pub state-whole : width ≤ k → (next : ℕ) → spanned next to ≡ scan_of width t → RowWritten b write t width out₀ ends₀ out ends
  unfolding scan_of
  state-whole h next e = record { kept = s.kept; same = s.same; alike = s.alike; ahead = λ w i. left-none (s.left w i) h (go (values width t) e) }
    where
      go : (g : Row) → spanned next to ≡ scan_from (length t) 0 g → to ≡ length (joined (values_of g))
      go malformed f = absurd (let z : ◌≡◌ {A = ℕ} 0 1 = cc in omega arith)
      go (row vs r) f = let z = (span-parts next to (length t - length r) (0 + length (joined vs)) f).1 in omega (arith, z)

  pub state-broken : None ≡ scan_of width t → RowWritten b write t width out₀ ends₀ out ends
  state-broken e = broken-row e s.kept s.same s.alike
