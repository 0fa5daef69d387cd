-- The reader reads exactly the grammar, and the writer writes it. Each is by induction: on the grammar's rules for complete, on the bytes
-- for sound, on the values for the writer. One reading of each row follows from both.
use Prim.Native.Nat.{ℕ, zero, suc, ◌≤◌}
use lib.Dec.{eqb}
use native.Mathlib.Omega.{arith}
use mathlib.Core.Bool.{Bool, true, false, not, ◌||◌, ◌&&◌, true≢false}
use Rattle.base.specs.Number.{pick}
use borrow.Author.Tests.{eqb-true, eqb-false, ne_eqb}
use mathlib.Core.Path.{◌≡◌, refl, sym, ap, ap₂, ◌∙◌}
use mathlib.Core.List.{List, [], ◌∷◌, ◌++◌, append_assoc}
use lib.ListN.{length, drop, get_or}
use Rattle.rfc4180.specs.Csv.{is_text, NonEscaped, none, text, Inner, close, byte, twice, Field, escaped, non_escaped, RowEnd, lf, crlf, Record, last, more, LoneCr, here, later, quote, comma, carriage_return, line_feed}
use Rattle.rfc4180.specs.Write.{special, any_special, doubled, field_of, row_of, fields_then}
use Rattle.rfc4180.specs.Read.{Got, got, bad, push, plain_value, plain_rest, inner, closing, field_at, Row, row, malformed, front, row_end, ended, parted, next, values}

-- ---- the reader is complete

plain-complete : {bs v r : List ℕ} {c : ℕ} → NonEscaped bs v (c ∷ r) → is_text c ≡ false → got (plain_value bs) (plain_rest bs) ≡ got v (c ∷ r)
unfolding plain_value plain_rest
plain-complete none h = simp h
plain-complete (text {b = b} t p) h = simp t (ap (push b) (plain-complete p h))

inner-complete : {bs v r : List ℕ} {c : ℕ} → Inner bs v (c ∷ r) → eqb c quote ≡ false → inner bs ≡ got v (c ∷ r)
unfolding inner closing
inner-complete close h = simp h
inner-complete (byte {b = b} t p) h = simp t (ap (push b) (inner-complete p h))
inner-complete (twice p) h = ap (push quote) (inner-complete p h)

-- what follows a value: a byte that is neither text nor a quote
pub data Stop : ℕ → Type 0 where
  stop : {c : ℕ} → is_text c ≡ false → eqb c quote ≡ false → Stop c

-- a byte of text is no quote
text-no-quote : (b : ℕ) → is_text b ≡ true → eqb b quote ≡ false
unfolding is_text
text-no-quote b h = go (eqb b quote) h
  where
    go : (t : Bool) → not (t || (eqb b comma || (eqb b carriage_return || eqb b line_feed))) ≡ true → t ≡ false
    go true e = sym e
    go false e = refl

pub field-complete : {bs v r : List ℕ} {c : ℕ} → Field bs v (c ∷ r) → Stop c → field_at bs ≡ got v (c ∷ r)
unfolding field_at
field-complete (escaped p) (stop h q) = inner-complete p q
field-complete (non_escaped none) (stop h q) = simp q (plain-complete none h)
field-complete (non_escaped (text {b = b} t p)) (stop h q) = simp (text-no-quote b t) (plain-complete (text t p) h)

pub comma-stops : Stop comma
unfolding is_text
comma-stops = stop refl refl

pub lf-stops : Stop line_feed
unfolding is_text
lf-stops = stop refl refl

pub cr-stops : Stop carriage_return
unfolding is_text
cr-stops = stop refl refl

pub complete : {bs r : List ℕ} {vs : List (List ℕ)} → Record bs vs r → values (length vs) bs ≡ row vs r
unfolding values row_end ended parted
complete (last f lf) = simp (field-complete f lf-stops)
complete (last f crlf) = simp (field-complete f cr-stops)
complete (more {v = v} f p) = simp (field-complete f comma-stops) (ap (front v) (complete p))

-- ---- the reader is sound

plain-sound : (bs : List ℕ) → NonEscaped bs (plain_value bs) (plain_rest bs)
unfolding plain_value plain_rest
plain-sound [] = none
plain-sound (b ∷ bs) = go (is_text b) refl (plain-sound bs)
  where
    go : (t : Bool) → is_text b ≡ t → NonEscaped bs (plain_value bs) (plain_rest bs) → NonEscaped (b ∷ bs) (pick t (b ∷ plain_value bs) []) (pick t (plain_rest bs) (b ∷ bs))
    go true e p = text e p
    go false e p = none

abbrev pub InnerGot : List ℕ → Got → Type 0
InnerGot bs (got v r) = Inner bs v r
InnerGot bs bad = Unit {0}

push-byte : (b : ℕ) (bs : List ℕ) (g : Got) → eqb b quote ≡ false → InnerGot bs g → InnerGot (b ∷ bs) (push b g)
push-byte b bs (got v r) e p = byte e p
push-byte b bs bad e p = tt

push-twice : (bs : List ℕ) (g : Got) → InnerGot bs g → InnerGot (quote ∷ quote ∷ bs) (push quote g)
push-twice bs (got v r) p = twice p
push-twice bs bad p = tt

inner-case : (t : Bool) (b : ℕ) (bs : List ℕ) → eqb b quote ≡ t → InnerGot bs (inner bs) → InnerGot (quote ∷ bs) (closing bs) → InnerGot (b ∷ bs) (pick t (closing bs) (push b (inner bs)))
inner-case true b bs e p q = rw (eqb-true b quote e) q
inner-case false b bs e p q = push-byte b bs (inner bs) e p

closing-case : (t : Bool) (b : ℕ) (bs : List ℕ) → eqb b quote ≡ t → InnerGot bs (inner bs) → InnerGot (quote ∷ b ∷ bs) (pick t (push quote (inner bs)) (got [] (b ∷ bs)))
closing-case true b bs e p = rw (eqb-true b quote e) (push-twice bs (inner bs) p)
closing-case false b bs e p = close

mutual
  unfolding inner closing

  inner-sound : (bs : List ℕ) → InnerGot bs (inner bs)
  inner-sound [] = tt
  inner-sound (b ∷ bs) = inner-case (eqb b quote) b bs refl (inner-sound bs) (closing-sound bs)

  closing-sound : (bs : List ℕ) → InnerGot (quote ∷ bs) (closing bs)
  closing-sound [] = close
  closing-sound (b ∷ bs) = closing-case (eqb b quote) b bs refl (inner-sound bs)

abbrev pub FieldGot : List ℕ → Got → Type 0
FieldGot bs (got v r) = Field bs v r
FieldGot bs bad = Unit {0}

escaped-got : (bs : List ℕ) (g : Got) → InnerGot bs g → FieldGot (quote ∷ bs) g
escaped-got bs (got v r) p = escaped p
escaped-got bs bad p = tt

field-case : (t : Bool) (b : ℕ) (bs : List ℕ) → eqb b quote ≡ t → FieldGot (b ∷ bs) (pick t (inner bs) (got (plain_value (b ∷ bs)) (plain_rest (b ∷ bs))))
field-case true b bs e = rw (eqb-true b quote e) (escaped-got bs (inner bs) (inner-sound bs))
field-case false b bs e = non_escaped (plain-sound (b ∷ bs))

pub field-sound : (bs : List ℕ) → FieldGot bs (field_at bs)
unfolding field_at
field-sound [] = non_escaped none
field-sound (b ∷ bs) = field-case (eqb b quote) b bs refl

abbrev RecordGot : ℕ → List ℕ → Row → Type 0
RecordGot n bs (row vs r) = Record bs vs r × (length vs ≡ n)
RecordGot n bs malformed = Unit {0}

-- a row end that is counted is one of the grammar
pub end-sound : (bs : List ℕ) → (row_end bs ≡ 0 → ⊥) → RowEnd bs (drop (row_end bs) bs)
unfolding row_end
end-sound [] n = absurd (n refl)
end-sound (b ∷ r) n = go (eqb b line_feed) (eqb b carriage_return) refl refl r n
  where
    go : (t u : Bool) → eqb b line_feed ≡ t → eqb b carriage_return ≡ u → (r : List ℕ) → (◌≡◌ {A = ℕ} (pick t 1 (pick (u && eqb (get_or r 0 0) line_feed) 2 0)) 0 → ⊥)
        → RowEnd (b ∷ r) (drop (pick t 1 (pick (u && eqb (get_or r 0 0) line_feed) 2 0)) (b ∷ r))
    go true u d e r n = rw (eqb-true b line_feed d) lf
    go false false d e r n = absurd (n refl)
    go false true d e [] n = absurd (n refl)
    go false true d e (c ∷ r) n = go' (eqb c line_feed) refl n
      where
        go' : (t : Bool) → eqb c line_feed ≡ t → (◌≡◌ {A = ℕ} (pick t 2 0) 0 → ⊥) → RowEnd (b ∷ c ∷ r) (drop (pick t 2 0) (b ∷ c ∷ r))
        go' true f n = rw (eqb-true b carriage_return e, eqb-true c line_feed f) crlf
        go' false f n = absurd (n refl)

-- it is no longer than the bytes
pub end-size : (bs : List ℕ) → row_end bs ≤ length bs
unfolding row_end
end-size [] = omega arith
end-size (b ∷ []) = go (eqb b line_feed) (eqb b carriage_return)
  where
    go : (t u : Bool) → pick t 1 (pick (u && false) 2 0) ≤ 1
    go true u = omega arith
    go false true = omega arith
    go false false = omega arith
end-size (b ∷ c ∷ r) = go (eqb b line_feed) (eqb b carriage_return && eqb c line_feed)
  where
    go : (t u : Bool) → pick t 1 (pick u 2 0) ≤ suc (suc (length r))
    go true u = omega arith
    go false true = omega arith
    go false false = omega arith

ended-sound : (bs v r : List ℕ) → Field bs v r → RecordGot 1 bs (ended v r)
unfolding ended
ended-sound bs v r f = go (eqb (row_end r) 0) refl
  where
    go : (t : Bool) → eqb (row_end r) 0 ≡ t → RecordGot 1 bs (pick t malformed (row (v ∷ []) (drop (row_end r) r)))
    go true e = tt
    go false e = (last f (end-sound r (eqb-false (row_end r) 0 e)), refl)

front-sound : (n : ℕ) (bs v r : List ℕ) (g : Row) → Field bs v (comma ∷ r) → RecordGot (suc n) r g → RecordGot (suc (suc n)) bs (front v g)
front-sound n bs v r malformed f p = tt
front-sound n bs v r (row [] s) f p = absurd (let h : zero ≡ suc n = p.1 in omega arith)
front-sound n bs v r (row (w ∷ ws) s) f p = (more f p.0, ap suc p.1)

parted-sound : (n : ℕ) (read : List ℕ → Row) → ((r : List ℕ) → RecordGot (suc n) r (read r)) → (bs v r : List ℕ) → Field bs v r → RecordGot (suc (suc n)) bs (parted read v r)
unfolding parted
parted-sound n read h bs v [] f = tt
parted-sound n read h bs v (b ∷ r) f = go (eqb b comma) refl
  where
    go : (t : Bool) → eqb b comma ≡ t → RecordGot (suc (suc n)) bs (pick t (front v (read r)) malformed)
    go true e = front-sound n bs v r (read r) (rw (eqb-true b comma e) at f) (h r)
    go false e = tt

next-sound : (n : ℕ) (read : List ℕ → Row) → ((r : List ℕ) → RecordGot n r (read r)) → (bs : List ℕ) (g : Got) → FieldGot bs g → RecordGot (suc n) bs (next n read g)
next-sound zero read h bs bad f = tt
next-sound (suc n) read h bs bad f = tt
next-sound zero read h bs (got v r) f = ended-sound bs v r f
next-sound (suc n) read h bs (got v r) f = parted-sound n read h bs v r f

values-sound : (n : ℕ) (bs : List ℕ) → RecordGot n bs (values n bs)
unfolding values
values-sound zero bs = tt
values-sound (suc n) bs = next-sound n (values n) (values-sound n) bs (field_at bs) (field-sound bs)

pub sound : (n : ℕ) (bs : List ℕ) (vs : List (List ℕ)) (r : List ℕ) → values n bs ≡ row vs r → Record bs vs r × (length vs ≡ n)
sound n bs vs r e = rw e at (values-sound n bs)

-- ---- the grammar is unambiguous

-- what a row ends with: the byte after its last value, which is no comma
pub record Ends (e : List ℕ) : Type 0 where
  pub first : ℕ
  pub others : List ℕ
  pub is : e ≡ first ∷ others
  pub stops : Stop first
  pub no-comma : first ≡ comma → ⊥

pub ends : {e r : List ℕ} → RowEnd e r → Ends e
ends (lf {r = r}) = record { first = line_feed; others = r; is = refl; stops = lf-stops; no-comma = λ z. omega arith }
ends (crlf {r = r}) = record { first = carriage_return; others = line_feed ∷ r; is = refl; stops = cr-stops; no-comma = λ z. omega arith }

-- one row end is followed by one rest
one_end : {e r s : List ℕ} → RowEnd e r → RowEnd e s → r ≡ s
one_end lf lf = refl
one_end crlf crlf = refl

pub last-read : {bs v e r : List ℕ} → Field bs v e → RowEnd e r → field_at bs ≡ got v e
last-read {bs} {v} f p = let x = ends p in rw x.is (field-complete (rw x.is at f) x.stops)

not-both : {bs v w e r cs : List ℕ} → Field bs v e → RowEnd e r → Field bs w (comma ∷ cs) → ⊥
not-both f p g = let x = ends p in x.no-comma (cc (last-read f p, field-complete g comma-stops, x.is))

pub unambiguous : {bs r s : List ℕ} {vs ws : List (List ℕ)} → Record bs vs r → Record bs ws s → row vs r ≡ row ws s
unambiguous (last {v = v} {e = e} f p) (last {v = w} {e = d} g q) =
    let i : e ≡ d = cc (last-read f p, last-read g q) in
    let j : v ≡ w = cc (last-read f p, last-read g q) in
    ap₂ (λ (x y : List ℕ). row (x ∷ []) y) j (one_end p (rw (← i) at q))
unambiguous (last f p) (more g q) = absurd (not-both f p g)
unambiguous (more f p) (last g q) = absurd (not-both g q f)
unambiguous (more {cs = cs} f p) (more {cs = ds} g q) =
    let e : cs ≡ ds = cc (field-complete f comma-stops, field-complete g comma-stops) in
    cc (field-complete f comma-stops, field-complete g comma-stops, unambiguous p (rw (← e) at q))

pub one-reading : {bs r s : List ℕ} {vs ws : List (List ℕ)} → Record bs vs r → Record bs ws s → (vs ≡ ws) × (r ≡ s)
one-reading p q = (cc (unambiguous p q), cc (unambiguous p q))

-- ---- the writer writes the grammar

pub text-unquoted : (b : ℕ) → is_text b ≡ not (special b)
unfolding special is_text
text-unquoted b = refl

special-text : (b : ℕ) → special b ≡ false → is_text b ≡ true
special-text b h = text-unquoted b ∙ ap not h

doubled-inner : (v r : List ℕ) → Inner (doubled v ++ (quote ∷ r)) v r
unfolding doubled
doubled-inner [] r = close
doubled-inner (b ∷ v) r = go (eqb b quote) refl (doubled-inner v r)
  where
    go : (t : Bool) → eqb b quote ≡ t → Inner (doubled v ++ (quote ∷ r)) v r → Inner (pick t (quote ∷ quote ∷ doubled v) (b ∷ doubled v) ++ (quote ∷ r)) (b ∷ v) r
    go true e p = rw (eqb-true b quote e) (twice p)
    go false e p = byte e p

plain-writes : (v r : List ℕ) → any_special v ≡ false → NonEscaped (v ++ r) v r
unfolding any_special
plain-writes [] r h = none
plain-writes (b ∷ v) r h = go (special b) refl h (plain-writes v r)
  where
    go : (t : Bool) → special b ≡ t → (t || any_special v) ≡ false → (any_special v ≡ false → NonEscaped (v ++ r) v r) → NonEscaped (b ∷ v ++ r) (b ∷ v) r
    go true e h p = absurd (true≢false h)
    go false e h p = text (special-text b e) (p h)

field-writes : (v r : List ℕ) → Field (field_of v ++ r) v r
unfolding field_of
field-writes v r = go (any_special v) refl
  where
    go : (t : Bool) → any_special v ≡ t → Field (pick t (quote ∷ doubled v ++ (quote ∷ [])) v ++ r) v r
    go true e = let p : Inner ((doubled v ++ (quote ∷ [])) ++ r) v r = rw append_assoc (doubled-inner v r) in escaped p
    go false e = non_escaped (plain-writes v r e)

pub writes : (v : List ℕ) (vs : List (List ℕ)) (r : List ℕ) → Record (row_of (v ∷ vs) ++ r) (v ∷ vs) r
unfolding row_of
writes v [] r = rw append_assoc (last (field-writes v (line_feed ∷ r)) lf)
writes v (w ∷ ws) r = rw append_assoc (more (field-writes v (comma ∷ row_of (w ∷ ws) ++ r)) (writes w ws r))

-- reading what was written gives the values back
pub read_back : (v : List ℕ) (vs : List (List ℕ)) (r : List ℕ) → values (length (v ∷ vs)) (row_of (v ∷ vs) ++ r) ≡ row (v ∷ vs) r
read_back v vs r = complete (writes v vs r)

-- ---- rows that end in CRLF

crlf-writes : (v : List ℕ) (vs : List (List ℕ)) (r : List ℕ) → Record (fields_then (carriage_return ∷ line_feed ∷ r) (v ∷ vs)) (v ∷ vs) r
unfolding fields_then
crlf-writes v [] r = last (field-writes v (carriage_return ∷ line_feed ∷ r)) crlf
crlf-writes v (w ∷ ws) r = more (field-writes v (comma ∷ fields_then (carriage_return ∷ line_feed ∷ r) (w ∷ ws))) (crlf-writes w ws r)

pub reads-crlf : (v : List ℕ) (vs : List (List ℕ)) (r : List ℕ) → values (length (v ∷ vs)) (fields_then (carriage_return ∷ line_feed ∷ r) (v ∷ vs)) ≡ row (v ∷ vs) r
reads-crlf v vs r = complete (crlf-writes v vs r)

pub in-numbers : values 2 (97 ∷ 44 ∷ 34 ∷ 34 ∷ 13 ∷ 10 ∷ 120 ∷ []) ≡ row ((97 ∷ []) ∷ [] ∷ []) (120 ∷ [])
unfolding values field_at plain_value plain_rest is_text inner closing parted ended row_end
in-numbers = refl

-- ---- a CR without an LF after it

end-lone : (r : List ℕ) → (get_or r 0 0 ≡ line_feed → ⊥) → row_end (carriage_return ∷ r) ≡ 0
unfolding row_end
end-lone r h = rw (ne_eqb (get_or r 0 0) line_feed h)

pub lone-cr : (n : ℕ) {bs : List ℕ} → LoneCr bs → values n bs ≡ malformed
unfolding values row_end ended parted
lone-cr zero p = refl
lone-cr (suc zero) (here {r = r} f h) = simp (field-complete f cr-stops) (rw (end-lone r h))
lone-cr (suc (suc n)) (here f h) = simp (field-complete f cr-stops)
lone-cr (suc zero) (later f p) = simp (field-complete f comma-stops)
lone-cr (suc (suc n)) (later {v = v} f p) = simp (field-complete f comma-stops) (ap (front v) (lone-cr (suc n) p))

pub lone-crs : (v : List ℕ) (vs : List (List ℕ)) (r : List ℕ) → (get_or r 0 0 ≡ line_feed → ⊥) → LoneCr (fields_then (carriage_return ∷ r) (v ∷ vs))
unfolding fields_then
lone-crs v [] r h = here (field-writes v (carriage_return ∷ r)) h
lone-crs v (w ∷ ws) r h = later (field-writes v (comma ∷ fields_then (carriage_return ∷ r) (w ∷ ws))) (lone-crs w ws r h)
