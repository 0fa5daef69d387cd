-- A quoted value, part by part. Bytes that aren't quotes, and the first of two quotes, are put before what is left of the value; a quote that no
-- other follows ends it. The marks tell where the quotes are.
use Prim.Native.Nat.{ℕ, zero, suc, ◌+◌, ◌-◌, ◌≤◌, ◌<◌}
use native.Mathlib.Omega.{arith}
use native.Mathlib.Decide.{dec_lt}
use native.Mathlib.Numerals.{add-one}
use native.Mathlib.Nat.{add-zero}
use mathlib.Core.Bool.{Bool, true, false}
use mathlib.Core.Path.{◌≡◌, refl, sym, ap, ◌∙◌}
use mathlib.Core.List.{List, [], ◌∷◌, ◌++◌, append_assoc, append-nil}
use lib.ListN.{length, take, drop, get_or, set, length-append, length-drop, length-set}
use lib.Seq.{sets, drop-cons, take-suc, get_or-drop}
use borrow.Author.Tests.{eqb-true, eqb-false}
use Rattle.rfc4180.specs.Csv.{quote}
use Rattle.rfc4180.specs.Read.{Got, got, bad, push, inner}
use Rattle.std.proofs.Common.{None}
use Rattle.base.specs.Little.{little}
use Rattle.rowread.specs.Marks.{marks, Marks, is_quote, first_mark, since, FirstOf, ClearedOf}
use mathlib.Core.Logic.{◌⊎◌, inl, inr}
use Rattle.rowread.specs.declared.unquote.Turn.TheVariants.{On, Closed}
use Rattle.rowread.specs.Steps.{spanned, piece_of, value_of, IsGot, prefixed, Written, Filled, Ample, Fitting, Room, Grid, Turned, Unquoting}
use Rattle.rowread.proofs.Laws.{inner-byte, inner-twice, inner-close, inner_out, past}
use Rattle.rowread.proofs.Search.{since-zero, since-marks, FirstAt, first-at, cleared_at, none-since, word-eight, byte_of}
use Rattle.rowread.proofs.Blocks.{ahead_none, ahead_more, ahead-block}

-- ---- bytes put before a value

pub prefixed-none : (g : Got) → g ≡ prefixed [] g
prefixed-none (got v r) = refl
prefixed-none bad = refl

pub prefixed-more : (v w : List ℕ) (g : Got) → prefixed v (prefixed w g) ≡ prefixed (v ++ w) g
prefixed-more v w (got x r) = ap (λ (l : List ℕ). got l r) (sym (append_assoc v w x))
prefixed-more v w bad = refl

prefixed-push : (v : List ℕ) (b : ℕ) (g : Got) → prefixed v (push b g) ≡ prefixed (v ++ (b ∷ [])) g
prefixed-push v b (got x r) = ap (λ (l : List ℕ). got l r) (sym (append_assoc v (b ∷ []) x))
prefixed-push v b bad = refl

push-prefixed : (b : ℕ) (v : List ℕ) (g : Got) → push b (prefixed v g) ≡ prefixed (b ∷ v) g
push-prefixed b v (got x r) = refl
push-prefixed b v bad = refl

-- m bytes that aren't quotes
pub inner-run : (m : ℕ) (t : List ℕ) (p : ℕ) → p + m ≤ length t → ((j : ℕ) → j < m → get_or t (p + j) 0 ≡ quote → ⊥) → inner (drop p t) ≡ prefixed (take m (drop p t)) (inner (drop (p + m) t))
inner-run zero t p h f = rw (add-zero p) (prefixed-none (inner (drop p t)))
inner-run (suc m) t p h f =
    let n : get_or t p 0 ≡ quote → ⊥ = λ e. f 0 (omega arith) (rw (add-zero p) e) in
    let i : p < length t = omega arith in
    let z : p + 1 + m ≡ p + suc m = omega arith in
    let g : (j : ℕ) → j < m → get_or t (p + 1 + j) 0 ≡ quote → ⊥ = λ j l e. let y : p + 1 + j ≡ p + suc j = omega arith in f (suc j) (omega arith) (rw y at e) in
    let r : inner (drop (p + 1) t) ≡ prefixed (take m (drop (p + 1) t)) (inner (drop (p + suc m) t)) = rw z at (inner-run m t (p + 1) (omega arith) g) in
    let d : take (suc m) (drop p t) ≡ get_or t p 0 ∷ take m (drop (p + 1) t) = rw (add-one p, drop-cons t p 0 i) in
    inner-byte t p i n ∙ ap (push (get_or t p 0)) r ∙ push-prefixed (get_or t p 0) (take m (drop (p + 1) t)) (inner (drop (p + suc m) t)) ∙ ap (λ (l : List ℕ). prefixed l (inner (drop (p + suc m) t))) (sym d)

-- bytes that aren't quotes from p to q
module _ (t : List ℕ) (p q : ℕ) (l : p ≤ q) (h : q < length t) (f : (j : ℕ) → p ≤ j → j < q → get_or t j 0 ≡ quote → ⊥) where
  pub run-to : inner (drop p t) ≡ prefixed (take (q - p) (drop p t)) (inner (drop q t))
  run-to = let z : p + (q - p) ≡ q = omega arith in rw z at (inner-run (q - p) t p (omega arith) (λ j m e. f (p + j) (omega arith) (omega arith) e))

  -- and a quote that closes
  pub run-close : get_or t q 0 ≡ quote → (get_or t (q + 1) 0 ≡ quote → ⊥) → inner (drop p t) ≡ got (take (q - p) (drop p t)) (drop (q + 1) t)
  run-close e n = run-to ∙ ap (prefixed (take (q - p) (drop p t))) (inner-close t q h e n) ∙ ap (λ (x : List ℕ). got x (drop (q + 1) t)) (append-nil (take (q - p) (drop p t)))

  -- and two quotes, which are one
  pub run-twice : get_or t q 0 ≡ quote → get_or t (q + 1) 0 ≡ quote → inner (drop p t) ≡ prefixed (take (q + 1 - p) (drop p t)) (inner (drop (q + 2) t))
  run-twice e d =
      let z : q + 1 - p ≡ suc (q - p) = omega arith in
      let y : p + (q - p) ≡ q = omega arith in
      let x : q + 1 + 1 ≡ q + 2 = omega arith in
      let i : q - p < length (drop p t) = omega (arith, length-drop p t) in
      let g : get_or (drop p t) (q - p) 0 ≡ quote = get_or-drop p t (q - p) 0 ∙ rw y e in
      let s : take (q + 1 - p) (drop p t) ≡ take (q - p) (drop p t) ++ (quote ∷ []) = rw z (rw g at (take-suc (drop p t) (q - p) 0 i)) in
      let w : inner (drop q t) ≡ push quote (inner (drop (q + 2) t)) = rw x at (inner-twice t q h e d) in
      run-to ∙ ap (prefixed (take (q - p) (drop p t))) w ∙ prefixed-push (take (q - p) (drop p t)) quote (inner (drop (q + 2) t)) ∙ ap (λ (l : List ℕ). prefixed l (inner (drop (q + 2) t))) (sym s)

-- ---- the marks of a word's quotes

is-quote : (b : ℕ) → is_quote b ≡ true → b ≡ quote
is-quote b e = eqb-true b quote e

no-quote : (b : ℕ) → is_quote b ≡ false → b ≡ quote → ⊥
no-quote b e = eqb-false b quote e

quote-is : (b : ℕ) → b ≡ quote → is_quote b ≡ true
quote-is b e = rw e

-- a word with a quote at k has a mark from k on, and clearing the first leaves those after k
module _ (t : List ℕ) (i k : ℕ) (h : i + 8 ≤ length t) (l : k < 8) (e : get_or t (i + k) 0 ≡ quote) where
  here-is : is_quote (get_or (take 8 (drop i t)) k 0) ≡ true
  here-is = rw (byte_of t i k l) (quote-is (get_or t (i + k) 0) e)

  pub some-mark : little (since k (marks is_quote (take 8 (drop i t)))) ≡ 0 → ⊥
  some-mark z =
      let n = none-since is_quote (take 8 (drop i t)) k z k (omega arith) (omega (arith, word-eight t i h)) in
      let x : true ≡ false = sym here-is ∙ n in
      absurd (let z : ◌≡◌ {A = ℕ} 0 1 = cc in omega arith)

  first-here : first_mark (since k (marks is_quote (take 8 (drop i t)))) ≡ k
  first-here = go (dec_lt k (first_mark (since k (marks is_quote (take 8 (drop i t))))))
    where
      f : FirstAt is_quote (take 8 (drop i t)) k (first_mark (since k (marks is_quote (take 8 (drop i t)))))
      f = first-at is_quote (take 8 (drop i t)) k some-mark

      go : Dec (k < first_mark (since k (marks is_quote (take 8 (drop i t))))) → first_mark (since k (marks is_quote (take 8 (drop i t)))) ≡ k
      go (yes d) = let x : true ≡ false = sym here-is ∙ f.before k (omega arith) d in absurd (let z : ◌≡◌ {A = ℕ} 0 1 = cc in omega arith)
      go (no d) = omega (arith, f.from, d)

  pub clear-here : (m r : ℕ) → m ≡ little (since k (marks is_quote (take 8 (drop i t)))) → ClearedOf m r → r ≡ little (since (k + 1) (marks is_quote (take 8 (drop i t))))
  clear-here m r q c =
      c (since k (marks is_quote (take 8 (drop i t)))) (since-marks is_quote (take 8 (drop i t)) k (word-eight t i h)) q
      ∙ ap little (cleared_at is_quote (take 8 (drop i t)) k) ∙ rw (add-one k, first-here)

-- the next quote of the word at i, from p on
pub record QuoteAt (t : List ℕ) (p q : ℕ) : Type 0 where
  pub from : p ≤ q
  pub here : get_or t q 0 ≡ quote
  pub before : (j : ℕ) → p ≤ j → j < q → get_or t j 0 ≡ quote → ⊥

module _ (t : List ℕ) (i p m : ℕ) (g : Grid t i p m) where
  pub grid-marks : Marks (since (p - i) (marks is_quote (take 8 (drop i t))))
  grid-marks = since-marks is_quote (take 8 (drop i t)) (p - i) (word-eight t i g.inside)

  -- no quote is left in the word
  pub grid-none : m ≡ 0 → (j : ℕ) → p ≤ j → j < i + 8 → get_or t j 0 ≡ quote → ⊥
  grid-none z j l h =
      let y : i + (j - i) ≡ j = omega (arith, g.low) in
      let n = none-since is_quote (take 8 (drop i t)) (p - i) (sym g.quotes ∙ z) (j - i) (omega (arith, g.low)) (omega (arith, word-eight t i g.inside, g.low)) in
      no-quote (get_or t j 0) (rw y at (rw (byte_of t i (j - i) (omega (arith, g.low))) at n))

  module _ (n : m ≡ 0 → ⊥) (j : ℕ) (f : FirstOf m j) where
    at : j ≡ first_mark (since (p - i) (marks is_quote (take 8 (drop i t))))
    at = f (since (p - i) (marks is_quote (take 8 (drop i t)))) grid-marks g.quotes

    first : FirstAt is_quote (take 8 (drop i t)) (p - i) j
    first = rw (← at) at (first-at is_quote (take 8 (drop i t)) (p - i) (λ z. n (g.quotes ∙ z)))

    pub grid-in : j < 8
    grid-in = omega (arith, first.inside, word-eight t i g.inside)

    pub grid-quote : QuoteAt t p (i + j)
    grid-quote =
        record {
          from = omega (arith, first.from, g.low);
          here = is-quote (get_or t (i + j) 0) (rw (byte_of t i j grid-in) at first.here);
          before = λ k l h e.
              let y : i + (k - i) ≡ k = omega (arith, g.low) in
              no-quote (get_or t k 0) (rw y at (rw (byte_of t i (k - i) (omega (arith, g.low, grid-in))) at (first.before (k - i) (omega (arith, g.low)) (omega (arith, g.low))))) e;
        }

    pub grid-cleared : (r : ℕ) → ClearedOf m r → r ≡ little (since (j + 1) (marks is_quote (take 8 (drop i t))))
    grid-cleared r c = c (since (p - i) (marks is_quote (take 8 (drop i t)))) grid-marks g.quotes ∙ ap little (cleared_at is_quote (take 8 (drop i t)) (p - i)) ∙ rw (add-one j, at)

-- ---- what a turn gives

-- no quote is left: the rest of the word, and the next one
module _ (t : List ℕ) (i p m : ℕ) (g : Grid t i p m) (h : i + 24 ≤ length t) where
  next_word : (r : ℕ) → r ≡ little (marks is_quote (take 8 (drop (i + 8) t))) → Grid t (i + 8) (i + 8) r
  next_word r e =
      let z : i + 8 - (i + 8) ≡ 0 = omega arith in
      record { low = omega arith; high = omega arith; inside = omega arith; quotes = rw z (e ∙ since-zero (marks is_quote (take 8 (drop (i + 8) t)))) }

  pub turn-none : (r : ℕ) → m ≡ 0 → r ≡ little (marks is_quote (take 8 (drop (i + 8) t))) → Turned t i p (On (i + 8 - p) (i + 8) (i + 8) r)
  turn-none r z e =
      (omega (arith, g.low), run-to t p (i + 8) g.high (omega arith) (λ j l k. grid-none t i p m g z j l k), omega (arith, g.high), omega arith, omega (arith, g.high), next_word r e)

  module _ (q : ℕ) (a : QuoteAt t p q) (l : q < i + 8) where
    -- a quote that closes
    pub turn-close : (get_or t (q + 1) 0 ≡ quote → ⊥) → Turned t i p (Closed (q - p) q)
    turn-close n = (omega (arith, g.low), run-close t p q a.from (omega arith) a.before a.here n, omega (arith, a.from), omega arith)

    -- two quotes, the second in the word or in the next one
    pub turn_twice : (k r : ℕ) → get_or t (q + 1) 0 ≡ quote → i ≤ k → Grid t k (q + 2) r → Turned t i p (On (q + 1 - p) (q + 2) k r)
    turn_twice k r d f w =
        (omega (arith, g.low), run-twice t p q a.from (omega arith) a.before a.here d, omega (arith, a.from), omega (arith, past t (q + 1) 33 d), omega (arith, a.from, f), w)

-- ---- what is written

pub written_none : (b : ℕ) (write : Bool) (out : List ℕ) (to : ℕ) → Written b write out to [] out
written_none b write out to = record { kept = λ e. refl; ahead = λ e. ahead_none b out to }

pub written-more : {b : ℕ} {write : Bool} {out v o u p : List ℕ} {to n : ℕ} → Written b write out to v o → n ≡ to + length v → Written b write o n u p → Written b write out to (v ++ u) p
written-more {b} {write} {out} {v} {o} {u} {p} {to} {n} a e c =
    record { kept = λ w. c.kept w ∙ a.kept w; ahead = λ w. ahead_more b out to v o (a.ahead w) u p (rw e at (c.ahead w)) }

-- a block, of which m bytes are meant
pub written-block : (write : Bool) (t o p : List ℕ) (from n m : ℕ) → (write ≡ false → p ≡ o) → (write ≡ true → p ≡ sets o n (take 16 (drop from t))) → m ≤ 16 → from + 16 ≤ length t → Written 16 write o n (take m (drop from t)) p
written-block write t o p from n m f g h l = record { kept = f; ahead = λ w. ahead-block o n m 16 (drop from t) p (g w) h (omega arith) (omega (arith, length-drop from t)) }

-- one byte
pub written_byte : (write : Bool) (o p : List ℕ) (n x : ℕ) → (write ≡ false → p ≡ o) → (write ≡ true → p ≡ set o n x) → Written 0 write o n (x ∷ []) p
written_byte write o p n x f g = record { kept = f; ahead = λ w. (ap length (g w) ∙ length-set o n x, λ rest h. rw (g w, add-one n)) }

pub written-length : {b : ℕ} {write : Bool} {out v o : List ℕ} {to : ℕ} → Written b write out to v o → length o ≡ length out
written-length {b} {write} {out} {v} {o} {to} a = go write refl
  where
    go : (w : Bool) → write ≡ w → length o ≡ length out
    go true e = (a.ahead e).0
    go false e = ap length (a.kept e)

pub filled : {b : ℕ} {write : Bool} {out o : List ℕ} {to : ℕ} (g : Got) → Written b write out to (value_of g) o → Filled b write out to g o
filled g a = record { kept = a.kept; same = written-length a; ahead = λ w i. a.ahead w }

-- where there is no value nothing is said of what was written
pub filled-bad : {b : ℕ} {write : Bool} {out o : List ℕ} {to : ℕ} → (write ≡ false → o ≡ out) → length o ≡ length out → Filled b write out to bad o
filled-bad k l = record { kept = k; same = l; ahead = λ w i. absurd (let z : ◌≡◌ {A = ℕ} 0 1 = cc in omega arith) }

pub prefixed-got : (v : List ℕ) (g : Got) → IsGot (prefixed v g) → IsGot g × (value_of (prefixed v g) ≡ v ++ value_of g)
prefixed-got v (got w r) e = (refl, refl)
prefixed-got v bad e = absurd (let z : ◌≡◌ {A = ℕ} 0 1 = cc in omega arith)

pub un-start : (b : ℕ) (write : Bool) (t : List ℕ) (from : ℕ) (out : List ℕ) (to : ℕ) → from ≤ length t → Unquoting b write t from out to out from to
un-start b write t from out to h = record { value = []; on = prefixed-none (inner (drop from t)); upto = omega arith; grows = omega arith; inside = h; written = written_none b write out to }

module _ {b : ℕ} {write : Bool} {t : List ℕ} {from : ℕ} {out : List ℕ} {to : ℕ} {o : List ℕ} {p n : ℕ} (u : Unquoting b write t from out to o p n) where
  pub un-length : length o ≡ length out
  un-length = written-length u.written

  -- the value goes on with w
  pub un-more : (w : List ℕ) (q k : ℕ) (r : List ℕ) → inner (drop p t) ≡ prefixed w (inner (drop q t)) → p + length w ≤ q → q ≤ length t → k ≡ n + length w → Written b write o n w r → Unquoting b write t from out to r q k
  un-more w q k r e l h m c =
      record {
        value = u.value ++ w;
        on = u.on ∙ ap (prefixed u.value) e ∙ prefixed-more u.value w (inner (drop q t));
        upto = omega (arith, m, u.upto, length-append u.value w);
        grows = omega (arith, u.grows, l, length-append u.value w);
        inside = h;
        written = written-more u.written u.upto c;
      }

  -- the value ends with w
  pub un-whole : (w : List ℕ) (q size : ℕ) (r : List ℕ) → inner (drop p t) ≡ got w (drop q t) → q ≤ length t → to + size ≡ n + length w → Written b write o n w r
      → (spanned q size ≡ piece_of (length t) (inner (drop from t))) × Filled b write out to (inner (drop from t)) r
  un-whole w q size r e h m c =
      let f : inner (drop from t) ≡ got (u.value ++ w) (drop q t) = u.on ∙ ap (prefixed u.value) e in
      let z : length t - length (drop q t) ≡ q = omega (arith, length-drop q t) in
      let y : length (u.value ++ w) ≡ size = omega (arith, m, u.upto, length-append u.value w) in
      (rw (f, z, y), rw f (filled (got (u.value ++ w) (drop q t)) (written-more u.written u.upto c)))

  -- what is left of a value that fits
  pub un-room : Room b write t from out to → Room b write t p o n
  un-room r w = go (r w)
    where
      go : Fitting b out to (inner (drop from t)) ⊎ Ample b t out → Fitting b o n (inner (drop p t)) ⊎ Ample b t o
      go (inl x) =
          let g = prefixed-got u.value (inner (drop p t)) (rw u.on at x.0) in
          let v : value_of (inner (drop from t)) ≡ u.value ++ value_of (inner (drop p t)) = ap value_of u.on ∙ g.1 in
          inl (g.0, omega (arith, x.1, u.upto, ap length v, length-append u.value (value_of (inner (drop p t))), un-length))
      go (inr y) = inr (omega (arith, y, un-length))

pub both_ways : (w : Bool) → w ≡ true → w ≡ false → ⊥
both_ways w e f = let x : true ≡ false = sym e ∙ f in absurd (let z : ◌≡◌ {A = ℕ} 0 1 = cc in omega arith)

-- ---- one byte more

push-is : (b : ℕ) (g : Got) → push b g ≡ prefixed (b ∷ []) g
push-is b (got v r) = refl
push-is b bad = refl

-- a byte of the value is at p, and q follows it
pub record ByteAt (t : List ℕ) (p q : ℕ) : Type 0 where
  pub read : inner (drop p t) ≡ prefixed (get_or t p 0 ∷ []) (inner (drop q t))
  pub grows : p + 1 ≤ q
  pub inside : q ≤ length t

pub byte-plain : (t : List ℕ) (p q : ℕ) → p < length t → (get_or t p 0 ≡ quote → ⊥) → q ≡ p + 1 → ByteAt t p q
byte-plain t p q h n e = rw e (record { read = inner-byte t p h n ∙ push-is (get_or t p 0) (inner (drop (p + 1) t)); grows = omega arith; inside = omega arith })

pub byte-twice : (t : List ℕ) (p q : ℕ) → p < length t → get_or t p 0 ≡ quote → get_or t (p + 1) 0 ≡ quote → q ≡ p + 1 + 1 → ByteAt t p q
byte-twice t p q h a d e = rw e (record { read = inner-twice t p h a d ∙ push-is quote (inner (drop (p + 1 + 1) t)) ∙ ap (λ (x : ℕ). prefixed (x ∷ []) (inner (drop (p + 1 + 1) t))) (sym a); grows = omega arith; inside = omega (arith, past t (p + 1) 33 d) })

-- a value that fits has a place for it
pub byte_fits : (b : ℕ) (write : Bool) {t : List ℕ} {p q : ℕ} (o : List ℕ) (n : ℕ) → ByteAt t p q → n ≤ p → Room b write t p o n → write ≡ true → n < length o
byte_fits b write {t} {p} {q} o n a l r w = go (r w)
  where
    go : Fitting b o n (inner (drop p t)) ⊎ Ample b t o → n < length o
    go (inl x) =
        let g = prefixed-got (get_or t p 0 ∷ []) (inner (drop q t)) (rw a.read at x.0) in
        omega (arith, x.1, ap (λ (z : Got). length (value_of z)) a.read, ap length g.1)
    go (inr y) = omega (arith, y, l, a.grows, a.inside)

-- a block fits, wherever the value ends
pub block-fits : (write : Bool) (t : List ℕ) (p : ℕ) (o : List ℕ) (n : ℕ) → n ≤ p → p ≤ length t → Room 16 write t p o n → write ≡ true → n + 16 ≤ length o
block-fits write t p o n l h r w = go (r w)
  where
    go : Fitting 16 o n (inner (drop p t)) ⊎ Ample 16 t o → n + 16 ≤ length o
    go (inl x) = omega (arith, x.1)
    go (inr y) = omega (arith, y)

module _ {b : ℕ} {write : Bool} {t : List ℕ} {from : ℕ} {out : List ℕ} {to : ℕ} {o : List ℕ} {p n : ℕ} (u : Unquoting b write t from out to o p n) where
  pub un-byte : (q : ℕ) (r : List ℕ) → ByteAt t p q → Written b write o n (get_or t p 0 ∷ []) r → Unquoting b write t from out to r q (n + 1)
  un-byte q r a c = un-more u (get_or t p 0 ∷ []) q (n + 1) r a.read (omega (arith, a.grows)) a.inside refl c

  -- no closing quote: there is no value
  pub un-bad : length t ≤ p → (None ≡ piece_of (length t) (inner (drop from t))) × Filled b write out to (inner (drop from t)) o
  un-bad h =
      let e : inner (drop from t) ≡ bad = u.on ∙ ap (prefixed u.value) (inner_out t p h) in
      (rw e, rw e (filled-bad u.written.kept (un-length u)))
