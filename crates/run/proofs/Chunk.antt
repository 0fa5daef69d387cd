-- Appending several bytes by one call leaves what appending them one by one leaves, as long as the tail isn't full before the last: each
-- byte then leaves nothing due, so the due calls between them change nothing. By induction on the bytes. A call that answers with a count
-- shows by it that the state was in order.
use mathlib.Core.Path.{◌≡◌, refl, sym, ap, ◌∙◌}
use mathlib.Core.Bool.{Bool, true, false, not, ◌&&◌, ◌||◌, false≢true}
use mathlib.Core.List.{List, [], ◌∷◌, ◌++◌}
use Prim.Native.Nat.{ℕ, zero, suc, ◌+◌, ◌-◌, ◌%◌, ◌≤◌, ◌<◌, min}
use native.Mathlib.Omega.{arith}
use native.Mathlib.Decide.{dec_lt}
use lib.Dec.{leb, eqb}
use lib.ListN.{length, take, drop, set, take-append-drop}
use lib.Seq.{sets, take_all, length-take-le}
use borrow.Author.Tests.{ne_eqb, le-leb, leb-true}
use Rattle.leaf.proofs.Checksum.{crc32-append}
use Rattle.base.proofs.Bools.{and_left, and_right}
use Rattle.writer.specs.declared.Stage.{Stage}
use Rattle.writer.specs.declared.Stage.TheVariants.{Idle, Due, HeaderWritten, Committed}
use Rattle.writer.specs.declared.Contents.{Contents}
use Rattle.writer.specs.declared.Tables.{Tables}
use Rattle.record.specs.declared.Source.{Source}
use Rattle.writer.specs.declared.Beginning.{Beginning}
use Rattle.writer.specs.declared.Parts.{Parts}
use Rattle.writer.specs.declared.PartsStep.{PartsStep}
use Rattle.writer.specs.Parts.{whole_of, step_with}
use Rattle.writer.specs.declared.Writer.{Writer}
use Rattle.writer.specs.declared.Step.{Step}
use Rattle.writer.specs.State.{position, is_due, stage_of, aligned, contents_ok, tables_ok, operation_ok, stage_ok, in_range, tail_size, stays}
use Rattle.writer.proofs.Laws.{ranged}
use Rattle.lower.specs.Lower.{may_append, accepted, more_contents, with_bytes, appended, bytes_step}
use Rattle.base.specs.Number.{pick}
use Rattle.refusal.specs.declared.Refusal.TheVariants.{Full, Turn}
use Rattle.writer.specs.declared.Answer.TheVariants.{Appended}
use Rattle.lower.proofs.Laws.{bytes-appended, appended-some, takes-fits}
use Rattle.run.specs.Run.{lower_step, lower_ops, ran_writer, ran_region}
use Rattle.run.specs.Appends.{dues, appends}
use Rattle.run.specs.PartsRun.{Ran, AfterAppend, count_of}
use Rattle.flash.specs.Flash.{performed}
use Rattle.run.proofs.Laws.{quiet, quiet-flush, quiet-dues-writer, quiet-dues-ran, then-writer, then-region, fed-all-writer, fed-all-region}
use Rattle.region.specs.Region.{capacity}
use Rattle.std.specs.Prelude.{Ok}

pub is_false : (b : Bool) → not b ≡ true → b ≡ false
is_false true e = absurd (false≢true e)
is_false false e = refl

module _ (w : Writer) (m : may_append w ≡ true) where
  in-range : in_range w ≡ true
  in-range = and_left (in_range w) (not w.contents.closed) m

  open-yet : w.contents.closed ≡ false
  open-yet = is_false w.contents.closed (and_right (in_range w) (not w.contents.closed) m)

-- a tail that isn't full
none-due : (t : Contents) → t.closed ≡ false → t.fill < tail_size → is_due t ≡ false
unfolding is_due
none-due t c h = rw (ne_eqb t.fill tail_size (λ e. omega arith), c)

due-full : (t : Contents) → t.fill ≡ tail_size → is_due t ≡ true
unfolding is_due
due-full t h = rw h

-- ---- the state after a byte is within its ranges

or_left : (a b : Bool) → (a || (false && b)) ≡ true → a ≡ true
or_left true b e = refl
or_left false b e = e

grow : (p q a b x y : Bool) → (p && (q || (a && (b && x)))) ≡ true → (x ≡ true → y ≡ true) → (p && (q || (a && (b && y)))) ≡ true
grow true true a b x y e f = refl
grow true false true true x y e f = f e
grow true false true false x y e f = e
grow true false false b x y e f = e
grow false q a b x y e f = e

or-true : (a b : Bool) → a ≡ true → (a || b) ≡ true
or-true a b e = rw e

module _ (t : Contents) (y : ℕ) (c : t.closed ≡ false) (h : t.fill + 1 < tail_size) (k : position t + 1 ≤ capacity) where
  multiple : contents_ok t ≡ true → eqb (t.written % tail_size) 0 ≡ true
  unfolding contents_ok
  multiple e =
      let p = leb (position t) capacity in
      let f = leb t.fill tail_size in
      or_left (eqb (t.written % tail_size) 0) (eqb t.fill 0) (rw c at (and_right p (aligned t) (and_right f (p && aligned t) e)))

  contents-more : contents_ok t ≡ true → contents_ok (more_contents t (y ∷ [])) ≡ true
  unfolding contents_ok
  contents-more e =
      let f = le-leb (t.fill + length (y ∷ [])) tail_size (omega arith) in
      let p = le-leb (t.written + (t.fill + length (y ∷ []))) capacity (omega arith) in
      let a = or-true (eqb (t.written % tail_size) 0) (t.closed && eqb (t.fill + length (y ∷ [])) 0) (multiple e) in
      λ i. f i && (p i && a i)

  idle-more : is_due (more_contents t (y ∷ [])) ≡ false
  idle-more = none-due (more_contents t (y ∷ [])) c (omega arith)

tables_more : (n m : ℕ) (s : Tables) → n ≤ m → tables_ok n s ≡ true → tables_ok m s ≡ true
unfolding tables_ok
tables_more n m s h e = grow (leb s.count 3) (eqb s.table 8) (leb s.table 7) (leb 1 s.count) (leb s.start n) (leb s.start m) e (λ x. le-leb s.start m (omega (arith, leb-true s.start n x)))

module _ (w : Writer) (y : ℕ) (m : may_append w ≡ true) (h : w.contents.fill + 1 < tail_size) (k : position w.contents + 1 ≤ capacity) where
  abbrev next : Contents
  next = more_contents w.contents (y ∷ [])

  next-none : is_due next ≡ false
  next-none = idle-more w.contents y (open-yet w m) h k

  next-stage : stage_of w.beginning.comparing next ≡ Idle
  unfolding stage_of
  next-stage = rw next-none

  next-quiet : quiet (with_bytes w (y ∷ [])).stage ≡ true
  unfolding with_bytes
  next-quiet = ap quiet next-stage

  next-ok : stage_ok w.beginning.comparing next (stage_of w.beginning.comparing next) ≡ true
  unfolding stage_ok
  next-ok = ap (stage_ok w.beginning.comparing next) next-stage ∙ ap not next-none

  next-tables : tables_ok (position next) (with_bytes w (y ∷ [])).tables ≡ true
  unfolding tables_ok with_bytes
  next-tables = tables_more (position w.contents) (position next) w.tables (omega arith) (ranged w (in-range w m)).tables

  next-takes : may_append (with_bytes w (y ∷ [])) ≡ true
  unfolding in_range with_bytes
  next-takes =
      let a = (ranged w (in-range w m)).active in
      let t = contents-more w.contents y (open-yet w m) h k (ranged w (in-range w m)).contents in
      λ i. (a i && (t i && (next-tables i && next-ok i))) && not (open-yet w m i)

-- ---- two appends are one

module _ (w : Writer) (y : ℕ) (xs : List ℕ) where
  both-contents : more_contents (more_contents w.contents (y ∷ [])) xs ≡ more_contents w.contents (y ∷ xs)
  both-contents =
      let f : w.contents.fill + length (y ∷ []) + length xs ≡ w.contents.fill + length (y ∷ xs) = omega arith in
      λ i. record { written = w.contents.written; fill = f i; crc = crc32-append w.contents.crc (y ∷ []) xs i; different = w.contents.different; closed = w.contents.closed }

  pub both_bytes : with_bytes (with_bytes w (y ∷ [])) xs ≡ with_bytes w (y ∷ xs)
  unfolding with_bytes
  both_bytes =
      let e : w.contents.fill + length (y ∷ []) ≡ suc w.contents.fill = omega arith in
      λ i. record {
        stage = stage_of w.beginning.comparing (both-contents i);
        beginning = w.beginning;
        contents = both-contents i;
        tables = record { count = w.tables.count; table = w.tables.table; start = w.tables.start; crc = crc32-append w.tables.crc (y ∷ []) xs i; begun = w.tables.begun };
        sources = w.sources;
        tail = sets (set w.tail w.contents.fill y) (e i) xs;
      }

-- ---- one call

module _ (w : Writer) (xs : List ℕ) (m : may_append w ≡ true) (d : is_due w.contents ≡ false) (k : position w.contents + length xs ≤ capacity) where
  pub all-contents : (n : ℕ) → n ≡ accepted w.contents (length xs) → (bytes_step w xs).writer ≡ with_bytes w (take n xs)
  all-contents n e = sym (ap (λ (s : Step). s.writer) (appended-some w xs n (with_bytes w (take n xs)) d e refl ∙ bytes-appended w xs m k))

byte-contents : (w : Writer) (y : ℕ) → may_append w ≡ true → is_due w.contents ≡ false → w.contents.fill + 1 ≤ tail_size → position w.contents + 1 ≤ capacity → (bytes_step w (y ∷ [])).writer ≡ with_bytes w (y ∷ [])
byte-contents w y m d h k = let e : 1 ≡ min 1 (tail_size - w.contents.fill) = omega arith in all-contents w (y ∷ []) m d (omega arith) 1 e

-- ---- the run of a chunk

due-after : (w : Writer) (y : ℕ) (m : may_append w ≡ true) → w.contents.fill + 1 < tail_size → position w.contents + 1 ≤ capacity → is_due (with_bytes w (y ∷ [])).contents ≡ false
unfolding with_bytes
due-after w y m h k = next-none w y m h k

fill-after : (w : Writer) (y : ℕ) (ys : List ℕ) → w.contents.fill + suc (suc (length ys)) ≤ tail_size → (with_bytes w (y ∷ [])).contents.fill + suc (length ys) ≤ tail_size
unfolding with_bytes
fill-after w y ys h = omega arith

place_after : (w : Writer) (y : ℕ) (ys : List ℕ) → position w.contents + suc (suc (length ys)) ≤ capacity → position (with_bytes w (y ∷ [])).contents + suc (length ys) ≤ capacity
unfolding with_bytes
place_after w y ys h = omega arith

module _ (region : List ℕ) (zs : List ℕ) where
  chunk-writer : (ys : List ℕ) (y : ℕ) (w : Writer) → may_append w ≡ true → is_due w.contents ≡ false → w.contents.fill + suc (length ys) ≤ tail_size → position w.contents + suc (length ys) ≤ capacity
      → ran_writer region w (appends (y ∷ (ys ++ zs))) ≡ ran_writer region (with_bytes w (y ∷ ys)) (dues ++ appends zs)
  unfolding appends ran_writer lower_step lower_ops performed
  chunk-writer [] y w m d h k = ap (λ (v : Writer). ran_writer region v (dues ++ appends zs)) (byte-contents w y m d (omega arith) (omega arith))
  chunk-writer (x ∷ ys) y w m d h k =
      let f : w.contents.fill + 1 < tail_size = omega arith in
      let p : position w.contents + 1 ≤ capacity = omega arith in
      ap (λ (v : Writer). ran_writer region v (dues ++ appends (x ∷ (ys ++ zs)))) (byte-contents w y m d (omega arith) p)
      ∙ quiet-dues-writer region (with_bytes w (y ∷ [])) (appends (x ∷ (ys ++ zs))) (next-quiet w y m f p)
      ∙ chunk-writer ys x (with_bytes w (y ∷ [])) (next-takes w y m f p) (due-after w y m f p) (fill-after w y ys h) (place_after w y ys k)
      ∙ ap (λ (v : Writer). ran_writer region v (dues ++ appends zs)) (both_bytes w y (x ∷ ys))

  chunk-region : (ys : List ℕ) (y : ℕ) (w : Writer) → may_append w ≡ true → is_due w.contents ≡ false → w.contents.fill + suc (length ys) ≤ tail_size → position w.contents + suc (length ys) ≤ capacity
      → ran_region region w (appends (y ∷ (ys ++ zs))) ≡ ran_region region (with_bytes w (y ∷ ys)) (dues ++ appends zs)
  unfolding appends ran_region lower_step lower_ops performed
  chunk-region [] y w m d h k = ap (λ (v : Writer). ran_region region v (dues ++ appends zs)) (byte-contents w y m d (omega arith) (omega arith))
  chunk-region (x ∷ ys) y w m d h k =
      let f : w.contents.fill + 1 < tail_size = omega arith in
      let p : position w.contents + 1 ≤ capacity = omega arith in
      ap (λ (v : Writer). ran_region region v (dues ++ appends (x ∷ (ys ++ zs)))) (byte-contents w y m d (omega arith) p)
      ∙ quiet-dues-ran region (with_bytes w (y ∷ [])) (appends (x ∷ (ys ++ zs))) (next-quiet w y m f p)
      ∙ chunk-region ys x (with_bytes w (y ∷ [])) (next-takes w y m f p) (due-after w y m f p) (fill-after w y ys h) (place_after w y ys k)
      ∙ ap (λ (v : Writer). ran_region region v (dues ++ appends zs)) (both_bytes w y (x ∷ ys))

split : (region : List ℕ) (w : Writer) (bs : List ℕ) (n : ℕ) → may_append w ≡ true → is_due w.contents ≡ false → 1 ≤ n → n ≤ length bs → w.contents.fill + n ≤ tail_size → position w.contents + n ≤ capacity
    → (ran_writer region w (appends bs) ≡ ran_writer region (with_bytes w (take n bs)) (dues ++ appends (drop n bs))) × (ran_region region w (appends bs) ≡ ran_region region (with_bytes w (take n bs)) (dues ++ appends (drop n bs)))
split region w bs zero m d h i f k = absurd (omega arith)
split region w [] (suc n) m d h i f k = absurd (omega arith)
split region w (y ∷ bs) (suc n) m d h i f k =
    let j : n ≤ length bs = omega arith in
    let e : length (take n bs) ≡ n = length-take-le n bs j in
    let t = ap (λ (l : List ℕ). y ∷ l) (take-append-drop n bs) in (
      sym (ap (λ (l : List ℕ). ran_writer region w (appends l)) t) ∙ chunk-writer region (drop n bs) (take n bs) y w m d (omega arith) (omega arith),
      sym (ap (λ (l : List ℕ). ran_region region w (appends l)) t) ∙ chunk-region region (drop n bs) (take n bs) y w m d (omega arith) (omega arith),
    )

some-by : (fill n l : ℕ) → n ≡ min l (tail_size - fill) → 1 ≤ l → fill ≤ tail_size → (fill ≡ tail_size → ⊥) → (1 ≤ n) × (n ≤ l) × (fill + n ≤ tail_size)
some-by fill n l e h k f = some_of (dec_lt fill tail_size)
  where
    some_of : Dec (fill < tail_size) → (1 ≤ n) × (n ≤ l) × (fill + n ≤ tail_size)
    some_of (yes x) = (omega arith, omega arith, omega arith)
    some_of (no x) = absurd (f (omega arith))

-- a call that appends n of the bytes, then what is due
module _ (region : List ℕ) (w : Writer) (bs : List ℕ) (m : may_append w ≡ true) (d : is_due w.contents ≡ false) (k : position w.contents + length bs ≤ capacity) (l : 1 ≤ length bs) where
  full-not : w.contents.fill ≡ tail_size → ⊥
  full-not e = false≢true (sym d ∙ due-full w.contents e)

  module _ (n : ℕ) (e : n ≡ min (length bs) (tail_size - w.contents.fill)) where
    some : (1 ≤ n) × (n ≤ length bs) × (w.contents.fill + n ≤ tail_size)
    some = some-by w.contents.fill n (length bs) e l (takes-fits w m).0 full-not

    module _ (s : Step) (f : s ≡ bytes_step w bs) (v : Writer) (r : List ℕ) (a : v ≡ ran_writer region s.writer dues) (b : r ≡ ran_region region s.writer dues) where
      contents-is : s.writer ≡ with_bytes w (take n bs)
      contents-is = ap (λ (x : Step). x.writer) f ∙ all-contents w bs m d k n e

      chunk-fed : (1 ≤ n) × (n ≤ length bs) × (ran_writer r v (appends (drop n bs)) ≡ ran_writer region w (appends bs)) × (ran_region r v (appends (drop n bs)) ≡ ran_region region w (appends bs))
      chunk-fed =
          let q = split region w bs n m d some.0 some.1 some.2 (omega (arith, some.1)) in (
            some.0,
            some.1,
            then-writer region s.writer dues (appends (drop n bs)) v r a b (ran_writer r v (appends (drop n bs))) refl ∙ ap (λ (x : Writer). ran_writer region x (dues ++ appends (drop n bs))) contents-is ∙ sym q.0,
            then-region region s.writer dues (appends (drop n bs)) v r a b (ran_region r v (appends (drop n bs))) refl ∙ ap (λ (x : Writer). ran_region region x (dues ++ appends (drop n bs))) contents-is ∙ sym q.1,
          )

-- the same on parts
pub chunk-parts : (region : List ℕ) (b : Beginning) (p : Parts) (tail bs : List ℕ) → ((ss : List Source) → may_append (whole_of b p ss tail) ≡ true) → is_due p.contents ≡ false → position p.contents + length bs ≤ capacity → 1 ≤ length bs
    → (n : ℕ) → n ≡ min (length bs) (tail_size - p.contents.fill) → (s : PartsStep) (t : List ℕ) → ((ss : List Source) → step_with b s ss t ≡ bytes_step (whole_of b p ss tail) bs) → (q : Parts) (r : List ℕ) → Ran region b s.parts t dues q t r → AfterAppend region b p tail bs n q t r
chunk-parts region b p tail bs m d k l n e s t f q r g = ((at []).0, (at []).1, λ ss. ((at ss).2, (at ss).3))
  where
    at : (ss : List Source) → (1 ≤ n) × (n ≤ length bs) × (ran_writer r (whole_of b q ss t) (appends (drop n bs)) ≡ ran_writer region (whole_of b p ss tail) (appends bs)) × (ran_region r (whole_of b q ss t) (appends (drop n bs)) ≡ ran_region region (whole_of b p ss tail) (appends bs))
    at ss = chunk-fed region (whole_of b p ss tail) bs (m ss) d k l n e (step_with b s ss t) (f ss) (whole_of b q ss t) r (g ss).0 (g ss).1

-- ---- what follows from the number of bytes appended

pub counted : (w : Writer) (bs : List ℕ) → 1 ≤ count_of (bytes_step w bs).answer
    → (may_append w ≡ true) × (is_due w.contents ≡ false) × (position w.contents + length bs ≤ capacity) × (count_of (bytes_step w bs).answer ≡ min (length bs) (tail_size - w.contents.fill))
unfolding bytes_step appended
counted w bs = go (may_append w) refl (leb (position w.contents + length bs) capacity) refl (is_due w.contents) refl
  where
    some : Step
    some = record { answer = Ok (Appended (accepted w.contents (length bs))); writer = with_bytes w (take (accepted w.contents (length bs)) bs) }

    go : (m : Bool) → may_append w ≡ m → (l : Bool) → leb (position w.contents + length bs) capacity ≡ l → (d : Bool) → is_due w.contents ≡ d
        → 1 ≤ count_of (pick m (pick l (pick d (record { answer = Ok (Appended 0); writer = w }) some) (stays w Full)) (stays w Turn)).answer
        → (may_append w ≡ true) × (is_due w.contents ≡ false) × (position w.contents + length bs ≤ capacity) × (count_of (pick m (pick l (pick d (record { answer = Ok (Appended 0); writer = w }) some) (stays w Full)) (stays w Turn)).answer ≡ min (length bs) (tail_size - w.contents.fill))
    go true em true el false ed h = (em, ed, leb-true _ _ el, refl)
    go true em true el true ed h = absurd (omega (arith, h))
    go true em false el d ed h = absurd (omega (arith, h))
    go false em l el d ed h = absurd (omega (arith, h))

-- a call that appends no byte leaves the tail
none-appended : (w : Writer) (bs : List ℕ) → count_of (bytes_step w bs).answer ≡ 0 → (bytes_step w bs).writer.tail ≡ w.tail
unfolding bytes_step appended with_bytes
none-appended w bs = go (may_append w) (leb (position w.contents + length bs) capacity) (is_due w.contents)
  where
    n : ℕ
    n = accepted w.contents (length bs)

    go : (m l d : Bool) → count_of (pick m (pick l (pick d (record { answer = Ok (Appended 0); writer = w }) (record { answer = Ok (Appended n); writer = with_bytes w (take n bs) })) (stays w Full)) (stays w Turn)).answer ≡ 0
        → (pick m (pick l (pick d (record { answer = Ok (Appended 0); writer = w }) (record { answer = Ok (Appended n); writer = with_bytes w (take n bs) })) (stays w Full)) (stays w Turn)).writer.tail ≡ w.tail
    go true true true e = refl
    go true true false e = ap (λ (k : ℕ). sets w.tail w.contents.fill (take k bs)) e
    go true false d e = refl
    go false l d e = refl

some-count : (n m : ℕ) → n ≡ m → (n ≡ 0 → ⊥) → 1 ≤ m
some-count zero m e h = absurd (h refl)
some-count (suc n) m e h = omega (arith, e)

module _ (b : Beginning) (p : Parts) (tail bs : List ℕ) (s : PartsStep) (t : List ℕ) (f : (ss : List Source) → step_with b s ss t ≡ bytes_step (whole_of b p ss tail) bs) where
  its-count : (ss : List Source) → count_of s.answer ≡ count_of (bytes_step (whole_of b p ss tail) bs).answer
  its-count ss = ap (λ (x : Step). count_of x.answer) (f ss)

  pub parts-counted : 1 ≤ count_of s.answer → (ss : List Source) → (may_append (whole_of b p ss tail) ≡ true) × (is_due p.contents ≡ false) × (position p.contents + length bs ≤ capacity) × (count_of s.answer ≡ min (length bs) (tail_size - p.contents.fill))
  parts-counted h ss =
      let c = counted (whole_of b p ss tail) bs (omega (arith, h, its-count ss)) in
      (c.0, c.1, c.2, its-count ss ∙ c.3)

  -- no byte appended: the tail is unchanged
  pub tail-kept : count_of s.answer ≡ 0 → t ≡ tail
  tail-kept e = ap (λ (x : Step). x.writer.tail) (f []) ∙ none-appended (whole_of b p [] tail) bs (sym (its-count []) ∙ e)

-- the same, known from the call's answer
pub chunk-counted : (region : List ℕ) (b : Beginning) (p : Parts) (tail bs : List ℕ) (s : PartsStep) (t : List ℕ) (f : (ss : List Source) → step_with b s ss t ≡ bytes_step (whole_of b p ss tail) bs) (n : ℕ) → n ≡ count_of s.answer → (n ≡ 0 → ⊥)
    → (q : Parts) (r : List ℕ) → Ran region b s.parts t dues q t r → AfterAppend region b p tail bs n q t r
chunk-counted region b p tail bs s t f n e h q r g =
    let k = some-count n (count_of s.answer) e h in
    let c = parts-counted b p tail bs s t f k [] in
    chunk-parts region b p tail bs (λ ss. (parts-counted b p tail bs s t f k ss).0) c.1 c.2 (omega (arith, k, c.3)) n (e ∙ c.3) s t f q r g

-- ---- bytes that leave the tail short of full, with nothing due

module _ (w : Writer) (d : is_due w.contents ≡ false) where
  quiet_by : (s : Stage) → stage_ok w.beginning.comparing w.contents s ≡ true → quiet s ≡ true
  unfolding stage_ok
  quiet_by (Due o) e = absurd (false≢true (sym d ∙ and_left (is_due w.contents) (operation_ok w.beginning.comparing w.contents o) e))
  quiet_by Idle e = refl
  quiet_by HeaderWritten e = refl
  quiet_by Committed e = refl

module _ (region : List ℕ) (w : Writer) (bs : List ℕ) (m : may_append w ≡ true) (d : is_due w.contents ≡ false) (k : position w.contents + length bs ≤ capacity) (l : 1 ≤ length bs) (h : w.contents.fill + length bs < tail_size) where
  quiet-before : quiet w.stage ≡ true
  quiet-before = quiet_by w d w.stage (ranged w (in-range w m)).stage

  stage-after : (with_bytes w bs).stage ≡ Idle
  unfolding with_bytes stage_of
  stage-after = rw (none-due (more_contents w.contents bs) (open-yet w m) h)

  module _ (s : Step) (f : s ≡ bytes_step w bs) where
    all_fit : length bs ≡ min (length bs) (tail_size - w.contents.fill)
    all_fit = omega arith

    is-contents : s.writer ≡ with_bytes w bs
    is-contents = ap (λ (x : Step). x.writer) f ∙ all-contents w bs m d k (length bs) all_fit ∙ ap (with_bytes w) (take_all (length bs) bs (omega arith))

    quiet-after : quiet s.writer.stage ≡ true
    quiet-after = ap (λ (v : Writer). quiet v.stage) is-contents ∙ ap quiet stage-after

    pub short-fed : (s.writer ≡ ran_writer region w (dues ++ (dues ++ appends bs))) × (region ≡ ran_region region w (dues ++ (dues ++ appends bs)))
    short-fed =
        let q = quiet-flush region s.writer s.writer.stage refl quiet-after in
        let c = chunk-fed region w bs m d k l (length bs) all_fit s f s.writer region q.0 q.1 in (
          fed-all-writer region s.writer bs (length bs) (omega arith) (ran_writer region w (appends bs)) c.2 ∙ sym (quiet-dues-writer region w (dues ++ appends bs) quiet-before ∙ quiet-dues-writer region w (appends bs) quiet-before),
          fed-all-region region s.writer bs (length bs) (omega arith) (ran_region region w (appends bs)) c.3 ∙ sym (quiet-dues-ran region w (dues ++ appends bs) quiet-before ∙ quiet-dues-ran region w (appends bs) quiet-before),
        )

-- the same on parts, known from the answer
pub line-counted : (region : List ℕ) (b : Beginning) (p : Parts) (tail bs : List ℕ) (s : PartsStep) (t : List ℕ) (f : (ss : List Source) → step_with b s ss t ≡ bytes_step (whole_of b p ss tail) bs) (n : ℕ) → n ≡ count_of s.answer → (n ≡ 0 → ⊥)
    → p.contents.fill + length bs < tail_size → Ran region b p tail (dues ++ (dues ++ appends bs)) s.parts t region
line-counted region b p tail bs s t f n e h l ss =
    let k = some-count n (count_of s.answer) e h in
    let c = parts-counted b p tail bs s t f k ss in
    short-fed region (whole_of b p ss tail) bs c.0 c.1 c.2 (omega (arith, k, c.3)) l (step_with b s ss t) (f ss)
