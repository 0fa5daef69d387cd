-- The upper calls, case by case, as the definitions nest their tests; that a run of due calls and a lower call is the call's run; and that
-- the bytes made here (dates, names line, row, key) are the definition's, in whatever buffer.
use mathlib.Core.Path.{◌≡◌, refl, sym, ap, ◌∙◌}
use mathlib.Core.Bool.{Bool, true, false, not, ◌&&◌, ◌||◌, false≢true}
use mathlib.Core.List.{List, [], ◌∷◌, ◌++◌}
use Prim.Native.Nat.{ℕ, zero, suc, ◌+◌, ◌*◌, ◌/◌, ◌%◌, ◌≤◌, ◌<◌}
use native.Mathlib.Omega.{arith}
use lib.Dec.{leb, ltb, eqb}
use lib.IntN.{ℤ}
use lib.ListN.{length, take, drop, replicate}
use lib.Seq.{take_at}
use borrow.Author.Tests.{eq-eqb, ne_eqb, le-leb, lt-leb, leb-true, leb-false, lt-ltb, le-ltb}
use Rattle.base.specs.Number.{pick}
use Rattle.refusal.specs.declared.Refusal.{Refusal}
use Rattle.refusal.specs.declared.Refusal.TheVariants.{Region, Argument, Identity, Small, Full, Turn, Row}
use Rattle.leaf.specs.Bytes.{le32, written}
use Rattle.leaf.proofs.Laws.{length-written}
use Rattle.key.specs.Picks as Picks
use Rattle.key.specs.Layout.{prefix, key_of, every, sized, fit, key_answer, within as key_within, after as key_after, max_identity}
use Rattle.key.proofs.Sizes.{entry-small, small, few}
use Rattle.key.proofs.Answers.{key-length}
use Rattle.row.specs.Columns.{column_count, columns_of, columns, line, names_line}
use Rattle.rfc4180.specs.Write.{row_of}
use Rattle.row.specs.Write.{within, after, passed_values, names_answer, row_answer}
use Rattle.record.specs.declared.Source.{Source}
use Rattle.header.specs.Header.{max_sources}
use Rattle.region.specs.Region.{region_size, capacity}
use Rattle.base.proofs.Bools.{and_left, and_right, both_true}
use Rattle.bank.specs.Bank.{loaded}
use Rattle.flash.specs.Flash.{performed}
use Rattle.writer.specs.declared.Writer.{Writer}
use Rattle.writer.specs.declared.Step.{Step}
use Rattle.writer.specs.State.{did, stays, is_done, position, is_open, in_range}
use Rattle.writer.proofs.Laws.{ranged, position-fits, open-table}
use Rattle.lower.specs.Lower.{started, may_append, may_end}
use Rattle.run.specs.Run.{Lower, source, table, end, close, lower_step, lower_ops, lower_region, ran_writer, ran_region}
use Rattle.run.specs.Appends.{dues, appends}
use Rattle.upper.specs.Upper.{Upper, run_of, argument_ok, order_ok, row_ok, all_fits, refusal_of, run_if, upper_run, answered, upper_step, upper_region, begin_refusal, key_bytes, begin_run, began_with, begin_step, begin_region}
use Rattle.run.proofs.Laws.{appends-append, then-writer, then-region}
use Rattle.rfc4180.specs.Csv.{max_row}
use Rattle.base.specs.Table.{last_table}
use Rattle.upper.specs.Sizes.{names_size, max_body}
use Rattle.std.specs.Prelude.{Ok, Err, Result, Some, None, Option}

-- what is due, then a lower call that does no operation, then other calls
abbrev pub Still : Lower → Type 0
Still c = (r : List ℕ) (x : Writer) → lower_region r x c ≡ r

pub still-source : (s : Source) → Still (source s)
unfolding lower_ops performed
still-source s r x = refl

pub still-table : (t : ℕ) → Still (table t)
unfolding lower_ops performed
still-table t r x = refl

pub still-end : Still end
unfolding lower_ops performed
still-end r x = refl

pub still-close : Still close
unfolding lower_ops performed
still-close r x = refl

module _ (region : List ℕ) (w : Writer) (c : Lower) (k : Still c) (cs : List Lower) (v : Writer) (r : List ℕ) (a : v ≡ ran_writer region w dues) (b : r ≡ ran_region region w dues) (s : Step) (e : s ≡ lower_step r v c) where
  pub call-writer : (u : Writer) → u ≡ ran_writer r s.writer cs → u ≡ ran_writer region w (dues ++ (c ∷ cs))
  unfolding ran_writer
  call-writer u h = then-writer region w dues (c ∷ cs) v r a b u (h ∙ (λ i. ran_writer (sym (k r v) i) (e i).writer cs))

  pub call-region : (u : List ℕ) → u ≡ ran_region r s.writer cs → u ≡ ran_region region w (dues ++ (c ∷ cs))
  unfolding ran_region
  call-region u h = then-region region w dues (c ∷ cs) v r a b u (h ∙ (λ i. ran_region (sym (k r v) i) (e i).writer cs))

-- ---- the calls' cases

module _ (region : List ℕ) (w : Writer) (u : Upper) where
  abbrev Leaves : Step → List ℕ → Type 0
  Leaves s r = (s ≡ upper_step region w u) × (r ≡ upper_region region w u)

  refused : (x : Refusal) → refusal_of region w u ≡ Some x → Leaves (stays w x) region
  unfolding upper_step upper_region upper_run ran_writer ran_region
  refused x e = (
    sym (ap (λ (o : Option Refusal). answered o (ran_writer region w (run_if o (run_of u)))) e),
    sym (ap (λ (o : Option Refusal). ran_region region w (run_if o (run_of u))) e),
  )

  left_by : (r : Option Refusal) (cs : List Lower) → let s = answered r (ran_writer region w (run_if r cs)) in is_done s.answer ≡ false → s.writer ≡ w
  unfolding ran_writer
  left_by None cs e = absurd (false≢true (sym e))
  left_by (Some x) cs e = refl

  -- a call that isn't done leaves the state
  pub upper-left : is_done (upper_step region w u).answer ≡ false → (upper_step region w u).writer ≡ w
  unfolding upper_step upper_run
  upper-left e = left_by (refusal_of region w u) (run_of u) e

  pub upper-region : (length region ≡ region_size → ⊥) → Leaves (stays w Region) region
  unfolding refusal_of
  upper-region h = refused Region (rw (ne_eqb (length region) region_size h))

  module _ (h : length region ≡ region_size) where
    pub upper-argument : argument_ok u ≡ false → Leaves (stays w Argument) region
    unfolding refusal_of
    upper-argument e = refused Argument (rw (eq-eqb (length region) region_size h, e))

    pub upper-turn : argument_ok u ≡ true → order_ok w u ≡ false → Leaves (stays w Turn) region
    unfolding refusal_of
    upper-turn e f = refused Turn (rw (eq-eqb (length region) region_size h, e, f))

    pub upper-row : argument_ok u ≡ true → order_ok w u ≡ true → row_ok w u ≡ false → Leaves (stays w Row) region
    unfolding refusal_of
    upper-row e f g = refused Row (rw (eq-eqb (length region) region_size h, e, f, g))

    pub upper-full : argument_ok u ≡ true → order_ok w u ≡ true → row_ok w u ≡ true → all_fits w u ≡ false → Leaves (stays w Full) region
    unfolding refusal_of
    upper-full e f g x = refused Full (rw (eq-eqb (length region) region_size h, e, f, g, x))

    passed : argument_ok u ≡ true → order_ok w u ≡ true → row_ok w u ≡ true → all_fits w u ≡ true → refusal_of region w u ≡ None
    unfolding refusal_of
    passed e f g x = rw (eq-eqb (length region) region_size h, e, f, g, x)

    pub upper-done : argument_ok u ≡ true → order_ok w u ≡ true → row_ok w u ≡ true → all_fits w u ≡ true → (v : Writer) (r : List ℕ) → v ≡ ran_writer region w (run_of u) → r ≡ ran_region region w (run_of u) → Leaves (did v) r
    unfolding upper_step upper_region upper_run
    upper-done e f g x v r a b =
        let n = passed e f g x in (
          ap did a ∙ sym (ap (λ (o : Option Refusal). answered o (ran_writer region w (run_if o (run_of u)))) n),
          b ∙ sym (ap (λ (o : Option Refusal). ran_region region w (run_if o (run_of u))) n),
        )

-- no bytes always fit
pub none-fits : (w : Writer) (b : Bool) → (may_append w && b) ≡ true → leb (position w.contents + 0) capacity ≡ true
none-fits w b e =
    let m = and_left (may_append w) b e in
    le-leb (position w.contents + 0) capacity (omega (arith, position-fits w.contents (ranged w (and_left (in_range w) (not w.contents.closed) m)).contents))

pub end_fits : (w : Writer) → may_end w ≡ true → leb (position w.contents + 0) capacity ≡ true
end_fits w e = le-leb (position w.contents + 0) capacity (omega (arith, position-fits w.contents (ranged w (and_left (in_range w) (is_open w.tables) e)).contents))

-- ---- the guard of a source: there are as many as there may be, or its dates don't fit

ltb-not : (n m : ℕ) (b : Bool) → leb m n ≡ b → ltb n m ≡ not b
ltb-not n m true e = le-ltb n m (leb-true m n e)
ltb-not n m false e = lt-ltb n m (leb-false m n e)

opposite : (a b x : Bool) → (a || not b) ≡ x → (not a && b) ≡ not x
opposite true b x e = λ i. not (e i)
opposite false true x e = λ i. not (e i)
opposite false false x e = λ i. not (e i)

module _ (n : ℕ) {b y : Bool} (q : y ≡ b) where
  source-test : (ltb n max_sources && b) ≡ (not (leb max_sources n) && y)
  source-test = λ i. ltb-not n max_sources (leb max_sources n) refl i && sym q i

  pub source_fits : (leb max_sources n || not y) ≡ false → (ltb n max_sources && b) ≡ true
  source_fits h = source-test ∙ opposite (leb max_sources n) y false h

  pub source-full : (leb max_sources n || not y) ≡ true → (ltb n max_sources && b) ≡ false
  source-full h = source-test ∙ opposite (leb max_sources n) y true h

-- ---- the bytes of a call

pub dates-are : (a b : ℕ) → written (written (replicate 8 0) 0 (le32 a)) 4 (le32 b) ≡ le32 a ++ le32 b
unfolding written le32
dates-are a b = refl

-- bytes written at the start
pub start_is : (bs out : List ℕ) → length bs ≤ length out → take (length bs) (written out 0 bs) ≡ bs
unfolding written
start_is bs out h = rw (le-leb (0 + length bs) (length out) (omega arith)) (take_at bs (drop (0 + length bs) out) (length bs) refl)

pub names-fit : (t : ℕ) → t ≤ last_table → length (names_line t) ≤ names_size
unfolding columns_of columns line
names-fit zero h = omega arith
names-fit (suc zero) h = omega arith
names-fit (suc (suc zero)) h = omega arith
names-fit (suc (suc (suc zero))) h = omega arith
names-fit (suc (suc (suc (suc zero)))) h = omega arith
names-fit (suc (suc (suc (suc (suc zero))))) h = omega arith
names-fit (suc (suc (suc (suc (suc (suc zero)))))) h = omega arith
names-fit (suc (suc (suc (suc (suc (suc (suc zero))))))) h = omega arith
names-fit (suc (suc (suc (suc (suc (suc (suc (suc n)))))))) h = absurd (omega arith)

module _ (t : ℕ) (out o : List ℕ) (a : Result ℕ Refusal) (h : t ≤ last_table) (l : length out ≡ names_size) (e : a ≡ names_answer t (length out)) (k : o ≡ after a (names_line t) out) where
  names-inside : length (names_line t) ≤ length out
  names-inside = omega (arith, names-fit t h)

  names-answer : a ≡ Ok (length (names_line t))
  unfolding names_answer within
  names-answer = e ∙ rw (le-leb t 7 h, le-leb (length (names_line t)) (length out) names-inside)

  pub names-there : (n : ℕ) → a ≡ Ok n → (n ≤ names_size) × (n ≡ length (names_line t)) × (take n o ≡ names_line t)
  names-there n x =
      let m : n ≡ length (names_line t) = cc names-answer in (
        omega (arith, names-fit t h),
        m,
        (λ i. take (m i) ((k ∙ ap (λ (b : Result ℕ Refusal). after b (names_line t) out) names-answer) i)) ∙ start_is (names_line t) out names-inside,
      )

  pub names-never : (x : Refusal) → a ≡ Err x → ⊥
  names-never x f = let z : ◌≡◌ {A = ℕ} 0 1 = cc names-answer in omega arith

-- ---- a row

-- in a buffer for the longest row: it is written, or it is no row
by_two : (p q : Bool) (m : ℕ) (x : Refusal) → pick p (pick q (pick q (Ok m) (Err Small)) (Err Row)) (Err Row) ≡ Err x → (p && q) ≡ false
by_two true true m x e = cc
by_two true false m x e = refl
by_two false q m x e = refl

-- in any buffer: what is written is a row, and fits
by_three : (p q r : Bool) (m n : ℕ) → pick p (pick q (pick r (Ok m) (Err Small)) (Err Row)) (Err Row) ≡ Ok n → ((p && q) ≡ true) × (n ≡ m) × (r ≡ true)
by_three true true true m n e = (refl, cc, refl)
by_three true true false m n e = (cc, cc, cc)
by_three true false r m n e = (cc, cc, cc)
by_three false q r m n e = (cc, cc, cc)

module _ (t : ℕ) (texts lengths out o : List ℕ) (a : Result ℕ Refusal) (h : t ≤ last_table) (e : a ≡ row_answer t texts lengths (length out)) (k : o ≡ after a (row_of (passed_values texts lengths)) out) where
  abbrev row-size : ℕ
  row-size = length (row_of (passed_values texts lengths))

  abbrev row-ok : Bool
  row-ok = eqb (length lengths) (column_count t) && leb row-size max_row

  row-answer : a ≡ pick (eqb (length lengths) (column_count t)) (pick (leb row-size max_row) (pick (leb row-size (length out)) (Ok row-size) (Err Small)) (Err Row)) (Err Row)
  unfolding row_answer within
  row-answer = e ∙ rw (le-leb t 7 h)

  pub row-not : length out ≡ max_row → (x : Refusal) → a ≡ Err x → row-ok ≡ false
  row-not l x f = by_two (eqb (length lengths) (column_count t)) (leb row-size max_row) row-size x (sym (rw l at row-answer) ∙ f)

  module _ (n : ℕ) (f : a ≡ Ok n) where
    row-all : (row-ok ≡ true) × (n ≡ row-size) × (leb row-size (length out) ≡ true)
    row-all = by_three (eqb (length lengths) (column_count t)) (leb row-size max_row) (leb row-size (length out)) row-size n (sym row-answer ∙ f)

    pub row_written : (row-ok ≡ true) × (n ≡ row-size)
    row_written = (row-all.0, row-all.1)

    row_out : o ≡ written out 0 (row_of (passed_values texts lengths))
    row_out = k ∙ ap (λ (b : Result ℕ Refusal). after b (row_of (passed_values texts lengths)) out) f

    pub row-length : n ≤ length o
    row-length = omega (arith, row-all.1, leb-true row-size (length out) row-all.2, ap length row_out, length-written out 0 (row_of (passed_values texts lengths)))

    pub row-there : take n o ≡ row_of (passed_values texts lengths)
    row-there = (λ i. take (row-all.1 i) (row_out i)) ∙ start_is (row_of (passed_values texts lengths)) out (leb-true row-size (length out) row-all.2)

-- ---- the beginning

module _ (region : List ℕ) (w : Writer) (xs ys zs : List ℕ) (z : xs ++ ys ≡ zs) (v : Writer) (r : List ℕ) (a : v ≡ ran_writer region w (appends xs)) (b : r ≡ ran_region region w (appends xs)) where
  pub appends-writer : (u : Writer) → u ≡ ran_writer r v (appends ys) → u ≡ ran_writer region w (appends zs)
  appends-writer u e = then-writer region w (appends xs) (appends ys) v r a b u e ∙ ap (ran_writer region w) (sym (appends-append xs ys) ∙ ap appends z)

  pub appends-region : (u : List ℕ) → u ≡ ran_region r v (appends ys) → u ≡ ran_region region w (appends zs)
  appends-region u e = then-region region w (appends xs) (appends ys) v r a b u e ∙ ap (ran_region region w) (sym (appends-append xs ys) ∙ ap appends z)

pub prefix-none : (region : List ℕ) (w : Writer) (id : List ℕ) → length id ≡ 0 → (w ≡ ran_writer region w (appends (prefix id))) × (region ≡ ran_region region w (appends (prefix id)))
unfolding prefix appends ran_writer ran_region
prefix-none region w [] h = (refl, refl)
prefix-none region w (x ∷ xs) h = absurd (omega arith)

pub prefix-is : (id : List ℕ) → (length id ≡ 0 → ⊥) → (255 ∷ length id % 256 ∷ length id / 256 % 256 ∷ []) ++ id ≡ prefix id
unfolding prefix
prefix-is [] h = absurd (h refl)
prefix-is (x ∷ xs) h = refl

-- without an identity
body-short : (b l : List ℕ) → fit b l ≡ true → length (key_of [] (Picks.passed_picks b l)) ≤ max_body
unfolding fit prefix
body-short b l h =
    let t = both_true (leb (Picks.count l) 16) (every (Picks.count l * 5) (sized (Picks.text b l))) h in
    let n : Picks.count l ≤ 16 = leb-true _ _ t.0 in
    let m = small (Picks.count l) (Picks.pick_at b l) (entry-small (Picks.text b l) (Picks.count l) t.1) in
    omega (arith, key-length [] (Picks.passed_picks b l), few (Picks.count l) (Picks.pick_at b l), m)

key-true : (p : Bool) (m n : ℕ) → pick p (Ok m) (Err Argument) ≡ Ok n → (p ≡ true) × (n ≡ m)
key-true true m n e = (refl, cc)
key-true false m n e = (cc, cc)

key-false : (p : Bool) (m : ℕ) (x : Refusal) → pick p (Ok m) (Err Argument) ≡ Err x → p ≡ false
key-false true m x e = cc
key-false false m x e = refl

module _ (b l out o : List ℕ) (a : Result ℕ Refusal) (h : length out ≡ max_body) (e : a ≡ key_answer [] b l (length out)) (k : o ≡ key_after a (key_of [] (Picks.passed_picks b l)) out) where
  key-by : (p : Bool) → fit b l ≡ p → a ≡ pick p (Ok (length (key_of [] (Picks.passed_picks b l)))) (Err Argument)
  unfolding key_answer key_within
  key-by true f = e ∙ rw (f, le-leb (length (key_of [] (Picks.passed_picks b l))) (length out) (omega (arith, body-short b l f)))
  key-by false f = e ∙ rw f

  pub key-not : (x : Refusal) → a ≡ Err x → fit b l ≡ false
  key-not x f = key-false (fit b l) (length (key_of [] (Picks.passed_picks b l))) x (sym (key-by (fit b l) refl) ∙ f)

  module _ (n : ℕ) (f : a ≡ Ok n) where
    key-both : (fit b l ≡ true) × (n ≡ length (key_of [] (Picks.passed_picks b l)))
    key-both = key-true (fit b l) (length (key_of [] (Picks.passed_picks b l))) n (sym (key-by (fit b l) refl) ∙ f)

    pub key-fit : fit b l ≡ true
    key-fit = key-both.0

    key-out : o ≡ written out 0 (key_of [] (Picks.passed_picks b l))
    key-out = k ∙ ap (λ (x : Result ℕ Refusal). key_after x (key_of [] (Picks.passed_picks b l)) out) f

    pub key-inside : n ≤ length o
    key-inside = omega (arith, key-both.1, body-short b l key-fit, ap length key-out, length-written out 0 (key_of [] (Picks.passed_picks b l)))

    pub key-there : (id : List ℕ) → prefix id ++ take n o ≡ key_bytes id b l
    unfolding key_of prefix
    key-there id = ap (λ (x : List ℕ). prefix id ++ x) ((λ i. take (key-both.1 i) (key-out i)) ∙ start_is (key_of [] (Picks.passed_picks b l)) out (omega (arith, body-short b l key-fit)))

module _ (region : List ℕ) (comparing : Bool) (now : ℤ) (id b l : List ℕ) where
  abbrev Begins : Step → List ℕ → Type 0
  Begins s r = (s ≡ begin_step region comparing now id b l) × (r ≡ begin_region region comparing now id b l)

  abbrev first : Writer
  first = started (loaded region) comparing now

  begin-refused : (x : Refusal) → begin_refusal region id b l ≡ Some x → Begins (record { answer = Err x; writer = started (Err x) comparing now }) region
  unfolding begin_step begin_region begin_run ran_region
  begin-refused x e = (
    sym (ap (λ (o : Option Refusal). began_with o (ran_writer region first (run_if o (appends (key_bytes id b l)))) comparing now) e),
    sym (ap (λ (o : Option Refusal). ran_region region first (run_if o (appends (key_bytes id b l)))) e),
  )

  pub begin-region : (length region ≡ region_size → ⊥) → Begins (record { answer = Err Region; writer = started (Err Region) comparing now }) region
  unfolding begin_refusal
  begin-region h = begin-refused Region (rw (ne_eqb (length region) region_size h))

  module _ (h : length region ≡ region_size) where
    pub begin-argument : fit b l ≡ false → Begins (record { answer = Err Argument; writer = started (Err Argument) comparing now }) region
    unfolding begin_refusal
    begin-argument e = begin-refused Argument (rw (eq-eqb (length region) region_size h, e))

    pub begin-identity : fit b l ≡ true → max_identity < length id → Begins (record { answer = Err Identity; writer = started (Err Identity) comparing now }) region
    unfolding begin_refusal
    begin-identity e k = begin-refused Identity (rw (eq-eqb (length region) region_size h, e, lt-leb (length id) max_identity k))

    begin-passed : fit b l ≡ true → length id ≤ max_identity → begin_refusal region id b l ≡ None
    unfolding begin_refusal
    begin-passed e k = rw (eq-eqb (length region) region_size h, e, le-leb (length id) max_identity k)

    pub begin-done : fit b l ≡ true → length id ≤ max_identity → (v : Writer) (r : List ℕ) → v ≡ ran_writer region first (appends (key_bytes id b l)) → r ≡ ran_region region first (appends (key_bytes id b l)) → Begins (did v) r
    unfolding begin_step begin_region begin_run
    begin-done e k v r x y =
        let n = begin-passed e k in (
          ap did x ∙ sym (ap (λ (o : Option Refusal). began_with o (ran_writer region first (run_if o (appends (key_bytes id b l)))) comparing now) n),
          y ∙ sym (ap (λ (o : Option Refusal). ran_region region first (run_if o (appends (key_bytes id b l)))) n),
        )

-- an open table is one of the eight
pub open-fits : (w : Writer) → (may_append w && is_open w.tables) ≡ true → w.tables.table ≤ last_table
open-fits w e =
    let m = and_left (may_append w) (is_open w.tables) e in
    (open-table (position w.contents) w.tables (ranged w (and_left (in_range w) (not w.contents.closed) m)).tables (and_right (may_append w) (is_open w.tables) e)).0
