-- The claims: exactly the rows of the grammar that have at most 8,192 bytes are read, a table of such rows to its end; so is what was written. By
-- the grammar's theorems, since a row of at most 8,192 bytes doesn't depend on what follows it.
use Prim.Native.Nat.{ℕ, ◌+◌, ◌-◌, ◌≤◌, ◌<◌}
use native.Mathlib.Omega.{arith}
use mathlib.Core.Bool.{Bool, true, false}
use mathlib.Core.Path.{◌≡◌, refl, sym, ap, ◌∙◌}
use mathlib.Core.List.{List, [], ◌∷◌, ◌++◌, append_assoc, append-nil}
use lib.Dec.{eqb, leb}
use lib.ListN.{length, take, drop, length-append, length-take, length-drop, take-append-drop}
use lib.Seq.{take-append-add, drop-append_seam, drop-drop, length-take-le}
use borrow.Author.Tests.{le-leb, leb-true, eq-eqb, ne_eqb}
use Rattle.base.specs.Number.{pick}
use Rattle.rfc4180.specs.Csv.{Record, max_row}
use Rattle.rfc4180.specs.Write.{row_of}
use Rattle.rfc4180.specs.Read as Csv
use Rattle.rfc4180.proofs.Grammar.{writes, sound, complete, lone-cr}
use Rattle.rfc4180.proofs.Frame.{frame, front-in-row, part-row}
use Rattle.rfc4180.proofs.Sizes.{row-some, lone-some, not-longer}
use Rattle.refusal.specs.declared.Refusal.TheVariants.{Small, Row}
use Rattle.rowread.specs.Stored.{stored, stored, part_at, row_at, values_of, values_at, joined, found, read_answer}
use Rattle.rowread.specs.Claims.{Fits, ReadsWritten, table_of, Reads, at_end, onward, AllFit, ReadsTable, StoredIsARow, RowThere, ReadsRows, SmallOutputs, RefusesOthers, ReadsEnd, RowsOf, no_rows, row_first, ReadsAll, StoredLimits, RefusesLoneCr}
use Rattle.std.specs.Prelude.{Ok, Err, Some, None, Result, Option}
use Rattle.refusal.specs.declared.Refusal.{Refusal}
use Rattle.rowread.specs.declared.Span.{Span}

abbrev Text : Type 0
Text = List ℕ

-- a row at the front of the bytes that may hold it
front-part : (p r : Text) → length p ≤ max_row → take max_row (p ++ r) ≡ p ++ take (max_row - length p) r
front-part p r h =
    let e : length p + (max_row - length p) ≡ max_row = omega arith in
    ap (λ (n : ℕ). take n (p ++ r)) (sym e) ∙ take-append-add p r (max_row - length p)

-- the answer where a row of these values is, `next` being the offset after it
abbrev there : List Text → ℕ → ℕ → ℕ → Result (Option Span) Refusal
there vs capacity slots next = pick (leb (length (joined vs)) capacity) (pick (leb (length vs) slots) (stored next (length (joined vs))) (Err Small)) (Err Small)

-- the bytes p are a row, whatever follows them
module _ (front back p : Text) (vs : List Text) (is_row : (s : Text) → Record (p ++ s) vs s) (short : length p ≤ max_row) where
  abbrev table : Text
  table = front ++ (p ++ back)

  abbrev rest : Text
  rest = take (max_row - length p) back

  part : part_at table (length front) ≡ p ++ rest
  part = rw (drop-append_seam front (p ++ back)) (front-part p back short)

  the_row : row_at table (length vs) (length front) ≡ Csv.row vs rest
  the_row = rw part (complete (is_row rest))

  whole : length table ≡ length front + (length p + length back)
  whole = length-append front (p ++ back) ∙ rw (length-append p back)

  the-answer : (capacity slots : ℕ) → read_answer table (length vs) (length front) capacity slots ≡ there vs capacity slots (length front + length p)
  unfolding read_answer
  the-answer capacity slots =
      let some : 0 < length p = omega (arith, row-some (is_row []), length-append p []) in
      let a : length front ≤ length table = omega (arith, whole) in
      let b : length front ≡ length table → ⊥ = λ e. omega (arith, whole) in
      let n : length (part_at table (length front)) - length rest ≡ length p = omega (arith, ap length part, length-append p rest) in
      rw (le-leb (length front) (length table) a, ne_eqb (length front) (length table) b, the_row, n)

-- a row of the grammar at an offset: its own bytes are between what is before it and what follows it
at_offset : (table rest : Text) (vs : List Text) (width offset : ℕ) → RowThere table width offset vs rest → (capacity slots : ℕ)
    → (read_answer table width offset capacity slots ≡ there vs capacity slots (offset + (length (drop offset table) - length rest))) × (values_at table width offset ≡ vs)
at_offset table rest vs width offset r capacity slots =
    let e : length vs ≡ width = r.wide in
    let f = frame r.is in
    let i : offset ≤ length table = omega (arith, row-some r.is, length-drop offset table) in
    let l : length (drop offset table) ≡ length f.0 + length rest = ap length f.1 ∙ length-append f.0 rest in
    let n : length (take offset table) ≡ offset = length-take-le offset table i in
    let d : length (drop offset table) - length rest ≡ length f.0 = omega (arith, l) in
    let t : take offset table ++ (f.0 ++ rest) ≡ table = ap (λ (x : Text). take offset table ++ x) (sym f.1) ∙ take-append-drop offset table in
    let s : length f.0 ≤ max_row = omega (arith, l, r.short) in
    let a = the-answer (take offset table) rest f.0 vs f.2 s capacity slots in
    let b = the_row (take offset table) rest f.0 vs f.2 s in
    rw (d, ← e) (rw (t, n) at a, ap values_of (rw (t, n) at b))

pub reads-rows : ReadsRows
reads-rows table rest vs width offset capacity slots r c m =
    let a = at_offset table rest vs width offset r capacity slots in
    (a.0 ∙ rw (le-leb (length (joined vs)) capacity c, le-leb (length vs) slots (omega (arith, r.wide))) refl, a.1)

pub small-outputs : SmallOutputs
small-outputs table rest vs width offset capacity slots r n = (at_offset table rest vs width offset r capacity slots).0 ∙ go (leb (length (joined vs)) capacity) (leb (length vs) slots) refl refl
  where
    go : (s t : Bool) → leb (length (joined vs)) capacity ≡ s → leb (length vs) slots ≡ t → pick {A = Result (Option Span) Refusal} s (pick t (stored (offset + (length (drop offset table) - length rest)) (length (joined vs))) (Err Small)) (Err Small) ≡ Err Small
    go true true d e = absurd (n (leb-true (length (joined vs)) capacity d, omega (arith, leb-true (length vs) slots e, r.wide)))
    go true false d e = refl
    go false t d e = refl

-- ---- tables of rows

pub reads_end : ReadsEnd
unfolding read_answer
reads_end table width capacity slots = rw (le-leb (length table) (length table) (omega arith), eq-eqb (length table) (length table) refl)

at-the-end : (front : Text) (width capacity slots : ℕ) → read_answer (front ++ []) width (length front) capacity slots ≡ Ok None
at-the-end front width capacity slots = rw (append-nil front) (reads_end front width capacity slots)

moved : (t u : Text) (width capacity slots offset next : ℕ) (rows : List (List Text)) → t ≡ u → offset ≡ next → Reads t width capacity slots offset rows → Reads u width capacity slots next rows
moved t u width capacity slots offset next rows e p r = rw (← e, ← p) r

later-there : (front table rest : Text) (vs : List Text) (width : ℕ) → RowThere table width 0 vs rest → RowThere (front ++ table) width (length front) vs rest
later-there front table rest vs width r = let e = drop-append_seam front table in record { is = rw e r.is; wide = r.wide; short = rw e r.short }

reads-from : (width capacity slots : ℕ) (front table : Text) (rows : List (List Text)) → width ≤ slots → RowsOf width capacity table rows → Reads (front ++ table) width capacity slots (length front) rows
reads-from width capacity slots front table [] m no_rows = at_end (at-the-end front width capacity slots)
reads-from width capacity slots front table (vs ∷ rows) m (row_first {rest = rest} r c q) =
    let f = frame r.is in
    let a = reads-rows (front ++ table) rest vs width (length front) capacity slots (later-there front table rest vs width r) c m in
    let l : length table ≡ length f.0 + length rest = ap length f.1 ∙ length-append f.0 rest in
    let n : length (front ++ f.0) ≡ length front + (length (drop (length front) (front ++ table)) - length rest) =
    omega (arith, l, length-append front f.0, ap length (drop-append_seam front table)) in
    onward a.0 a.1
    (moved ((front ++ f.0) ++ rest) (front ++ table) width capacity slots (length (front ++ f.0)) _ rows
    (append_assoc front f.0 rest ∙ ap (λ (x : Text). front ++ x) (sym f.1)) n
    (reads-from width capacity slots (front ++ f.0) rest rows m q))

pub reads_all : ReadsAll
reads_all table width capacity slots rows q m = reads-from width capacity slots [] table rows m q

-- ---- what the writer wrote

written-there : (before following : Text) (vs : List Text) (width capacity slots : ℕ) → Fits width capacity slots vs → RowThere (before ++ (row_of vs ++ following)) width (length before) vs following
written-there before following [] width capacity slots f = absurd (omega (arith, f.some, f.wide))
written-there before following (v ∷ vs) width capacity slots f =
    later-there before (row_of (v ∷ vs) ++ following) following (v ∷ vs) width
    (record { is = writes v vs following; wide = f.wide; short = omega (arith, f.short, length-append (row_of (v ∷ vs)) following) })

pub reads-written : ReadsWritten
reads-written before following vs width capacity slots f =
    let a = reads-rows (before ++ (row_of vs ++ following)) following vs width (length before) capacity slots (written-there before following vs width capacity slots f) f.bytes f.ends in
    let n : length (drop (length before) (before ++ (row_of vs ++ following))) - length following ≡ length (row_of vs) =
    omega (arith, ap length (drop-append_seam before (row_of vs ++ following)), length-append (row_of vs) following) in
    rw n at a

rows_of : (width capacity slots : ℕ) (rows : List (List Text)) → AllFit width capacity slots rows → RowsOf width capacity (table_of rows) rows
unfolding table_of
rows_of width capacity slots [] f = no_rows
rows_of width capacity slots (vs ∷ rows) f = row_first (written-there [] (table_of rows) vs width capacity slots f.0) f.0.bytes (rows_of width capacity slots rows f.1)

pub reads-table : ReadsTable
unfolding table_of
reads-table width capacity slots [] f = at_end (at-the-end [] width capacity slots)
reads-table width capacity slots (vs ∷ rows) f = reads_all (table_of (vs ∷ rows)) width capacity slots (vs ∷ rows) (rows_of width capacity slots (vs ∷ rows) f) f.0.ends

-- ---- what is read is a row, and within the limits

refused-not : {A : Type 0} (r : Refusal) (next size : ℕ) → Err r ≡ stored next size → A
refused-not r next size e = absurd (let z : ◌≡◌ {A = ℕ} 0 1 = cc in omega arith)

end-not : {A : Type 0} (next size : ℕ) → Ok None ≡ stored next size → A
end-not next size e = absurd (let z : ◌≡◌ {A = ℕ} 0 1 = cc in omega arith)

-- the offset after a row that was read
abbrev next_in : Result (Option Span) Refusal → ℕ
next_in (Ok (Some s)) = s.next
next_in (Ok None) = 0
next_in (Err r) = 0

-- a row was read: there is one, and `next` is the offset after it
record ReadAt (table : Text) (width offset next : ℕ) : Type 0 where
  values : List Text
  rest : Text
  is : row_at table width offset ≡ Csv.row values rest
  to : next ≡ offset + (length (part_at table offset) - length rest)

module _ (table : Text) (width offset capacity slots next size : ℕ) where
  in-found : (g : Csv.Row) → row_at table width offset ≡ g → found offset (length (part_at table offset)) capacity slots g ≡ stored next size → ReadAt table width offset next
  in-found Csv.malformed e q = refused-not Row next size q
  in-found (Csv.row vs r) e q = go (leb (length (joined vs)) capacity) (leb (length vs) slots) q
    where
      go : (s t : Bool) → pick {A = Result (Option Span) Refusal} s (pick t (stored (offset + (length (part_at table offset) - length r)) (length (joined vs))) (Err Small)) (Err Small) ≡ stored next size → ReadAt table width offset next
      go true true i = let n : next ≡ offset + (length (part_at table offset) - length r) = sym (ap next_in i) in record { values = vs; rest = r; is = e; to = n }
      go true false i = refused-not Small next size i
      go false t i = refused-not Small next size i

  in-answer : (s t : Bool) → pick s (pick t (Ok None) (found offset (length (part_at table offset)) capacity slots (row_at table width offset))) (Err Row) ≡ stored next size → ReadAt table width offset next
  in-answer true true q = end-not next size q
  in-answer true false q = in-found (row_at table width offset) refl q
  in-answer false t q = refused-not Row next size q

  read_at : read_answer table width offset capacity slots ≡ stored next size → ReadAt table width offset next
  unfolding read_answer
  read_at e = in-answer (leb offset (length table)) (eqb offset (length table)) e

pub stored-is-a-row : StoredIsARow
stored-is-a-row table width offset capacity slots next size e =
    let x = read_at table width offset capacity slots next size e in
    let n : ℕ = length (part_at table offset) - length x.rest in
    let v : values_at table width offset ≡ x.values = ap values_of x.is in
    let d : drop next table ≡ drop n (drop offset table) = ap (λ (k : ℕ). drop k table) x.to ∙ sym (drop-drop n offset table) in
    rw (v, d) (part-row max_row (drop offset table) (sound width (part_at table offset) x.values x.rest x.is).0)

pub stored-limits : StoredLimits
stored-limits table width offset capacity slots next size e =
    let x = read_at table width offset capacity slots next size e in
    let v : values_at table width offset ≡ x.values = ap values_of x.is in
    let l = not-longer width (part_at table offset) x.values x.rest x.is in
    record {
      within = omega (arith, x.to, length-take max_row (drop offset table));
      many = ap length v ∙ (sound width (part_at table offset) x.values x.rest x.is).1;
      afresh = omega (arith, x.to, l, ap (λ (y : List Text). length (row_of y)) v);
    }

-- ---- and nothing else: what reads as a row among 8,192 bytes is a row of them all

no-row : (table : Text) (width offset : ℕ) (g : Csv.Row) → row_at table width offset ≡ g → ((vs : List Text) (rest : Text) → RowThere table width offset vs rest → ⊥) → g ≡ Csv.malformed
no-row table width offset Csv.malformed e n = refl
no-row table width offset (Csv.row vs r) e n =
    let q = sound width (part_at table offset) vs r e in
    let d : Text = drop max_row (drop offset table) in
    let l : length (drop offset table) ≤ length (r ++ d) + max_row =
    omega (arith, ap length (take-append-drop max_row (drop offset table)), length-append (part_at table offset) d, length-take max_row (drop offset table), length-append r d) in
    absurd (n vs (r ++ d) (record { is = front-in-row max_row (drop offset table) q.0; wide = q.1; short = l }))

pub refuses-others : RefusesOthers
unfolding read_answer
refuses-others table width offset capacity slots m n = rw (ne_eqb offset (length table) m, no-row table width offset (row_at table width offset) refl n) (go (leb offset (length table)))
  where
    go : (t : Bool) → pick {A = Result (Option Span) Refusal} t (Err Row) (Err Row) ≡ Err Row
    go true = refl
    go false = refl

-- a lone CR is malformed, and the grammar has no such row
pub refuses-lone-cr : RefusesLoneCr
refuses-lone-cr table width offset capacity slots p = refuses-others table width offset capacity slots (λ e. omega (arith, lone-some p, length-drop offset table)) no
  where
    no : (vs : List Text) (rest : Text) → RowThere table width offset vs rest → ⊥
    no vs rest r =
        let q = complete r.is in
        let m = lone-cr (length vs) p in
        absurd (let z : ◌≡◌ {A = ℕ} 0 1 = cc in omega arith)
