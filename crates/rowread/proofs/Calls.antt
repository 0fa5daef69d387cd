-- The call's answers, one lemma a case: offset past the end, at the end, no row, an output too small, a row. A fast path's result is the
-- row's as well, since both hold what the reader reads.
use Prim.Native.Nat.{ℕ, ◌+◌, ◌-◌, ◌≤◌, ◌<◌, min}
use native.Mathlib.Omega.{arith}
use native.Mathlib.Decide.{dec_lt}
use mathlib.Core.Path.{◌≡◌, refl, sym, ap, ◌∙◌}
use mathlib.Core.List.{List, [], ◌∷◌}
use lib.ListN.{length, take, drop, length-drop}
use lib.Seq.{sets, take_all}
use borrow.Author.Tests.{lt-leb, le-leb, eq-eqb, ne_eqb}
use Rattle.leaf.proofs.Laws.{written-sets}
use Rattle.rfc4180.specs.Read as Csv
use Rattle.rfc4180.proofs.Grammar.{sound, complete}
use Rattle.refusal.specs.declared.Refusal.TheVariants.{Small, Row}
use Rattle.std.proofs.Common.{None, Ok, Err, Result, Option}
use Rattle.rowread.specs.Stored.{stored, part_at, row_at, values_of, values_at, joined, ends_of, found, read_answer, after}
use Rattle.rowread.proofs.Spans.{span-parts}
use Rattle.rowread.specs.Steps.{spanned, scan_from, scan_of, IsRow, Holds}
use Rattle.refusal.specs.declared.Refusal.{Refusal}
use Rattle.rowread.specs.declared.Span.{Span}

take_min : (n : ℕ) (l : List ℕ) → take (min n (length l)) l ≡ take n l
take_min n l = go (dec_lt n (length l))
  where
    go : Dec (n < length l) → take (min n (length l)) l ≡ take n l
    go (yes h) = let e : min n (length l) ≡ n = omega arith in rw e
    go (no h) = take_all (min n (length l)) l (omega arith) ∙ sym (take_all n l (omega arith))

pub length-ends : (from : ℕ) (vs : List (List ℕ)) → length (ends_of from vs) ≡ length vs
unfolding ends_of
length-ends from [] = refl
length-ends from (v ∷ vs) = ap Prim.Native.Nat.suc (length-ends (from + length v) vs)

pub scan-inside : (width : ℕ) (t : List ℕ) (next size : ℕ) → spanned next size ≡ scan_of width t → next ≤ length t
unfolding scan_of
scan-inside width t next size q = go (Csv.values width t) q
  where
    go : (g : Csv.Row) → spanned next size ≡ scan_from (length t) 0 g → next ≤ length t
    go Csv.malformed i = absurd (let z : ◌≡◌ {A = ℕ} 0 1 = cc in omega arith)
    go (Csv.row vs r) i = let a = (span-parts next size (length t - length r) (0 + length (joined vs)) i).0 in omega arith

-- what the call promises: the answer, and both outputs
pub record Answers (table : List ℕ) (width offset : ℕ) (out ends : List ℕ) (r : Result (Option Span) Refusal) (o e : List ℕ) : Type 0 where
  pub is : r ≡ read_answer table width offset (length out) (length ends)
  pub bytes : o ≡ after r (joined (values_at table width offset)) out
  pub marks : e ≡ after r (ends_of 0 (values_at table width offset)) ends

-- outputs that nothing was written to yet
pub since : {table : List ℕ} {width offset : ℕ} {out ends o s p q : List ℕ} {r : (Result (Option Span) Refusal)} → o ≡ out → s ≡ ends → Answers table width offset o s r p q → Answers table width offset out ends r p q
since e f a = rw (e, f) at a

module _ (table : List ℕ) (width offset : ℕ) (out ends : List ℕ) where
  pub read_past : length table < offset → Answers table width offset out ends (Err Row) out ends
  unfolding read_answer
  read_past h = record { is = rw (lt-leb offset (length table) h); bytes = refl; marks = refl }

  pub read-end : offset ≤ length table → offset ≡ length table → Answers table width offset out ends (Ok None) out ends
  unfolding read_answer
  read-end h e = record { is = rw (le-leb offset (length table) h, eq-eqb offset (length table) e); bytes = refl; marks = refl }

  module _ (h : offset ≤ length table) (e : offset ≡ length table → ⊥) where
    inside : read_answer table width offset (length out) (length ends) ≡ found offset (length (part_at table offset)) (length out) (length ends) (row_at table width offset)
    unfolding read_answer
    inside = rw (le-leb offset (length table) h, ne_eqb offset (length table) e)

    pub read-broken : None ≡ scan_of width (part_at table offset) → Answers table width offset out ends (Err Row) out ends
    unfolding scan_of
    read-broken q = record { is = go (row_at table width offset) q ∙ sym inside; bytes = refl; marks = refl }
      where
        go : (g : Csv.Row) → None ≡ scan_from (length (part_at table offset)) 0 g → Err Row ≡ found offset (length (part_at table offset)) (length out) (length ends) g
        go Csv.malformed i = refl
        go (Csv.row vs r) i = absurd (let z : ◌≡◌ {A = ℕ} 0 1 = cc in omega arith)

    module _ (next size : ℕ) (q : spanned next size ≡ scan_of width (part_at table offset)) where
      pub record Read : Type 0 where
        pub values : List (List ℕ)
        pub rest : List ℕ
        pub is : row_at table width offset ≡ Csv.row values rest
        pub to : next ≡ length (part_at table offset) - length rest
        pub bytes : size ≡ length (joined values)
        pub many : length values ≡ width

      pub the_row : Read
      unfolding scan_of
      the_row = go (row_at table width offset) refl q
        where
          go : (g : Csv.Row) → row_at table width offset ≡ g → spanned next size ≡ scan_from (length (part_at table offset)) 0 g → Read
          go Csv.malformed d i = absurd (let z : ◌≡◌ {A = ℕ} 0 1 = cc in omega arith)
          go (Csv.row vs r) d i =
              let e = span-parts next size (length (part_at table offset) - length r) (0 + length (joined vs)) i in
              let a = e.0 in
              let b = e.1 in
              record { values = vs; rest = r; is = d; to = a; bytes = omega arith; many = (sound width (part_at table offset) vs r d).1 }

      pub is_row : IsRow (row_at table width offset)
      is_row = rw the_row.is tt

      pub row-bytes : length (joined (values_at table width offset)) ≡ size
      row-bytes = rw the_row.is (sym the_row.bytes)

      here : read_answer table width offset (length out) (length ends) ≡ found offset (length (part_at table offset)) (length out) (length ends) (Csv.row the_row.values the_row.rest)
      here = inside ∙ rw the_row.is

      pub read_short : length out < size → Answers table width offset out ends (Err Small) out ends
      read_short l =
          let k : length out < length (joined the_row.values) = omega (arith, the_row.bytes) in
          record { is = sym (here ∙ rw (lt-leb (length (joined the_row.values)) (length out) k)); bytes = refl; marks = refl }

      module _ (l : size ≤ length out) where
        fits : length (joined the_row.values) ≤ length out
        fits = omega (arith, the_row.bytes)

        pub read-few : length ends < width → Answers table width offset out ends (Err Small) out ends
        read-few m =
            let k : length ends < length the_row.values = omega (arith, the_row.many) in
            record { is = sym (here ∙ rw (le-leb (length (joined the_row.values)) (length out) fits, lt-leb (length the_row.values) (length ends) k)); bytes = refl; marks = refl }

        pub read_whole : width ≤ length ends → (o s : List ℕ) → o ≡ sets out 0 (joined (values_at table width offset)) → s ≡ sets ends 0 (ends_of 0 (values_at table width offset))
            → Answers table width offset out ends (stored (offset + next) size) o s
        read_whole m o s p w =
            let k : length the_row.values ≤ length ends = omega (arith, the_row.many) in
            let v : values_at table width offset ≡ the_row.values = ap values_of the_row.is in
            let y = row-bytes in
            let x : length (ends_of 0 (values_at table width offset)) ≡ width = length-ends 0 (values_at table width offset) ∙ ap length v ∙ the_row.many in
            record {
              is = sym (here ∙ rw (le-leb (length (joined the_row.values)) (length out) fits, le-leb (length the_row.values) (length ends) k, ← the_row.to, ← the_row.bytes));
              bytes = p ∙ sym (written-sets out 0 (joined (values_at table width offset)) (omega arith));
              marks = w ∙ sym (written-sets ends 0 (ends_of 0 (values_at table width offset)) (omega arith));
            }

    -- by a fast path
    pub read-quick : {o s : List ℕ} {next size : ℕ} → Holds (part_at table offset) 0 0 0 width out ends o s next size → Answers table width offset out ends (stored (offset + next) size) o s
    unfolding scan_of
    read-quick {o} {s} {next} {size} x =
        let t = part_at table offset in
        let m : length x.values ≡ width = omega (arith, x.many) in
        let c : row_at table width offset ≡ Csv.row x.values (drop next t) = rw m at (complete x.read) in
        let n : length t - length (drop next t) ≡ next = omega (arith, length-drop next t, x.inside) in
        read_whole next size (rw (c, n, x.sized)) x.fits x.slots o s (x.bytes ∙ rw c) (x.marks ∙ rw c)
