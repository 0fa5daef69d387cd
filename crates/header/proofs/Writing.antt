-- What the writers of a header's parts leave, joined: into 1,200 zeros go 40 bytes of numbers, the records from 48 on, then CRC and commit
-- word between them. Stores that follow each other are stored as one.
use mathlib.Core.Path.{◌≡◌, refl, ap, ◌∙◌, sym}
use mathlib.Core.Bool.{Bool, true, false, ◌&&◌}
use mathlib.Core.List.{List, [], ◌++◌, append_assoc}
use Prim.Native.Nat.{ℕ, ◌+◌, ◌*◌, ◌-◌, ◌≤◌, min}
use native.Mathlib.Omega.{arith}
use borrow.Author.Tests.{leb-true, leb-false}
use lib.Dec.{leb}
use lib.IntN.{pos}
use lib.ListN.{length, take, length-append}
use lib.Seq.{sets, length-sets, length-take-le, take_all}
use Rattle.base.specs.Number.{pick}
use Rattle.leaf.specs.Bytes.{word, le32, le64, written}
use Rattle.leaf.specs.Crc.{crc32}
use Rattle.leaf.proofs.Laws.{length-le32, written_next, written-sets}
use Rattle.record.specs.declared.Source.{Source}
use Rattle.record.specs.Record.{source_bytes}
use Rattle.base.specs.Lists.{puts, fill, each}
use Rattle.base.proofs.Lists.{next, fill-split, sets-mid, length-fill}
use Rattle.refusal.specs.declared.Refusal.TheVariants.{Span, Source as BadSource}
use Rattle.header.specs.declared.Bank.{Bank}
use Rattle.header.specs.Header.{magic, span_ok, source_ok, judge, header_size}
use Rattle.header.specs.WriteHeader.{magic_to_length, crc_to_checked, number_bytes, record_bytes, crc_of, header_bytes, blank_word, passes}
use Rattle.std.specs.Prelude.{Ok, Err}

-- a number that fits in 1,200 bytes is stored, and they are still 1,200
put-fits : (l : List ℕ) (at n : ℕ) → length l ≡ header_size → at + 4 ≤ header_size → written l at (le32 n) ≡ sets l at (le32 n)
put-fits l at n e h = written-sets l at (le32 n) (rw (length-le32 n, e) h)

kept : (l : List ℕ) (at : ℕ) (v : List ℕ) → length l ≡ header_size → length (sets l at v) ≡ header_size
kept l at v e = length-sets l at v ∙ e

magic-is : 1128682580 ≡ magic
unfolding word
magic-is = refl

pub magic-to-length-written : (l : List ℕ) (b : Bank) → length l ≡ header_size
    → written (written (written (written l 0 (le32 1128682580)) 4 (le32 b.version)) 8 (le32 b.generation)) 12 (le32 b.length) ≡ sets l 0 (magic_to_length b)
unfolding magic_to_length le32
magic-to-length-written l b e =
    let m = le32 magic in
    let v = le32 b.version in
    let g = le32 b.generation in
    let n = le32 b.length in
    ap (λ (k : ℕ). written (written (written (written l 0 (le32 k)) 4 v) 8 g) 12 n) magic-is
    ∙ ap (λ (t : List ℕ). written (written t 8 g) 12 n) (written_next l m v 0 4 refl (omega arith))
    ∙ ap (λ (t : List ℕ). written t 12 n) (written_next l (m ++ v) g 0 8 refl (omega arith))
    ∙ written_next l (m ++ v ++ g) n 0 12 refl (omega arith)
    ∙ written-sets l 0 (magic_to_length b) (omega arith)

pub crc-to-checked-written : (l : List ℕ) (b : Bank) → length l ≡ header_size
    → written (written (written (written (written l 16 (le32 b.crc)) 20 (le32 b.count)) 24 (le32 b.key)) 28 (le32 0)) 32 (le64 b.checked) ≡ sets l 16 (crc_to_checked b)
unfolding crc_to_checked le32 le64
crc-to-checked-written l b e =
    let d = le32 b.crc in
    let n = le32 b.count in
    let k = le32 b.key in
    let z = le32 0 in
    let t = le64 b.checked in
    ap (λ (x : List ℕ). written (written (written x 24 k) 28 z) 32 t) (written_next l d n 16 4 refl (omega arith))
    ∙ ap (λ (x : List ℕ). written (written x 28 z) 32 t) (written_next l (d ++ n) k 16 8 refl (omega arith))
    ∙ ap (λ (x : List ℕ). written x 32 t) (written_next l (d ++ n ++ k) z 16 12 refl (omega arith))
    ∙ written_next l (d ++ n ++ k ++ z) t 16 16 refl (omega arith)
    ∙ written-sets l 16 (crc_to_checked b) (omega arith)

pub length-numbers : (b : Bank) → length (number_bytes b) ≡ 40
unfolding magic_to_length crc_to_checked le32 le64
length-numbers b = refl

pub numbers-are : (l : List ℕ) (b : Bank) → sets (sets l 0 (magic_to_length b)) 16 (crc_to_checked b) ≡ sets l 0 (number_bytes b)
unfolding magic_to_length le32
numbers-are l b = next l (magic_to_length b) (crc_to_checked b) 0 16 refl

-- 40 bytes, and m from 48 on, stored into 1,200 zeros
bare-over : (f r : List ℕ) (m k : ℕ) → length f ≡ 40 → length r ≡ m → m + k ≡ 1152 → sets (sets (fill 0 header_size) 0 f) 48 r ≡ f ++ (fill 0 8 ++ (r ++ fill 0 k))
bare-over f r m k lf lr e =
    let x : List ℕ = fill 0 m in
    let y : List ℕ = fill 0 k in
    let z : List ℕ = fill 0 8 in
    let d : fill {A = ℕ} 0 1152 ≡ x ++ y = ap (fill {A = ℕ} 0) (sym e) ∙ fill-split 0 m k in
    let g : sets (fill 0 header_size) 0 f ≡ f ++ (z ++ fill 0 1152) =
    ap (λ (t : List ℕ). sets t 0 f) (fill-split 0 40 1160)
    ∙ sets-mid [] (fill 0 40) f (fill 0 1160) 0 refl (length-fill {A = ℕ} 0 40 ∙ sym lf)
    ∙ ap (λ (t : List ℕ). f ++ t) (fill-split 0 8 1152) in
    let q : length (f ++ z) ≡ 48 = length-append f z ∙ omega (arith, length-fill {A = ℕ} 0 8) in
    let h : sets (fill 0 header_size) 0 f ≡ (f ++ z) ++ (x ++ y) = g ∙ rw d (sym (append_assoc f z (x ++ y))) in
    rw (h, sets-mid (f ++ z) x r y 48 q (length-fill {A = ℕ} 0 m ∙ sym lr)) (append_assoc f z (r ++ y))

-- and eight bytes stored between them
seal-over : (f s w d : List ℕ) → length f ≡ 40 → length s ≡ 4 → length w ≡ 4 → sets (sets (f ++ (fill 0 8 ++ d)) 40 s) 44 w ≡ f ++ (s ++ (w ++ d))
seal-over f s w d lf ls lw =
    let z : List ℕ = fill 0 4 in
    let l : length z ≡ 4 = length-fill {A = ℕ} 0 4 in
    let e : f ++ (fill 0 8 ++ d) ≡ f ++ (z ++ (z ++ d)) = ap (λ (t : List ℕ). f ++ (t ++ d)) (fill-split 0 4 4) ∙ simp append_assoc in
    let q : length (f ++ s) ≡ 44 = length-append f s ∙ omega arith in
    rw (e, sets-mid f z s (z ++ d) 40 lf (l ∙ sym ls), ← append_assoc f s (z ++ d), sets-mid (f ++ s) z w d 44 q (l ∙ sym lw)) (append_assoc f s (w ++ d))

word-is : le32 4294967295 ≡ blank_word
unfolding le32 blank_word fill
word-is = refl

-- the header without its CRC and commit word
bare-is : (b : Bank) (ss : List Source) → length (puts source_bytes ss) ≡ length ss * 384 → length ss ≤ 3
    → sets (sets (fill 0 header_size) 0 (number_bytes b)) 48 (puts source_bytes ss) ≡ number_bytes b ++ (fill 0 8 ++ record_bytes ss)
unfolding record_bytes
bare-is b ss m c = bare-over (number_bytes b) (puts source_bytes ss) (length ss * 384) ((3 - length ss) * 384) (length-numbers b) m (omega arith)

-- and with both
header_is : (b : Bank) (ss : List Source) → sets (sets (number_bytes b ++ (fill 0 8 ++ record_bytes ss)) 40 (le32 (crc_of b ss))) 44 blank_word ≡ header_bytes b ss blank_word
unfolding header_bytes
header_is b ss = seal-over (number_bytes b) (le32 (crc_of b ss)) blank_word (record_bytes ss) (length-numbers b) (length-le32 (crc_of b ss)) (ap length (sym word-is) ∙ length-le32 4294967295)

-- ---- the judge

by_tests : (b : Bank) (s t : Bool) → passes (pick s (pick t (Ok b) (Err BadSource)) (Err Span)) ≡ (s && t)
by_tests b true true = refl
by_tests b true false = refl
by_tests b false t = refl

-- `judge` passes exactly if both tests, 5 and 6, hold
pub judge-is : (b : Bank) (ss : List Source) → passes (judge b ss) ≡ (span_ok b && each (source_ok b) ss)
unfolding judge
judge-is b ss = by_tests b (span_ok b) (each (source_ok b) ss)

-- ---- the records below the count

-- what a read past the end of an array of records gives
abbrev pub no_source : Source
no_source = record { start = 0; end = 0; present = 0; updated = pos 0; original = []; tables = []; stamp = []; idlen = 0; id = []; validator = [] }

pub below-count : (ss : List Source) (n : ℕ) → length ss ≡ 3 → take (min n 3) ss ≡ take n ss
below-count ss n e = by_size (leb n 3) refl
  where
    by_size : (t : Bool) → leb n 3 ≡ t → take (min n 3) ss ≡ take n ss
    by_size true h =
        let k : min n 3 ≡ n = omega (arith, leb-true n 3 h) in
        ap (λ (j : ℕ). take j ss) k
    by_size false h =
        let k : min n 3 ≡ 3 = omega (arith, leb-false n 3 h) in
        ap (λ (j : ℕ). take j ss) k ∙ take_all 3 ss (omega arith) ∙ sym (take_all n ss (omega (arith, leb-false n 3 h)))

-- ---- the whole header

pub header-written : (b : Bank) (ss : List Source) (n : ℕ) (l : List ℕ) → length ss ≡ 3 → n ≡ min b.count 3 → length (puts source_bytes (take n ss)) ≡ n * 384
    → l ≡ sets (sets (sets (fill 0 header_size) 0 (magic_to_length b)) 16 (crc_to_checked b)) 48 (puts source_bytes (take n ss))
    → written (written l 40 (le32 (crc32 0 l))) 44 (le32 4294967295) ≡ header_bytes b (take b.count ss) blank_word
unfolding crc_of
header-written b ss n l three en m e =
    let t = take n ss in
    let k : length t ≡ n = length-take-le n ss (omega arith) in
    let z : List ℕ = fill 0 header_size in
    let l₁ = sets z 0 (magic_to_length b) in
    let l₂ = sets l₁ 16 (crc_to_checked b) in
    let e₂ = kept l₁ 16 (crc_to_checked b) (kept z 0 (magic_to_length b) (length-fill {A = ℕ} 0 header_size)) in
    let e₃ : length l ≡ header_size = ap length e ∙ kept l₂ 48 (puts source_bytes t) e₂ in
    let bare : l ≡ number_bytes b ++ (fill 0 8 ++ record_bytes t) = e ∙ ap (λ (x : List ℕ). sets x 48 (puts source_bytes t)) (numbers-are z b) ∙ bare-is b t (m ∙ ap (λ (j : ℕ). j * 384) (sym k)) (omega arith) in
    let s = le32 (crc32 0 l) in
    let e₄ : length (sets l 40 s) ≡ header_size = kept l 40 s e₃ in
    rw (put-fits l 40 (crc32 0 l) e₃ (omega arith), put-fits (sets l 40 s) 44 4294967295 e₄ (omega arith), word-is)
    (ap (λ (x : List ℕ). sets (sets x 40 (le32 (crc32 0 x))) 44 blank_word) bare
    ∙ header_is b t
    ∙ ap (λ (x : List Source). header_bytes b x blank_word) (ap (λ (j : ℕ). take j ss) en ∙ below-count ss b.count three))
