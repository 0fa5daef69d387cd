-- What the writers of a record's parts leave, joined: parts stored one right after the other are stored as one, so the whole is
-- `source_bytes`, of 384 bytes.
use mathlib.Core.Path.{◌≡◌, refl, ap, ◌∙◌, sym}
use mathlib.Core.List.{List, [], ◌∷◌, ◌++◌, append_assoc}
use Prim.Native.Nat.{ℕ, ◌+◌, ◌≤◌}
use native.Mathlib.Omega.{arith}
use lib.ListN.{length, take, drop, set, length-append}
use lib.Seq.{sets, sets-eq, drop-drop}
use Rattle.leaf.specs.Bytes.{le32, le64, written}
use Rattle.base.specs.Lists.{puts, fill}
use Rattle.leaf.proofs.Laws.{length-le32, written_next, written-sets}
use Rattle.base.proofs.Lists.{next, length-puts, length-fill}
use Rattle.record.specs.declared.Block.{Block}
use Rattle.record.specs.declared.Source.{Source}
use Rattle.record.specs.Types.{Sized}
use Rattle.record.specs.Record.{block_bytes, head_bytes, table_bytes, tail_bytes, source_bytes}

-- a part of a list overwritten, which is how a write to a part of a slice is seen
pub sets-part : (l v : List ℕ) (at k : ℕ) → k ≡ length v → at + k ≤ length l → take at l ++ (v ++ drop k (drop at l)) ≡ sets l at v
sets-part l v at k e h = rw (drop-drop k at l, e, ← append_assoc (take at l) v (drop (at + length v) l)) (sym (sets-eq v l at (omega arith)))

pub length-block : (b : Block) → length (block_bytes b) ≡ 12
unfolding block_bytes le32
length-block b = refl

pub block-is : (l : List ℕ) (i : ℕ) (b : Block) → i + 12 ≤ length l
    → written (written (written l i (le32 b.offset)) (i + 4) (le32 b.length)) (i + 8) (le32 b.crc) ≡ sets l i (block_bytes b)
unfolding block_bytes le32
block-is l i b h =
    ap (λ (t : List ℕ). written t (i + 8) (le32 b.crc)) (written_next l (le32 b.offset) (le32 b.length) i 4 refl (omega arith))
    ∙ written_next l (le32 b.offset ++ le32 b.length) (le32 b.crc) i 8 refl h
    ∙ written-sets l i (block_bytes b) h

pub head-is : (l : List ℕ) (i : ℕ) (s : Source) → i + 20 ≤ length l
    → written (written (written (written l i (le32 s.start)) (i + 4) (le32 s.end)) (i + 8) (le32 s.present)) (i + 12) (le64 s.updated) ≡ sets l i (head_bytes s)
unfolding head_bytes le32 le64
head-is l i s h =
    let a = le32 s.start in
    let b = le32 s.end in
    let d = le32 s.present in
    ap (λ (t : List ℕ). written (written t (i + 8) d) (i + 12) (le64 s.updated)) (written_next l a b i 4 refl (omega arith))
    ∙ ap (λ (t : List ℕ). written t (i + 12) (le64 s.updated)) (written_next l (a ++ b) d i 8 refl (omega arith))
    ∙ written_next l (a ++ b ++ d) (le64 s.updated) i 12 refl h
    ∙ written-sets l i (head_bytes s) h

pub tables-are : (l : List ℕ) (i : ℕ) (s : Source) → length s.original ≡ 16
    → sets (sets l i (puts le32 s.original)) (i + 64) (puts block_bytes s.tables) ≡ sets l i (table_bytes s)
unfolding table_bytes
tables-are l i s e = next l (puts le32 s.original) (puts block_bytes s.tables) i 64 (length-puts le32 4 length-le32 s.original ∙ omega arith)

pub tail-is : (l : List ℕ) (i : ℕ) (s : Source) → length s.stamp ≡ 12 → length s.id ≡ 80
    → sets (sets (set (sets l i s.stamp) (i + 12) s.idlen) (i + 13) s.id) (i + 93) s.validator ≡ sets l i (tail_bytes s)
unfolding tail_bytes
tail-is l i s e f =
    let n : List ℕ = s.idlen ∷ [] in
    ap (λ (t : List ℕ). sets (sets t (i + 13) s.id) (i + 93) s.validator) (next l s.stamp n i 12 e)
    ∙ ap (λ (t : List ℕ). sets t (i + 93) s.validator) (next l (s.stamp ++ n) s.id i 13 (length-append s.stamp n ∙ omega arith))
    ∙ next l ((s.stamp ++ n) ++ s.id) s.validator i 93 (length-append (s.stamp ++ n) s.id ∙ omega (arith, length-append s.stamp n))
    ∙ simp append_assoc

pub length-head : (s : Source) → length (head_bytes s) ≡ 20
unfolding head_bytes le32 le64
length-head s = refl

pub length-tables : (s : Source) → Sized s → length (table_bytes s) ≡ 160
unfolding table_bytes
length-tables s h =
    length-append (puts le32 s.original) (puts block_bytes s.tables)
    ∙ omega (arith, length-puts le32 4 length-le32 s.original, length-puts block_bytes 12 length-block s.tables, h.original, h.tables)

pub length-tail : (s : Source) → Sized s → length (tail_bytes s) ≡ 159
unfolding tail_bytes
length-tail s h =
    length-append s.stamp (s.idlen ∷ (s.id ++ s.validator))
    ∙ omega (arith, length-append s.id s.validator, h.stamp, h.id, h.validator)

pub source_is : (l : List ℕ) (i : ℕ) (s : Source) → Sized s
    → sets (sets (sets (sets l i (head_bytes s)) (i + 20) (table_bytes s)) (i + 180) (tail_bytes s)) (i + 339) (fill 0 45) ≡ sets l i (source_bytes s)
unfolding source_bytes
source_is l i s h =
    let a = head_bytes s in
    let b = table_bytes s in
    let d = tail_bytes s in
    let z : List ℕ = fill 0 45 in
    let n₁ = length-head s in
    let n₂ : length (a ++ b) ≡ 180 = length-append a b ∙ omega (arith, length-tables s h) in
    let n₃ : length ((a ++ b) ++ d) ≡ 339 = length-append (a ++ b) d ∙ omega (arith, length-tail s h) in
    ap (λ (t : List ℕ). sets (sets t (i + 180) d) (i + 339) z) (next l a b i 20 n₁)
    ∙ ap (λ (t : List ℕ). sets t (i + 339) z) (next l (a ++ b) d i 180 n₂)
    ∙ next l ((a ++ b) ++ d) z i 339 n₃
    ∙ simp append_assoc

pub length-source : (s : Source) → Sized s → length (source_bytes s) ≡ 384
unfolding source_bytes
length-source s h =
    length-append (head_bytes s) (table_bytes s ++ (tail_bytes s ++ fill 0 45))
    ∙ omega (
      arith,
      length-head s,
      length-tables s h,
      length-tail s h,
      length-fill {A = ℕ} 0 45,
      length-append (table_bytes s) (tail_bytes s ++ fill 0 45),
      length-append (tail_bytes s) (fill 0 45),
    )
