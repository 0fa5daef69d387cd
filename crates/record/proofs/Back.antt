-- A record that was written reads back: each field is at its offset, after the fields before it, whose lengths are known. Versions 1 and 2
-- have one table fewer, and what a shorter record lacks reads as zeros.
use mathlib.Core.Path.{◌≡◌, refl, ap, ◌∙◌, sym}
use mathlib.Core.List.{List, [], ◌∷◌, ◌++◌, append_assoc, append-nil}
use Prim.Native.Nat.{ℕ, ◌+◌, ◌≤◌}
use native.Mathlib.Omega.{arith}
use native.Mathlib.Nat.{add_assoc}
use lib.ListN.{length, length-append, length-take, take, get_or-eq_default}
use lib.Seq.{get_or_at, take_at}
use Rattle.leaf.specs.Bytes.{word, time, le32, le64}
use Rattle.base.specs.Lists.{many, puts, fill, byte}
use Rattle.leaf.proofs.Laws.{Shifts, word-shifts, word-front, time-front, length-le32}
use Rattle.base.proofs.Lists.{length-puts}
use Rattle.record.proofs.Reading.{run-back, bytes_back, words_back, past}
use Rattle.record.specs.declared.Block.{Block}
use Rattle.record.specs.declared.Source.{Source}
use Rattle.record.specs.Record.{block_at, block_bytes, source_of, decoded, head_bytes, table_bytes, tail_bytes, source_bytes}
use Rattle.record.proofs.Laws.{length-block, length-head, length-source}
use Rattle.record.specs.Types.{All, Block32, Sized, Ranged}
use Rattle.record.specs.Claims.{ReadsBack, Version1, SevenTables}

block-shifts : Shifts block_at
block-shifts p q k =
    rw (add_assoc (length p) k 4, add_assoc (length p) k 8, word-shifts p q k, word-shifts p q (k + 4), word-shifts p q (k + 8))

block_back : (b : Block) → Block32 b → (q : List ℕ) → block_at (block_bytes b ++ q) 0 ≡ b
unfolding block_bytes word le32
block_back b h q =
    let x = word-front b.offset (le32 b.length ++ (le32 b.crc ++ q)) h.offset in
    let y = word-front b.length (le32 b.crc ++ q) h.length in
    let z = word-front b.crc q h.crc in
    λ i. record { offset = x i; length = y i; crc = z i }

pub blocks-back : (bs : List Block) → All Block32 bs → (p q : List ℕ) (k n : ℕ) → length p ≡ k → length bs ≡ n → many block_at 12 (p ++ (puts block_bytes bs ++ q)) k n ≡ bs
blocks-back = run-back block_at 12 block-shifts block_bytes Block32 length-block block_back

module _ (s : Source) (z : Sized s) (h : Ranged s) (q : List ℕ) where
  a : List ℕ
  a = head_bytes s

  b : List ℕ
  b = puts le32 s.original

  d : List ℕ
  d = puts block_bytes s.tables

  r : List ℕ
  r = fill 0 45 ++ q

  all : List ℕ
  all = a ++ (b ++ (d ++ (s.stamp ++ ((s.idlen ∷ []) ++ (s.id ++ (s.validator ++ r))))))

  all-is : source_bytes s ++ q ≡ all
  unfolding source_bytes table_bytes tail_bytes all a b d r
  all-is = simp append_assoc

  la : length a ≡ 20
  unfolding a
  la = length-head s

  lb : length b ≡ 64
  unfolding b
  lb = length-puts le32 4 length-le32 s.original ∙ omega (arith, z.original)

  ld : length d ≡ 96
  unfolding d
  ld = length-puts block_bytes 12 length-block s.tables ∙ omega (arith, z.tables)

  original-back : many word 4 all 20 16 ≡ s.original
  unfolding all b
  original-back = words_back s.original h.original a _ 20 16 la z.original

  tables-back : many block_at 12 all 84 8 ≡ s.tables
  unfolding all d
  tables-back =
      let g : all ≡ (a ++ b) ++ (d ++ (s.stamp ++ ((s.idlen ∷ []) ++ (s.id ++ (s.validator ++ r))))) = simp append_assoc in
      rw g (blocks-back s.tables h.tables (a ++ b) _ 84 8 (length-append a b ∙ omega (arith, la, lb)) z.tables)

  abd : List ℕ
  abd = (a ++ b) ++ d

  labd : length abd ≡ 180
  unfolding abd
  labd = length-append (a ++ b) d ∙ omega (arith, length-append a b, la, lb, ld)

  stamp-back : many byte 1 all 180 12 ≡ s.stamp
  unfolding all abd
  stamp-back =
      let g : all ≡ abd ++ (s.stamp ++ ((s.idlen ∷ []) ++ (s.id ++ (s.validator ++ r)))) = simp append_assoc in
      rw g (bytes_back s.stamp abd _ 180 12 labd z.stamp)

  idlen-back : byte all 192 ≡ s.idlen
  unfolding all abd
  idlen-back =
      let g : all ≡ (abd ++ s.stamp) ++ (s.idlen ∷ (s.id ++ (s.validator ++ r))) = simp append_assoc in
      rw g (get_or_at (abd ++ s.stamp) s.idlen _ 0 192 (length-append abd s.stamp ∙ omega (arith, labd, z.stamp)))

  p193 : List ℕ
  p193 = (abd ++ s.stamp) ++ (s.idlen ∷ [])

  l193 : length p193 ≡ 193
  unfolding p193
  l193 = length-append (abd ++ s.stamp) (s.idlen ∷ []) ∙ omega (arith, length-append abd s.stamp, labd, z.stamp)

  id-back : many byte 1 all 193 80 ≡ s.id
  unfolding all abd p193
  id-back =
      let g : all ≡ p193 ++ (s.id ++ (s.validator ++ r)) = simp append_assoc in
      rw g (bytes_back s.id p193 _ 193 80 l193 z.id)

  validator-back : many byte 1 all 273 66 ≡ s.validator
  unfolding all abd p193
  validator-back =
      let g : all ≡ (p193 ++ s.id) ++ (s.validator ++ r) = simp append_assoc in
      rw g (bytes_back s.validator (p193 ++ s.id) r 273 66 (length-append p193 s.id ∙ omega (arith, l193, z.id)) z.validator)

  start_back : word all 0 ≡ s.start
  unfolding all a head_bytes word le32
  start_back = word-front s.start [] h.start

  end_back : word all 4 ≡ s.end
  unfolding all a head_bytes word le32
  end_back = word-front s.end [] h.end

  present-back : word all 8 ≡ s.present
  unfolding all a head_bytes word le32
  present-back = word-front s.present [] h.present

  updated-back : time all 12 ≡ s.updated
  unfolding all a head_bytes word le32 time le64
  updated-back = time-front s.updated [] h.updated

  source-back : source_of 8 (source_bytes s ++ q) ≡ s
  unfolding source_of fill
  source-back =
      ap (source_of 8) all-is
      ∙ (λ i. record {
        start = start_back i;
        end = end_back i;
        present = present-back i;
        updated = updated-back i;
        original = (append-nil (many word 4 all 20 16) ∙ original-back) i;
        tables = (append-nil (many block_at 12 all 84 8) ∙ tables-back) i;
        stamp = stamp-back i;
        idlen = idlen-back i;
        id = id-back i;
        validator = validator-back i;
      })

pub reads-back : ReadsBack
unfolding decoded
reads-back s z h rest =
    ap (source_of 8) (take_at (source_bytes s) rest 384 (length-source s z) ∙ sym (append-nil (source_bytes s))) ∙ source-back s z h []

short : (l : List ℕ) → length (take 160 l) ≤ 160
short l = rw (length-take 160 l) (omega arith)

pub version-1 : Version1
unfolding decoded source_of
version-1 l =
    let t = take 160 l in
    let h = short l in
    record {
      stamp = past 12 t 160 (omega arith);
      idlen = get_or-eq_default t 0 (omega arith);
      id = past 80 t 173 (omega arith);
      validator = past 66 t 253 (omega arith);
    }

pub seven-tables : SevenTables
unfolding decoded source_of many fill
seven-tables l = (refl, refl)
