-- Where an update's bytes are in its bank, and that each operation keeps it: an erase makes a sector blank, a write over blank bytes leaves
-- its own, and the padding is 255, which changes nothing.
use mathlib.Core.Path.{◌≡◌, refl, sym, ap, ◌∙◌, subst}
use mathlib.Core.Bool.{false}
use mathlib.Core.List.{List, [], ◌++◌, append_assoc, append-nil}
use Prim.Native.Nat.{ℕ, zero, suc, ◌+◌, ◌-◌, ◌%◌, ◌≤◌, ◌<◌, zero-le}
use native.Mathlib.Omega.{arith}
use lib.ListN.{length, take, drop, length-append, take-append-drop}
use lib.Seq.{length-take-le, drop_at, take_at}
use Rattle.record.specs.declared.Source.{Source}
use Rattle.base.specs.Lists.{fill, byte}
use Rattle.record.specs.Types.{All}
use Rattle.base.proofs.Lists.{length-fill, fill-split}
use Rattle.header.specs.declared.Bank.{Bank}
use Rattle.region.specs.Region.{bank_size, sector_size, data_of, capacity}
use Rattle.header.specs.Header.{marked, commit_offset}
use Rattle.header.specs.WriteHeader.{header_bytes, blank_word, commit_bytes, record_bytes}
use Rattle.header.specs.Types.{Bytes, Proper}
use Rattle.header.proofs.WriteLaws.{unmarked, no-magic, blank-47, length-header, bytes-header, bytes-blank-word, length-blank-word, length-commit-bytes, bytes-commit-bytes, bytes-append, header-split, top_bytes, length-top}
use Rattle.flash.specs.Flash.{Op, erase, write, offset, done}
use Rattle.flash.proofs.Laws.{done-before, write-leaves-255, erase-over, write-over}
use Rattle.writer.specs.declared.Contents.{Contents}
use Rattle.due.specs.Due.{padded}
use Rattle.powerloss.proofs.Bytes.{bytes_take, bytes-fill}
use Rattle.powerloss.proofs.Inv.{Bare, Laid}
use Rattle.writer.specs.State.{tail_size}

fill_none : fill {A = ℕ} 255 0 ≡ []
unfolding fill
fill_none = refl

byte-fill : (n i : ℕ) (x : List ℕ) → i < n → byte (fill 255 n ++ x) i ≡ 255
unfolding fill
byte-fill zero i x h = absurd (omega arith)
byte-fill (suc n) zero x h = refl
byte-fill (suc n) (suc i) x h = byte-fill n i x (omega arith)

-- the header sector is blank
pub laid-blank : (lo hi wr fl : ℕ) (tail d b : List ℕ) → Laid lo hi wr fl tail d b → (i : ℕ) → i < sector_size → byte b i ≡ 255
laid-blank lo hi wr fl tail d b h i l =
    ap (λ (x : List ℕ). byte x i) h.lies ∙ byte-fill sector_size i (h.front ++ (fill 255 h.gap ++ h.rest)) l

-- and stays unmarked under an operation at a later offset, however many of its bytes are done
pub later-unmarked : (lo hi wr fl : ℕ) (tail d b : List ℕ) → Laid lo hi wr fl tail d b → (j : ℕ) (op : Op) → 0 < offset op → offset op ≤ length b → marked (done j op b) ≡ false
later-unmarked lo hi wr fl tail d b h j op p l =
    no-magic (done j op b) (done-before j op 0 b p l ∙ laid-blank lo hi wr fl tail d b h 0 (omega arith))

-- nor does the header's write mark it, however many bytes are done: its byte 47 is 255
pub head-unmarked : (lo hi wr fl : ℕ) (tail d b : List ℕ) → Laid lo hi wr fl tail d b → (j : ℕ) (k : Bank) (ss : List Source) → marked (done j (write 0 (header_bytes k ss blank_word)) b) ≡ false
head-unmarked lo hi wr fl tail d b h j k ss =
    unmarked (done j (write 0 (header_bytes k ss blank_word)) b)
    (write-leaves-255 j 0 47 (header_bytes k ss blank_word) b zero-le (blank-47 k ss) (laid-blank lo hi wr fl tail d b h 47 (omega arith)))

-- the header sector's erase
pub bare-erase : (t : Contents) (tail d b : List ℕ) → Bare t.written t.fill tail d → length b ≡ bank_size → Laid 0 sector_size t.written t.fill tail d (done sector_size (erase 0) b)
bare-erase t tail d b f l =
    let e : done sector_size (erase 0) b ≡ fill 255 sector_size ++ drop sector_size b =
    ap (λ (x : List ℕ). done sector_size (erase 0) x) (sym (take-append-drop sector_size b)) ∙ erase-over [] (take sector_size b) (drop sector_size b) 0 refl (length-take-le sector_size b (omega arith)) in
    record {
      front = [];
      rest = drop sector_size b;
      gap = 0;
      lies = e ∙ ap (λ (x : List ℕ). fill 255 sector_size ++ (x ++ drop sector_size b)) (sym fill_none);
      count = sym f.written;
      all = f.all;
      ends = rw f.written;
      least = omega arith;
      most = omega arith;
    }

module _ (t : Contents) (tail d b : List ℕ) (l : length b ≡ bank_size) where
  -- a data sector's erase
  module _ (h : Laid 0 sector_size t.written t.fill tail d b) (z : t.written % sector_size ≡ 0) (f : t.written + t.fill ≤ capacity) (p : 0 < t.fill) where
    pre : List ℕ
    pre = fill 255 sector_size ++ h.front

    no_gap : h.gap ≡ 0
    no_gap = omega (arith, h.ends, h.most)

    length-pre : length pre ≡ sector_size + t.written
    unfolding pre
    length-pre = length-append (fill 255 sector_size) h.front ∙ omega (arith, length-fill {A = ℕ} 255 sector_size, h.count)

    lies-pre : b ≡ pre ++ h.rest
    unfolding pre
    lies-pre =
        h.lies
        ∙ ap (λ (n : ℕ). fill 255 sector_size ++ (h.front ++ (fill 255 n ++ h.rest))) no_gap
        ∙ ap (λ (x : List ℕ). fill 255 sector_size ++ (h.front ++ (x ++ h.rest))) fill_none
        ∙ sym (append_assoc (fill 255 sector_size) h.front h.rest)

    rest-long : sector_size ≤ length h.rest
    rest-long = omega (arith, length-pre, ap length lies-pre, length-append pre h.rest)

    pub laid-erase : (at : ℕ) → at ≡ sector_size + t.written → Laid tail_size 4097 t.written t.fill tail d (done sector_size (erase at) b)
    unfolding pre
    laid-erase at e =
        let r = h.rest in
        let g : done sector_size (erase at) b ≡ pre ++ (fill 255 sector_size ++ drop sector_size r) =
        ap (λ (x : List ℕ). done sector_size (erase at) x) (lies-pre ∙ ap (λ (x : List ℕ). pre ++ x) (sym (take-append-drop sector_size r)))
        ∙ erase-over pre (take sector_size r) (drop sector_size r) at (length-pre ∙ sym e) (length-take-le sector_size r rest-long) in
        record {
          front = h.front;
          rest = drop sector_size r;
          gap = sector_size;
          lies = g ∙ append_assoc (fill 255 sector_size) h.front (fill 255 sector_size ++ drop sector_size r);
          count = h.count;
          all = h.all;
          ends = omega arith;
          least = omega arith;
          most = omega arith;
        }

  -- the tail's write
  module _ (h : Laid tail_size 4097 t.written t.fill tail d b) (k : Bytes tail) (lt : length tail ≡ tail_size) (s : t.fill ≤ tail_size) (p : 0 < t.fill) where
    part : List ℕ
    part = take t.fill tail

    pads : ℕ
    pads = (4 - t.fill % 4) % 4

    length_part : length part ≡ t.fill
    unfolding part
    length_part = length-take-le t.fill tail (omega arith)

    padded-is : padded part ≡ part ++ fill 255 pads
    unfolding padded pads
    padded-is = ap (λ (n : ℕ). part ++ fill 255 ((4 - n % 4) % 4)) length_part

    few : pads < 4
    unfolding pads
    few = omega arith

    fits-gap : t.fill + pads ≤ h.gap
    unfolding pads
    fits-gap = omega (arith, h.least)

    length-padded : length (padded part) ≡ t.fill + pads
    length-padded = ap length padded-is ∙ length-append part (fill 255 pads) ∙ omega (arith, length_part, length-fill {A = ℕ} 255 pads)

    left : ℕ
    left = h.gap - (t.fill + pads)

    bytes-part : Bytes part
    unfolding part
    bytes-part = bytes_take t.fill tail k

    bytes-padded : Bytes (padded part)
    bytes-padded = subst Bytes (sym padded-is) (bytes-append part (fill 255 pads) bytes-part (bytes-fill 255 pads (omega arith)))

    front_of : List ℕ
    front_of = fill 255 sector_size ++ h.front

    length_front : length front_of ≡ sector_size + t.written
    unfolding front_of
    length_front = length-append (fill 255 sector_size) h.front ∙ omega (arith, length-fill {A = ℕ} 255 sector_size, h.count)

    lies-front : b ≡ front_of ++ (fill 255 (length (padded part)) ++ (fill 255 left ++ h.rest))
    unfolding front_of left
    lies-front =
        let e : h.gap ≡ length (padded part) + left = omega (arith, length-padded, fits-gap) in
        h.lies
        ∙ ap (λ (n : ℕ). fill 255 sector_size ++ (h.front ++ (fill 255 n ++ h.rest))) e
        ∙ ap (λ (x : List ℕ). fill 255 sector_size ++ (h.front ++ (x ++ h.rest))) (fill-split {A = ℕ} 255 (length (padded part)) left)
        ∙ ap (λ (x : List ℕ). fill 255 sector_size ++ (h.front ++ x)) (append_assoc (fill 255 (length (padded part))) (fill 255 left) h.rest)
        ∙ sym (append_assoc (fill 255 sector_size) h.front (fill 255 (length (padded part)) ++ (fill 255 left ++ h.rest)))

    after_write : done (length (padded part)) (write (sector_size + t.written) (padded part)) b ≡ fill 255 sector_size ++ ((h.front ++ part) ++ (fill 255 (pads + left) ++ h.rest))
    unfolding front_of
    after_write =
        ap (λ (x : List ℕ). done (length (padded part)) (write (sector_size + t.written) (padded part)) x) lies-front
        ∙ write-over front_of (padded part) (fill 255 left ++ h.rest) (sector_size + t.written) length_front bytes-padded
        ∙ ap (λ (x : List ℕ). front_of ++ (x ++ (fill 255 left ++ h.rest))) padded-is
        ∙ ap (λ (x : List ℕ). front_of ++ x) (append_assoc part (fill 255 pads) (fill 255 left ++ h.rest))
        ∙ ap (λ (x : List ℕ). front_of ++ (part ++ x)) (sym (append_assoc (fill 255 pads) (fill 255 left) h.rest))
        ∙ ap (λ (x : List ℕ). front_of ++ (part ++ (x ++ h.rest))) (sym (fill-split {A = ℕ} 255 pads left))
        ∙ append_assoc (fill 255 sector_size) h.front (part ++ (fill 255 (pads + left) ++ h.rest))
        ∙ ap (λ (x : List ℕ). fill 255 sector_size ++ x) (sym (append_assoc h.front part (fill 255 (pads + left) ++ h.rest)))

    laid-all : d ≡ (h.front ++ part) ++ take 0 tail
    unfolding part
    laid-all = h.all ∙ sym (append-nil (h.front ++ part))

    pub laid-write : Laid 0 sector_size (t.written + t.fill) 0 tail d (done (length (padded (take t.fill tail))) (write (sector_size + t.written) (padded (take t.fill tail))) b)
    unfolding left part
    laid-write =
        record {
          front = h.front ++ part;
          rest = h.rest;
          gap = pads + left;
          lies = after_write;
          count = length-append h.front part ∙ omega (arith, length_part, h.count);
          all = laid-all;
          ends = omega (arith, h.ends, fits-gap);
          least = omega arith;
          most = omega (arith, h.most, fits-gap);
        }

-- ---- the header

module _ (k : Bank) (ss : List Source) (ps : All Proper ss) (n : length ss ≤ 3) where
  pub header-write : (t : Contents) (tail d b : List ℕ) → Laid 0 sector_size t.written t.fill tail d b → t.fill ≡ 0 → (rest : List ℕ)
      × (done (length (header_bytes k ss blank_word)) (write 0 (header_bytes k ss blank_word)) b ≡ header_bytes k ss blank_word ++ (fill 255 2896 ++ (d ++ rest)))
  header-write t tail d b h z =
      let hw = header_bytes k ss blank_word in
      let y = fill 255 h.gap ++ h.rest in
      let f : h.front ≡ d = sym (h.all ∙ ap (λ (m : ℕ). h.front ++ take m tail) z ∙ append-nil h.front) in
      let l : length hw ≡ 1200 = length-header k ss blank_word ps n length-blank-word in
      let q : b ≡ fill 255 (length hw) ++ (fill 255 2896 ++ (h.front ++ y)) =
      h.lies
      ∙ ap (λ (x : List ℕ). x ++ (h.front ++ y)) (fill-split {A = ℕ} 255 1200 2896)
      ∙ append_assoc (fill 255 1200) (fill 255 2896) (h.front ++ y)
      ∙ ap (λ (m : ℕ). fill 255 m ++ (fill 255 2896 ++ (h.front ++ y))) (sym l) in (
        y,
        ap (λ (x : List ℕ). done (length hw) (write 0 hw) x) q
            ∙ write-over [] hw (fill 255 2896 ++ (h.front ++ y)) 0 refl (bytes-header k ss blank_word ps bytes-blank-word)
            ∙ ap (λ (x : List ℕ). hw ++ (fill 255 2896 ++ (x ++ y))) f,
      )

  pub word_write : (y : List ℕ) → done (length commit_bytes) (write commit_offset commit_bytes) (header_bytes k ss blank_word ++ y) ≡ header_bytes k ss commit_bytes ++ y
  unfolding blank_word
  word_write y =
      let t = top_bytes k ss in
      let r = record_bytes ss in
      let e : header_bytes k ss blank_word ++ y ≡ t ++ (fill 255 (length commit_bytes) ++ (r ++ y)) =
      ap (λ (x : List ℕ). x ++ y) (header-split k ss blank_word)
      ∙ append_assoc t (blank_word ++ r) y
      ∙ ap (λ (x : List ℕ). t ++ x) (append_assoc blank_word r y)
      ∙ ap (λ (m : ℕ). t ++ (fill 255 m ++ (r ++ y))) (sym length-commit-bytes) in
      ap (λ (x : List ℕ). done (length commit_bytes) (write commit_offset commit_bytes) x) e
      ∙ write-over t commit_bytes (r ++ y) 44 (length-top k ss) bytes-commit-bytes
      ∙ ap (λ (x : List ℕ). t ++ x) (sym (append_assoc commit_bytes r y))
      ∙ sym (append_assoc t (commit_bytes ++ r) y)
      ∙ ap (λ (x : List ℕ). x ++ y) (sym (header-split k ss commit_bytes))

  -- the data are after the header sector
  pub header-data : (d rest : List ℕ) → data_of (header_bytes k ss commit_bytes ++ (fill 255 2896 ++ (d ++ rest))) (length d) ≡ d
  unfolding data_of
  header-data d rest =
      let hw = header_bytes k ss commit_bytes in
      let l : length (hw ++ fill 255 2896) ≡ sector_size =
      length-append hw (fill 255 2896) ∙ omega (arith, length-header k ss commit_bytes ps n length-commit-bytes, length-fill {A = ℕ} 255 2896) in
      ap (λ (x : List ℕ). take (length d) (drop sector_size x)) (sym (append_assoc hw (fill 255 2896) (d ++ rest)))
      ∙ ap (take (length d)) (drop_at (hw ++ fill 255 2896) (d ++ rest) sector_size l)
      ∙ take_at d rest (length d) refl
