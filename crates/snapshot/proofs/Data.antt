-- A table of a source is inside the bank's data: the header passed test 6, which bounds every block of every source below the count.
use mathlib.Core.Path.{◌≡◌, refl, ap, ◌∙◌, sym}
use mathlib.Core.Bool.{Bool, true, false, ◌&&◌, ◌||◌}
use mathlib.Core.List.{List, [], ◌∷◌}
use Prim.Native.Nat.{ℕ, zero, suc, ◌+◌, ◌*◌, ◌≤◌, ◌<◌}
use native.Mathlib.Nat.{zero-mul, suc-mul}
use native.Mathlib.Omega.{arith}
use borrow.Author.Tests.{eqb-true, leb-true}
use lib.Dec.{leb, eqb}
use lib.ListN.{take, drop, get_or}
use lib.Seq.{take-take, drop-drop}
use Rattle.record.specs.declared.Block.{Block}
use Rattle.record.specs.declared.Source.{Source}
use Rattle.record.specs.Record.{source_size, no_block}
use Rattle.base.specs.Lists.{many, each}
use Rattle.header.specs.declared.Bank.{Bank}
use Rattle.region.specs.Region.{sector_size, bank_of, data_of}
use Rattle.header.specs.Header.{record_at, dates_ok, updated_ok, block_ok, source_ok}
use Rattle.base.proofs.Bools.{and_left, and_right}
use Rattle.header.proofs.Laws.{passed}
use Rattle.bank.specs.Bank.{named}
use Rattle.bank.proofs.Sequence.{named-passes}
use Rattle.snapshot.specs.Source.{source_in}
use Rattle.snapshot.specs.Rows.{bytes_of}
use Rattle.snapshot.specs.Claims.{InData}
use Rattle.snapshot.proofs.RowsLaws.{its-number}
use Rattle.std.specs.Prelude.{Ok}

-- what holds of each element holds of one
each-nth : {A : Type 0} (p : A → Bool) (f : List ℕ → ℕ → A) (step : ℕ) (l : List ℕ) (at n i : ℕ) → each p (many f step l at n) ≡ true → i < n → p (f l (at + i * step)) ≡ true
unfolding each many
each-nth p f step l at zero i e h = absurd (omega (arith, h))
each-nth p f step l at (suc n) zero e h =
    let z : at + zero * step ≡ at = omega (arith, zero-mul step) in
    ap (λ k. p (f l k)) z ∙ and_left (p (f l at)) (each p (many f step l (at + step) n)) e
each-nth p f step l at (suc n) (suc i) e h =
    let z : at + suc i * step ≡ (at + step) + i * step = omega (arith, suc-mul i step) in
    ap (λ k. p (f l k)) z ∙ each-nth p f step l (at + step) n i (and_right (p (f l at)) (each p (many f step l (at + step) n)) e) (omega (arith, h))

each-get_d : {A : Type 0} (p : A → Bool) (xs : List A) (t : ℕ) (z : A) → each p xs ≡ true → p z ≡ true → p (get_or xs t z) ≡ true
unfolding each
each-get_d p [] t z e h = h
each-get_d p (x ∷ xs) zero z e h = and_left (p x) (each p xs) e
each-get_d p (x ∷ xs) (suc t) z e h = each-get_d p xs t z (and_right (p x) (each p xs) e) h

-- bytes that end within the first n are those of the first n
inside : (len off n : ℕ) (xs : List ℕ) → off + len ≤ n → take len (drop off (take n xs)) ≡ take len (drop off xs)
inside len zero n xs h = take-take len n xs (omega (arith, h))
inside len (suc off) zero xs h = absurd (omega (arith, h))
inside len (suc off) (suc n) [] h = refl
inside len (suc off) (suc n) (x ∷ xs) h = inside len off n xs (omega (arith, h))

block_in : (b : Bank) (t : Block) (xs : List ℕ) → block_ok b t ≡ true → take t.length (drop t.offset (take b.length xs)) ≡ take t.length (drop t.offset xs)
block_in b t xs e = go (eqb t.length 0) refl e
  where
    go : (s : Bool) → eqb t.length 0 ≡ s → (s || (leb b.key t.offset && leb (t.offset + t.length) b.length)) ≡ true
        → take t.length (drop t.offset (take b.length xs)) ≡ take t.length (drop t.offset xs)
    go true q j = rw (eqb-true t.length 0 q)
    go false q j = inside t.length t.offset b.length xs (leb-true (t.offset + t.length) b.length (and_right (leb b.key t.offset) (leb (t.offset + t.length) b.length) j))

blocks-ok : (b : Bank) (s : Source) → source_ok b s ≡ true → each (block_ok b) s.tables ≡ true
unfolding source_ok
blocks-ok b s e =
    and_right (updated_ok b.checked s.updated) (each (block_ok b) s.tables)
    (and_right (leb s.present 255) (updated_ok b.checked s.updated && each (block_ok b) s.tables)
    (and_right (dates_ok s) (leb s.present 255 && (updated_ok b.checked s.updated && each (block_ok b) s.tables)) e))

-- the block of a table of a source below the count passes 6
table-ok : (region : List ℕ) (n i t : ℕ) (b : Bank) → named region n ≡ Ok b → i < b.count → block_ok b (get_or (source_in region b i).tables t no_block) ≡ true
unfolding source_in
table-ok region n i t b e h =
    let p = passed n (bank_of region n) b (named-passes region n b e).header in
    let s = record_at b.version (bank_of region n) (48 + i * source_size b.version) in
    let o : source_ok b s ≡ true = each-nth (source_ok b) (record_at b.version) (source_size b.version) (bank_of region n) 48 b.count i p.sources h in
    rw (its-number region n b e) (each-get_d (block_ok b) s.tables t no_block (blocks-ok b s o) refl)

pub in-data : InData
unfolding bytes_of data_of
in-data region n i t b e h =
    let k = get_or (source_in region b i).tables t no_block in
    let l = bank_of region b.number in
    sym (block_in b k (drop sector_size l) (table-ok region n i t b e h) ∙ ap (take k.length) (drop-drop k.offset sector_size l))
