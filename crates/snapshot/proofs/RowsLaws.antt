-- The block of a table, case by case: table, region, bank and source in the order of the definition. If it is found, the bytes read are the
-- table's, and the row's answer is that of the reader.
use mathlib.Core.Path.{◌≡◌, refl, ap, ◌∙◌, sym}
use mathlib.Core.Bool.{Bool, true, false}
use mathlib.Core.List.{List}
use Prim.Native.Nat.{ℕ}
use native.Mathlib.Omega.{arith}
use lib.Dec.{leb, eqb, ltb}
use lib.ListN.{length, get_or}
use Rattle.refusal.specs.declared.Refusal.{Refusal}
use Rattle.refusal.specs.declared.Refusal.TheVariants.{Region, Argument, Source as NoSuchSource}
use Rattle.base.specs.Number.{pick}
use Rattle.record.specs.declared.Block.{Block}
use Rattle.record.specs.declared.Source.{Source}
use Rattle.record.specs.Record.{no_block}
use Rattle.header.specs.declared.Bank.{Bank}
use Rattle.region.specs.Region.{region_size, bank_of}
use Rattle.header.specs.Header.{numbers_of}
use Rattle.header.proofs.Laws.{passed}
use Rattle.bank.specs.Bank.{named}
use Rattle.bank.proofs.Sequence.{named-passes}
use Rattle.snapshot.specs.Source.{source_in, then_source, source_answer}
use Rattle.snapshot.specs.Freshness.{named_if}
use Rattle.row.specs.Columns.{column_count}
use Rattle.rowread.specs.Stored.{values_at, read_answer}
use Rattle.snapshot.specs.Rows.{bytes_of, table_in, then_block, block_answer, then_row, bank_row_answer, then_values, values_in}
use Rattle.base.specs.Table.{last_table}
use Rattle.std.specs.Prelude.{Ok, Err, Result}

-- a bank that is named has that number
pub its-number : (region : List ℕ) (n : ℕ) (b : Bank) → named region n ≡ Ok b → b.number ≡ n
unfolding numbers_of
its-number region n b e = ap (λ (x : Bank). x.number) (passed n (bank_of region n) b (named-passes region n b e).header).numbers

-- a source that was asked for and is there
record There (region : List ℕ) (n i : ℕ) (s : Source) : Type 0 where
  bank : Bank
  is-named : named region n ≡ Ok bank
  below : ltb i bank.count ≡ true
  is-source : s ≡ source_in region bank i

module _ (region : List ℕ) (n i : ℕ) where
  there-by : (s : Source) (v : Result Bank Refusal) → named region n ≡ v → then_source region i v ≡ Ok s → There region n i s
  there-by s (Err r) e q = absurd (let z : ◌≡◌ {A = ℕ} 0 1 = cc in omega arith)
  there-by s (Ok b) e q = go (ltb i b.count) refl q
    where
      go : (w : Bool) → ltb i b.count ≡ w → pick w (Ok (source_in region b i)) (Err NoSuchSource) ≡ Ok s → There region n i s
      go true h j = record { bank = b; is-named = e; below = h; is-source = cc }
      go false h j = absurd (let z : ◌≡◌ {A = ℕ} 0 1 = cc in omega arith)

  there : (s : Source) → source_answer region n i ≡ Ok s → There region n i s
  unfolding source_answer
  there s q = there-by s (named region n) refl q

  module _ (t : ℕ) where
    pub no-region : leb t last_table ≡ false → eqb (length region) region_size ≡ false → Err Region ≡ block_answer region n i t
    unfolding block_answer named_if
    no-region h e = rw (h, e)

    pub no_table : leb t last_table ≡ false → eqb (length region) region_size ≡ true → Err Argument ≡ block_answer region n i t
    unfolding block_answer named_if
    no_table h e = rw (h, e)

  module _ (t offset capacity slots : ℕ) where
    named-too : leb t last_table ≡ true → (v : Result Bank Refusal) → named region n ≡ v → named_if (leb t last_table) region n ≡ v
    unfolding named_if
    named-too h v e = rw h e

    pub is-answer : (b : Bank) → leb t last_table ≡ true → named region n ≡ Ok b → ltb i b.count ≡ true
        → read_answer (table_in region b i t) (column_count t) offset capacity slots ≡ bank_row_answer region n i t offset capacity slots
    unfolding bank_row_answer
    is-answer b h e l = sym (ap (then_row region i t offset capacity slots) (named-too h (Ok b) e) ∙ rw l)

    pub is-values : (b : Bank) → leb t last_table ≡ true → named region n ≡ Ok b → values_at (table_in region b i t) (column_count t) offset ≡ values_in region n i t offset
    unfolding values_in
    is-values b h e = sym (ap (then_values region i t offset) (named-too h (Ok b) e))

-- the block that is found, and what `source` refuses
module _ (region : List ℕ) (n i t : ℕ) (h : leb t last_table ≡ true) where
  if-named : (v : Result Bank Refusal) → named region n ≡ v → named_if (leb t last_table) region n ≡ v
  unfolding named_if
  if-named v e = rw h e

  pub is_block : (s : Source) → source_answer region n i ≡ Ok s → Ok (get_or s.tables t no_block) ≡ block_answer region n i t
  unfolding block_answer
  is_block s q =
      let x = there region n i s q in
      ap (λ (y : Source). Ok (get_or y.tables t no_block)) x.is-source ∙ sym (ap (then_block region i t) (if-named (Ok x.bank) x.is-named) ∙ rw x.below)

  pub refused : (r : Refusal) → source_answer region n i ≡ Err r → Err r ≡ block_answer region n i t
  unfolding source_answer block_answer
  refused r q = by (named region n) refl q
    where
      by : (v : Result Bank Refusal) → named region n ≡ v → then_source region i v ≡ Err r → Err r ≡ then_block region i t (named_if (leb t last_table) region n)
      by (Err x) e j = let k : x ≡ r = cc in sym (ap (then_block region i t) (if-named (Err x) e) ∙ ap Err k)
      by (Ok b) e j = go (ltb i b.count) refl j
        where
          go : (s : Bool) → ltb i b.count ≡ s → pick s (Ok (source_in region b i)) (Err NoSuchSource) ≡ Err r → Err r ≡ then_block region i t (named_if (leb t last_table) region n)
          go true l m = absurd (let z : ◌≡◌ {A = ℕ} 0 1 = cc in omega arith)
          go false l m = let k : NoSuchSource ≡ r = cc in sym (ap (then_block region i t) (if-named (Ok b) e) ∙ rw l (ap Err k))

-- the row by its table's block: answer and values are those asked for
pub record IsRow (region : List ℕ) (n i t offset capacity slots : ℕ) (stored : List ℕ) (width : ℕ) : Type 0 where
  pub answer : read_answer stored width offset capacity slots ≡ bank_row_answer region n i t offset capacity slots
  pub values : values_at stored width offset ≡ values_in region n i t offset

module _ (region : List ℕ) (n i t offset capacity slots : ℕ) where
  -- a bank that passes has the number asked for
  named-number : (f : Bool) (b : Bank) → named_if f region n ≡ Ok b → b.number ≡ n
  unfolding named_if
  named-number true b e = its-number region n b e
  named-number false b e = by (eqb (length region) region_size) e
    where
      by : (s : Bool) → pick s (Err Argument) (Err Region) ≡ Ok b → b.number ≡ n
      by true k = absurd (let z : ◌≡◌ {A = ℕ} 0 1 = cc in omega arith)
      by false k = absurd (let z : ◌≡◌ {A = ℕ} 0 1 = cc in omega arith)

  pub block_row : (k : Block) → block_answer region n i t ≡ Ok k → IsRow region n i t offset capacity slots (bytes_of region n k) (column_count t)
  unfolding block_answer bank_row_answer values_in
  block_row k q = by (named_if (leb t last_table) region n) refl q
    where
      by : (v : Result Bank Refusal) → named_if (leb t last_table) region n ≡ v → then_block region i t v ≡ Ok k → IsRow region n i t offset capacity slots (bytes_of region n k) (column_count t)
      by (Err x) e j = absurd (let z : ◌≡◌ {A = ℕ} 0 1 = cc in omega arith)
      by (Ok b) e j = go (ltb i b.count) refl j
        where
          go : (s : Bool) → ltb i b.count ≡ s → pick s (Ok (get_or (source_in region b i).tables t no_block)) (Err NoSuchSource) ≡ Ok k → IsRow region n i t offset capacity slots (bytes_of region n k) (column_count t)
          go true l m =
              let g : get_or (source_in region b i).tables t no_block ≡ k = cc in
              let w : bytes_of region n k ≡ table_in region b i t = λ u. bytes_of region (sym (named-number (leb t last_table) b e) u) (sym g u) in
              record {
                answer = ap (λ (xs : List ℕ). read_answer xs (column_count t) offset capacity slots) w ∙ sym (ap (then_row region i t offset capacity slots) e ∙ rw l);
                values = ap (λ (xs : List ℕ). values_at xs (column_count t) offset) w ∙ sym (ap (then_values region i t offset) e);
              }
          go false l m = absurd (let z : ◌≡◌ {A = ℕ} 0 1 = cc in omega arith)

  pub block_refused : (r : Refusal) → block_answer region n i t ≡ Err r → Err r ≡ bank_row_answer region n i t offset capacity slots
  unfolding block_answer bank_row_answer
  block_refused r q = by (named_if (leb t last_table) region n) q
    where
      by : (v : Result Bank Refusal) → then_block region i t v ≡ Err r → Err r ≡ then_row region i t offset capacity slots v
      by (Err x) j = let k : x ≡ r = cc in ap Err (sym k)
      by (Ok b) j = go (ltb i b.count) j
        where
          go : (s : Bool) → pick s (Ok (get_or (source_in region b i).tables t no_block)) (Err NoSuchSource) ≡ Err r → Err r ≡ pick s (read_answer (table_in region b i t) (column_count t) offset capacity slots) (Err NoSuchSource)
          go true m = absurd (let z : ◌≡◌ {A = ℕ} 0 1 = cc in omega arith)
          go false m = let k : NoSuchSource ≡ r = cc in ap Err (sym k)
