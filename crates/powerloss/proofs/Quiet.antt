-- The calls that do no flash operation keep the invariant: the region stays, and what the call changes in the state is what the history
-- notes of it. Source, table, table end and unchanged, each by the cases of its answer.
use mathlib.Core.Path.{◌≡◌, refl, sym, ap, ◌∙◌, subst}
use mathlib.Core.Bool.{Bool, true, false, not, ◌&&◌, false≢true}
use mathlib.Core.Logic.{inl, inr}
use mathlib.Core.List.{List, [], ◌∷◌, ◌++◌, append-nil}
use Prim.Native.Nat.{ℕ, zero, suc, ◌+◌, ◌-◌, ◌/◌, ◌%◌, ◌^◌, ◌≤◌, ◌<◌}
use native.Mathlib.Omega.{arith}
use native.Mathlib.Numerals.{add-one}
use borrow.Author.Tests.{eqb-true, eqb-false, leb-true, ltb-true, not-true}
use lib.Dec.{leb, ltb, eqb, lit<}
use lib.ListN.{length, take, drop, get_or, length-set}
use lib.Seq.{drop-length, length-take-le}
use Rattle.base.specs.Number.{pick}
use Rattle.leaf.specs.Crc.{crc32}
use Rattle.leaf.proofs.Checksum.{crc32-nil, crc32-lt}
use Rattle.refusal.specs.declared.Refusal.TheVariants.{Region, Argument, Full, Turn}
use Rattle.record.specs.declared.Block.{Block}
use Rattle.record.specs.declared.Source.{Source}
use Rattle.record.specs.Record.{no_block}
use Rattle.base.specs.Lists.{fill}
use Rattle.record.specs.Types.{All, Block32}
use Rattle.base.proofs.Lists.{length-fill}
use Rattle.region.specs.Region.{region_size, sector_size}
use Rattle.base.proofs.Bools.{and_left, and_right}
use Rattle.header.specs.Types.{Proper}
use Rattle.writer.specs.declared.Operation.TheVariants.{Erase, Write, Compare}
use Rattle.writer.specs.declared.Stage.{Stage}
use Rattle.writer.specs.declared.Stage.TheVariants.{Idle, Due, HeaderWritten, Committed}
use Rattle.writer.specs.declared.Answer.TheVariants.{Same, Different}
use Rattle.writer.specs.declared.Contents.{Contents}
use Rattle.writer.specs.declared.Writer.{Writer}
use Rattle.writer.specs.State.{position, is_due, write_due, data_due, first_due, stage_of, is_open, in_range, stage_ok, did, stays, tail_size}
use Rattle.writer.proofs.Laws.{Ranged, ranged, position-fits, count_fits, open-table}
use Rattle.lower.specs.Lower.{may_append, may_begin, may_end, emptied, past_end, with_block, block_of, with_source, source_step, with_table, table_step, with_end, end_step}
use Rattle.commit.specs.Unchanged.{unchanged_step, may_ask, is_unchanged}
use Rattle.run.specs.Run.{source, table, end, unchanged}
use Rattle.powerloss.specs.History.{Note, source_note, table_note, end_note, Update, block_between, last_with, records_after, with_appended, notes_of, update_after}
use Rattle.powerloss.proofs.Records.{table-append, from-append, records-source, records-table, records-end, block-is, more-sources, last-source, all_append, all_set, all-at}
use Rattle.powerloss.proofs.Inv.{Live, Laid, Lies, LiveAt, Mode, Open}
use Rattle.powerloss.proofs.Keeps.{keeps-source, keeps-table, keeps-end}
use Rattle.powerloss.proofs.Range.{true-false, due-ok, headed-end, committed-end}
use Rattle.base.specs.Table.{max_tables}
use Rattle.header.specs.Header.{max_sources}
use Rattle.std.specs.Prelude.{Ok, Result, Option}
use Rattle.refusal.specs.declared.Refusal.{Refusal}
use Rattle.header.specs.declared.Bank.{Bank}

-- ---- records

all-fill : {A : Type 0} (P : A → Type 0) (a : A) (n : ℕ) → P a → All P (fill a n)
unfolding All fill
all-fill P a zero p = tt
all-fill P a (suc n) p = (p, all-fill P a n p)

all_one : {A : Type 0} (P : A → Type 0) (a : A) → P a → All P (a ∷ [])
unfolding All
all_one P a p = (p, tt)

no-block : Block32 no_block
no-block = record { offset = omega arith; length = omega arith; crc = omega arith }

proper-emptied : (s : Source) → Proper s → Proper (emptied s)
proper-emptied s p =
    record {
      sized = record { original = p.sized.original; tables = length-fill no_block max_tables; stamp = p.sized.stamp; id = p.sized.id; validator = p.sized.validator };
      ranged =
          record {
            start = p.ranged.start;
            end = p.ranged.end;
            present = p.ranged.present;
            updated = p.ranged.updated;
            original = p.ranged.original;
            tables = all-fill Block32 no_block 8 no-block;
          };
      texts = record { stamp = p.texts.stamp; idlen = p.texts.idlen; id = p.texts.id; validator = p.texts.validator };
    }

proper-block : (s : Source) (t : ℕ) (b : Block) → Proper s → Block32 b → Proper (with_block s t b)
proper-block s t b p h =
    record {
      sized =
          record { original = p.sized.original; tables = length-set s.tables t b ∙ p.sized.tables; stamp = p.sized.stamp; id = p.sized.id; validator = p.sized.validator };
      ranged =
          record {
            start = p.ranged.start;
            end = p.ranged.end;
            present = p.ranged.present;
            updated = p.ranged.updated;
            original = p.ranged.original;
            tables = all_set Block32 s.tables t b p.ranged.tables h;
          };
      texts = record { stamp = p.texts.stamp; idlen = p.texts.idlen; id = p.texts.id; validator = p.texts.validator };
    }

proper-last : (rs : List Source) (t : ℕ) (b : Block) → All Proper rs → 1 ≤ length rs → Block32 b → All Proper (last_with rs t b)
proper-last rs t b h k q =
    let i = length rs - 1 in
    all_set Proper rs i (with_block (get_or rs i past_end) t b) h (proper-block (get_or rs i past_end) t b (all-at Proper rs i past_end h (omega arith)) q)

-- ---- stages that may append

no-head : (c : Bool) (t : Contents) (n : Note) (u : Update) (tail b : List ℕ) (st : Stage) → t.closed ≡ false → stage_ok c t st ≡ true → Lies st t tail u b → Lies st t tail (notes_of n u) b
no-head c t n u tail b Idle e k h = h
no-head c t n u tail b (Due (Erase zero)) e k h = h
no-head c t n u tail b (Due (Erase (suc j))) e k h = h
no-head c t n u tail b (Due (Write i j)) e k h = h
no-head c t n u tail b (Due (Compare i j)) e k h = h
no-head c t n u tail b HeaderWritten e k h = true-false t.closed (headed-end c t k).closed e
no-head c t n u tail b Committed e k h = h

mode-noted : (c : Bool) (st : Stage) (region : List ℕ) (hd active : Result (Option Bank) Refusal) (t : Contents) (tail : List ℕ) (n : Note) (u : Update) → t.closed ≡ false → stage_ok c t st ≡ true
    → Mode c st region hd active t tail u → Mode c st region hd active t tail (notes_of n u)
mode-noted true st region hd active t tail n u e k h = h
mode-noted false st region hd active t tail n u e k h = (h.0, no-head false t n u tail _ st e k h.1)

pub only-idle : (c : Bool) (t : Contents) (st : Stage) → stage_ok c t st ≡ true → t.closed ≡ false → is_due t ≡ false → st ≡ Idle
only-idle c t Idle k e d = refl
only-idle c t (Due o) k e d = true-false (is_due t) (due-ok c t o k).0 d
only-idle c t HeaderWritten k e d = true-false t.closed (headed-end c t k).closed e
only-idle c t Committed k e d = true-false t.closed (committed-end c t k).closed e

-- what is due then, if nothing was due
module _ (t : Contents) (tail : List ℕ) (u : Update) (b : List ℕ) (m : t.written % tail_size ≡ 0) where
  pub data-lies : Laid 0 sector_size t.written t.fill tail u.data· b → (z : Bool) → eqb (t.written % sector_size) 0 ≡ z → Lies (Due (pick z (Erase (t.written / sector_size + 1)) (write_due t))) t tail u b
  data-lies h true e = subst (λ (k : ℕ). Lies (Due (Erase k)) t tail u b) (sym (add-one (t.written / sector_size))) h
  data-lies h false e =
      let ne : t.written % sector_size ≡ 0 → ⊥ = eqb-false (t.written % sector_size) 0 e in
      record {
        front = h.front;
        rest = h.rest;
        gap = h.gap;
        lies = h.lies;
        count = h.count;
        all = h.all;
        ends = h.ends;
        least = omega (arith, h.ends, h.most);
        most = omega (arith, h.most);
      }

  first-lies : Lies Idle t tail u b → (z : Bool) → eqb t.written 0 ≡ z → Lies (Due (pick z (Erase 0) (data_due t))) t tail u b
  unfolding data_due
  first-lies (inl f) true e = f
  first-lies (inl f) false e = absurd (eqb-false t.written 0 e f.written)
  first-lies (inr h) true e = absurd (omega (arith, eqb-true t.written 0 e, h.1))
  first-lies (inr h) false e = data-lies h.0 (eqb (t.written % sector_size) 0) refl

  stage-lies : (region : List ℕ) (hd active : Result (Option Bank) Refusal) → Live region hd active → Lies Idle t tail u b → (d : Bool)
      → LiveAt (pick d (Due (first_due false t)) Idle) region hd active × Lies (pick d (Due (first_due false t)) Idle) t tail u b
  unfolding first_due
  stage-lies region hd active v h true = (v, first-lies h (eqb t.written 0) refl)
  stage-lies region hd active v h false = (v, h)

pub mode-stage : (c : Bool) (region : List ℕ) (hd active : Result (Option Bank) Refusal) (t : Contents) (tail : List ℕ) (u : Update) → t.written % tail_size ≡ 0 → Mode c Idle region hd active t tail u
    → Mode c (stage_of c t) region hd active t tail u
unfolding stage_of
mode-stage true region hd active t tail u m h = h
mode-stage false region hd active t tail u m h = stage-lies t tail u _ m region hd active h.0 h.1 (is_due t)

pub with_appended-nil : (u : Update) → with_appended [] u ≡ u
with_appended-nil u = ap (λ (l : List ℕ). record { number = u.number; generation = u.generation; now = u.now; data· = l; notes = u.notes; checked = u.checked }) (append-nil u.data·)

module _ (region : List ℕ) (hd : Result (Option Bank) Refusal) (w : Writer) (u : Update) (o : Open region hd w u) where
  own : Ranged w
  own = ranged w o.tied.range

  count_small : w.tables.count ≤ max_sources
  count_small = count_fits (position w.contents) w.tables own.tables

  may-open : may_append w ≡ true → w.contents.closed ≡ false
  may-open e = not-true w.contents.closed (and_right (in_range w) (not w.contents.closed) e)

  noted-mode : (n : Note) → w.contents.closed ≡ false → Mode w.beginning.comparing w.stage region hd w.beginning.active w.contents w.tail (notes_of n u)
  noted-mode n e = mode-noted w.beginning.comparing w.stage region hd w.beginning.active w.contents w.tail n u e own.stage o.mode

  -- ---- source

  pub with-source : (s : Source) → Proper s → w.contents.closed ≡ false → w.tables.count < max_sources → Open region hd (with_source w s) (notes_of (source_note s) u)
  unfolding with_source
  with-source s p e h =
      let q = o.tied.noted in
      let m = more-sources w.sources w.tables.count (emptied s) (omega (arith, q.sources)) in
      record {
        tied =
            record {
              range = keeps-source w o.tied.range s h;
              began = o.tied.began;
              counted = o.tied.counted;
              noted =
                  record {
                    records = λ ys. records-source (u.data· ++ ys) u.notes s ∙ ap (λ (l : List Source). l ++ (emptied s ∷ [])) (q.records ys) ∙ sym m;
                    proper =
                        subst (All Proper) (sym m) (all_append Proper (take w.tables.count w.sources) (emptied s ∷ []) q.proper (all_one Proper (emptied s) (proper-emptied s p)));
                    sources = length-set w.sources w.tables.count (emptied s) ∙ q.sources;
                    table = λ f. absurd (false≢true f);
                  };
              tailed = o.tied.tailed;
              ended = λ c. true-false w.contents.closed c e;
            };
        mode = noted-mode (source_note s) e;
      }

  source-by : (s : Source) → Proper s → (a b : Bool) → (may_append w && not (is_open w.tables)) ≡ a → ltb w.tables.count 3 ≡ b
      → Open region hd (pick a (pick b (did (with_source w s)) (stays w Full)) (stays w Turn)).writer (update_after (source s) (pick a (pick b (did (with_source w s)) (stays w Full)) (stays w Turn)).answer u)
  unfolding update_after
  source-by s p true true e f = with-source s p (may-open (and_left (may_append w) (not (is_open w.tables)) e)) (ltb-true w.tables.count 3 f)
  source-by s p true false e f = o
  source-by s p false b e f = o

  pub on-source : (s : Source) → Proper s → Open region hd (source_step w s).writer (update_after (source s) (source_step w s).answer u)
  unfolding source_step
  on-source s p = source-by s p (may_append w && not (is_open w.tables)) (ltb w.tables.count 3) refl refl

  -- ---- table

  pub with-table : (t : ℕ) → w.contents.closed ≡ false → t ≤ 7 → 1 ≤ w.tables.count → Open region hd (with_table w t) (notes_of (table_note t (length u.data·)) u)
  unfolding with_table
  with-table t e h c =
      let q = o.tied.noted in
      let d = u.data· in
      let l = o.tied.counted.length· in
      record {
        tied =
            record {
              range = keeps-table w o.tied.range t h c;
              began = o.tied.began;
              counted = o.tied.counted;
              noted =
                  record {
                    records = λ ys. records-table (d ++ ys) u.notes t (length d) ∙ q.records ys;
                    proper = q.proper;
                    sources = q.sources;
                    table = λ f.
                        record {
                          table = table-append 0 u.notes (table_note t (length d) ∷ []);
                          start = from-append 0 u.notes (table_note t (length d) ∷ []) ∙ l;
                          crc = sym (ap (λ (n : ℕ). crc32 0 (drop n d)) (sym l) ∙ ap (crc32 0) (drop-length d) ∙ crc32-nil 0 (lit< tt));
                        };
                  };
              tailed = o.tied.tailed;
              ended = λ c. true-false w.contents.closed c e;
            };
        mode = noted-mode (table_note t (length d)) e;
      }

  may-count : (t : ℕ) → may_begin w.tables t ≡ true → 1 ≤ w.tables.count
  may-count t e = leb-true 1 w.tables.count (and_left (leb 1 w.tables.count) _ (and_right (not (is_open w.tables)) _ e))

  table-by : (t : ℕ) (a b : Bool) → leb t 7 ≡ a → (may_append w && may_begin w.tables t) ≡ b
      → Open region hd (pick a (pick b (did (with_table w t)) (stays w Turn)) (stays w Argument)).writer (update_after (table t) (pick a (pick b (did (with_table w t)) (stays w Turn)) (stays w Argument)).answer u)
  unfolding update_after
  table-by t true true e f =
      with-table t (may-open (and_left (may_append w) (may_begin w.tables t) f)) (leb-true t 7 e) (may-count t (and_right (may_append w) (may_begin w.tables t) f))
  table-by t true false e f = o
  table-by t false b e f = o

  pub on-table : (t : ℕ) → Open region hd (table_step w t).writer (update_after (table t) (table_step w t).answer u)
  unfolding table_step
  on-table t = table-by t (leb t 7) (may_append w && may_begin w.tables t) refl refl

  -- ---- table end

  block-fits : is_open w.tables ≡ true → Block32 (block_of w)
  block-fits f =
      let k = open-table (position w.contents) w.tables own.tables f in
      let p = position-fits w.contents own.contents in
      record {
        offset = omega (arith, k.2);
        length = omega arith;
        crc = subst (λ (n : ℕ). n < 2 ^ 32) (sym (o.tied.noted.table f).crc) (crc32-lt 0 (drop w.tables.start u.data·));
      }

  end-records : is_open w.tables ≡ true → (ys : List ℕ)
      → records_after (u.data· ++ ys) [] 0 0 (u.notes ++ (end_note (length u.data·) ∷ [])) ≡ last_with (take w.tables.count w.sources) w.tables.table (block_of w)
  end-records f ys =
      let q = o.tied.noted in
      let d = u.data· in
      let l = o.tied.counted.length· in
      let k = open-table (position w.contents) w.tables own.tables f in
      let p = q.table f in
      let b : block_between (d ++ ys) w.tables.start (length d) ≡ block_of w =
      block-is d ys w.tables.start (omega (arith, k.2))
      ∙ (λ i. record { offset = w.tables.start; length = l i - w.tables.start; crc = sym p.crc i }) in
      records-end (d ++ ys) u.notes (length d)
      ∙ (λ i. last_with (q.records ys i) (p.table i) (block_between (d ++ ys) (p.start i) (length d)))
      ∙ ap (last_with (take w.tables.count w.sources) w.tables.table) b

  pub with-end : w.contents.closed ≡ false → is_open w.tables ≡ true → Open region hd (with_end w) (notes_of (end_note (length u.data·)) u)
  unfolding with_end
  with-end e f =
      let q = o.tied.noted in
      let d = u.data· in
      let n = w.tables.count in
      let k = open-table (position w.contents) w.tables own.tables f in
      let c = count_small in
      let ls = last-source w.sources n w.tables.table (block_of w) k.1 (omega (arith, q.sources)) in
      record {
        tied =
            record {
              range = keeps-end w o.tied.range;
              began = o.tied.began;
              counted = o.tied.counted;
              noted =
                  record {
                    records = λ ys. end-records f ys ∙ ls;
                    proper =
                        subst (All Proper) ls
                        (proper-last (take n w.sources) w.tables.table (block_of w) q.proper (omega (arith, length-take-le n w.sources (omega (arith, q.sources)), k.1)) (block-fits f));
                    sources = length-set w.sources (n - 1) (with_block (get_or w.sources (n - 1) past_end) w.tables.table (block_of w)) ∙ q.sources;
                    table = λ g. absurd (false≢true g);
                  };
              tailed = o.tied.tailed;
              ended = λ c. refl;
            };
        mode = noted-mode (end_note (length d)) e;
      }

  -- a table is open only before closing
  before-closing : is_open w.tables ≡ true → (c : Bool) → w.contents.closed ≡ c → w.contents.closed ≡ false
  before-closing f true e = true-false (is_open w.tables) f (o.tied.ended e)
  before-closing f false e = e

  pub open-end : may_end w ≡ true → w.contents.closed ≡ false
  open-end e = before-closing (and_right (in_range w) (is_open w.tables) e) w.contents.closed refl

  end_by : (a : Bool) → may_end w ≡ a → Open region hd (pick a (did (with_end w)) (stays w Turn)).writer (update_after end (pick a (did (with_end w)) (stays w Turn)).answer u)
  unfolding update_after
  end_by true e = with-end (open-end e) (and_right (in_range w) (is_open w.tables) e)
  end_by false e = o

  pub on-end : Open region hd (end_step w).writer (update_after end (end_step w).answer u)
  unfolding end_step
  on-end = end_by (may_end w) refl

  -- ---- unchanged

  unchanged-by : (a b c : Bool)
      → Open region hd (pick a (pick b (record { answer = pick c (Ok Same) (Ok Different); writer = w }) (stays w Turn)) (stays w Region)).writer
      (update_after unchanged (pick a (pick b (record { answer = pick c (Ok Same) (Ok Different); writer = w }) (stays w Turn)) (stays w Region)).answer u)
  unfolding update_after
  unchanged-by true true true = o
  unchanged-by true true false = o
  unchanged-by true false c = o
  unchanged-by false b c = o

  pub on-unchanged : Open region hd (unchanged_step region w).writer (update_after unchanged (unchanged_step region w).answer u)
  unfolding unchanged_step
  on-unchanged = unchanged-by (eqb (length region) region_size) (may_ask w) (is_unchanged region w w.beginning.active)
