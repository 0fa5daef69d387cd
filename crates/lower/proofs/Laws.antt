-- The lower calls, case by case, as the definitions nest them; and two facts on bits of the tables begun.
use mathlib.Core.Path.{◌≡◌, refl, sym, ap, subst}
use mathlib.Core.Bool.{true, false, not, ◌&&◌}
use mathlib.Core.List.{List}
use Prim.Native.Nat.{ℕ, zero, suc, ◌+◌, ◌*◌, ◌/◌, ◌%◌, ◌^◌, ◌≤◌, ◌<◌}
use native.Mathlib.Omega.{arith}
use native.Mathlib.Nat.{one-mul, lt_of_lt_of_le, div-lt_iff_lt-mul}
use lib.Pow.{pow_pos, pow_mono}
use lib.ListN.{length, take}
use lib.Dec.{leb}
use borrow.Author.Tests.{lt-ltb, le-ltb, le-leb, lt-leb, leb-true}
use Rattle.refusal.specs.declared.Refusal.TheVariants.{Argument, Full, Turn}
use Rattle.record.specs.declared.Source.{Source}
use Rattle.writer.specs.declared.Tables.{Tables}
use Rattle.writer.specs.declared.Writer.{Writer}
use Rattle.lower.specs.Sources.{has_source_and_table, sources_with, sources_ended}
use Rattle.base.proofs.Bools.{and_left, and_right}
use Rattle.writer.specs.State.{did, stays, no_table, position, is_open, begun_in, is_due, in_range, tail_size}
use Rattle.writer.proofs.Laws.{ranged, fill-fits, position-fits, open-table, count_fits}
use Rattle.lower.specs.Lower.{may_append, may_begin, may_end, with_source, source_step, with_table, table_step, with_end, end_step, block_of, with_closed, close_step, accepted, with_bytes, appended, bytes_step}
use Rattle.writer.specs.declared.Answer.TheVariants.{Done, Appended}
use Rattle.region.specs.Region.{capacity}
use Rattle.base.specs.Table.{last_table}
use Rattle.header.specs.Header.{max_sources}
use Rattle.std.specs.Prelude.{Ok}

module _ (w : Writer) (s : Source) where
  pub source-done : (may_append w && not (is_open w.tables)) ≡ true → w.tables.count < max_sources → did (with_source w s) ≡ source_step w s
  unfolding source_step
  source-done e h = rw (e, lt-ltb w.tables.count 3 h)

  pub source-full : (may_append w && not (is_open w.tables)) ≡ true → max_sources ≤ w.tables.count → stays w Full ≡ source_step w s
  unfolding source_step
  source-full e h = rw (e, le-ltb w.tables.count 3 h)

  pub source-turn : (may_append w && not (is_open w.tables)) ≡ false → stays w Turn ≡ source_step w s
  unfolding source_step
  source-turn e = rw e

  -- the next source has the record
  pub source-begun : w.tables.count < max_sources → record {
    answer = (Ok Done);
    writer = record {
      stage = w.stage;
      beginning = w.beginning;
      contents = w.contents;
      tables = record { count = w.tables.count + 1; table = no_table; start = w.tables.start; crc = w.tables.crc; begun = 0 };
      sources = sources_with true w.sources w.tables s;
      tail = w.tail;
    };
  } ≡ did (with_source w s)
  unfolding with_source
  source-begun h = rw (lt-ltb w.tables.count max_sources h)

module _ (w : Writer) (t : ℕ) where
  pub table_done : t ≤ last_table → (may_append w && may_begin w.tables t) ≡ true → did (with_table w t) ≡ table_step w t
  unfolding table_step
  table_done h e = rw (le-leb t 7 h, e)

  pub table-turn : t ≤ last_table → (may_append w && may_begin w.tables t) ≡ false → stays w Turn ≡ table_step w t
  unfolding table_step
  table-turn h e = rw (le-leb t 7 h, e)

  pub table-argument : last_table < t → stays w Argument ≡ table_step w t
  unfolding table_step
  table-argument h = rw (lt-leb t 7 h)

module _ (w : Writer) where
  pub end-done : may_end w ≡ true → did (with_end w) ≡ end_step w
  unfolding end_step
  end-done e = rw e

  pub end-turn : may_end w ≡ false → stays w Turn ≡ end_step w
  unfolding end_step
  end-turn e = rw e

  -- the numbers of an open table are within their bounds
  pub end-within : may_end w ≡ true → has_source_and_table w.tables ≡ true
  end-within e =
      let r = ranged w (and_left (in_range w) (is_open w.tables) e) in
      let o = open-table (position w.contents) w.tables r.tables (and_right (in_range w) (is_open w.tables) e) in
      rw (le-leb 1 w.tables.count o.1, le-leb w.tables.count max_sources (count_fits (position w.contents) w.tables r.tables), le-leb w.tables.table last_table o.0)

  -- the last source has the block
  pub end-ended : has_source_and_table w.tables ≡ true → record {
    answer = (Ok Done);
    writer = record {
      stage = w.stage;
      beginning = w.beginning;
      contents = w.contents;
      tables = record { count = w.tables.count; table = no_table; start = w.tables.start; crc = w.tables.crc; begun = w.tables.begun };
      sources = sources_ended true w.sources w.tables (block_of w);
      tail = w.tail;
    };
  } ≡ did (with_end w)
  unfolding with_end
  end-ended e = rw e

  pub close-done : (may_append w && not (is_open w.tables)) ≡ true → did (with_closed w) ≡ close_step w
  unfolding close_step
  close-done e = rw e

  pub close-turn : (may_append w && not (is_open w.tables)) ≡ false → stays w Turn ≡ close_step w
  unfolding close_step
  close-turn e = rw e

module _ (w : Writer) (xs : List ℕ) where
  pub bytes-appended : may_append w ≡ true → position w.contents + length xs ≤ capacity → appended w xs ≡ bytes_step w xs
  unfolding bytes_step
  bytes-appended e h = rw (e, le-leb (position w.contents + length xs) capacity h)

  pub bytes-full : may_append w ≡ true → capacity < position w.contents + length xs → stays w Full ≡ bytes_step w xs
  unfolding bytes_step
  bytes-full e h = rw (e, lt-leb (position w.contents + length xs) capacity h)

  pub bytes-turn : may_append w ≡ false → stays w Turn ≡ bytes_step w xs
  unfolding bytes_step
  bytes-turn e = rw e

module _ (w : Writer) (xs : List ℕ) where
  pub appended-none : is_due w.contents ≡ true → record { answer = Ok (Appended 0); writer = w } ≡ appended w xs
  unfolding appended
  appended-none e = rw e

  pub appended-some : (n : ℕ) (v : Writer) → is_due w.contents ≡ false → n ≡ accepted w.contents (length xs) → v ≡ with_bytes w (take n xs) → record { answer = Ok (Appended n); writer = v } ≡ appended w xs
  unfolding appended
  appended-some n v e h k = rw (e, ← h) (ap (λ (x : Writer). record { answer = Ok (Appended n); writer = x }) k)

-- the tail and the position of a state that may append
pub takes-fits : (w : Writer) → may_append w ≡ true → (w.contents.fill ≤ tail_size) × (position w.contents ≤ capacity)
takes-fits w m = let t = (ranged w (and_left (in_range w) (not w.contents.closed) m)).contents in (fill-fits w.contents t, position-fits w.contents t)

-- the bounds of a last source and an open table
pub within-bounds : (x : Tables) → has_source_and_table x ≡ true → (1 ≤ x.count) × (x.count ≤ max_sources) × (x.table ≤ last_table)
within-bounds x e =
    let a = leb 1 x.count in
    let b = leb x.count max_sources in
    let t = leb x.table last_table in
    let r = and_right a (b && t) e in
    (leb-true 1 x.count (and_left a (b && t) e), leb-true x.count max_sources (and_left b t r), leb-true x.table last_table (and_right b t r))

-- a bit by a shift
pub shifted : (t : ℕ) → t ≤ last_table → (1 * 2 ^ t) % 4294967296 ≡ 2 ^ t
shifted zero h = refl
shifted (suc zero) h = refl
shifted (suc (suc zero)) h = refl
shifted (suc (suc (suc zero))) h = refl
shifted (suc (suc (suc (suc zero)))) h = refl
shifted (suc (suc (suc (suc (suc zero))))) h = refl
shifted (suc (suc (suc (suc (suc (suc zero)))))) h = refl
shifted (suc (suc (suc (suc (suc (suc (suc zero))))))) h = refl
shifted (suc (suc (suc (suc (suc (suc (suc (suc n)))))))) h = absurd (omega arith)

-- a bit past the last one
pub begun-past : (n t : ℕ) → n < 4294967296 → 32 ≤ t → false ≡ begun_in n t
unfolding begun_in
begun-past n t h k =
    let z : n / 2 ^ t ≡ 0 = omega (arith, (div-lt_iff_lt-mul (pow_pos t)).1 (subst (λ (x : ℕ). n < x) (sym (one-mul (2 ^ t))) (lt_of_lt_of_le h (pow_mono {i = 32} {j = t} k)))) in
    rw z refl
