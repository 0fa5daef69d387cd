-- What follows from a state's ranges: each part of the test, and the bounds on tail, position, count and open table that other proofs need.
use mathlib.Core.Path.{◌≡◌, refl}
use mathlib.Core.Bool.{Bool, true, false, not, ◌&&◌, ◌||◌, false≢true}
use Prim.Native.Nat.{ℕ, ◌≤◌}
use lib.Dec.{leb, eqb}
use borrow.Author.Tests.{leb-true}
use Rattle.writer.specs.declared.Contents.{Contents}
use Rattle.writer.specs.declared.Tables.{Tables}
use Rattle.writer.specs.declared.Writer.{Writer}
use Rattle.base.proofs.Bools.{and_left, and_right}
use Rattle.writer.specs.State.{position, aligned, open_ok, is_open, in_range, active_ok, contents_ok, tables_ok, stage_ok, tail_size}
use Rattle.region.specs.Region.{capacity}
use Rattle.base.specs.Table.{last_table}
use Rattle.header.specs.Header.{max_sources}

-- the four tests of a state within its ranges
pub record Ranged (w : Writer) : Type 0 where
  pub active : active_ok w.beginning.active ≡ true
  pub contents : contents_ok w.contents ≡ true
  pub tables : tables_ok (position w.contents) w.tables ≡ true
  pub stage : stage_ok w.beginning.comparing w.contents w.stage ≡ true

module _ (w : Writer) where
  pub ranged : in_range w ≡ true → Ranged w
  unfolding in_range
  ranged e =
      let a = active_ok w.beginning.active in
      let t = contents_ok w.contents in
      let s = tables_ok (position w.contents) w.tables in
      let o = stage_ok w.beginning.comparing w.contents w.stage in
      let r = and_right a (t && (s && o)) e in
      let q = and_right t (s && o) r in
      record { active = and_left a (t && (s && o)) e; contents = and_left t (s && o) r; tables = and_left s o q; stage = and_right s o q }

module _ (t : Contents) where
  pub fill-fits : contents_ok t ≡ true → t.fill ≤ tail_size
  unfolding contents_ok
  fill-fits e = leb-true t.fill tail_size (and_left (leb t.fill tail_size) (leb (position t) capacity && aligned t) e)

  pub position-fits : contents_ok t ≡ true → position t ≤ capacity
  unfolding contents_ok
  position-fits e = leb-true (position t) capacity (and_left (leb (position t) capacity) (aligned t) (and_right (leb t.fill tail_size) (leb (position t) capacity && aligned t) e))

module _ (n : ℕ) (s : Tables) where
  pub count_fits : tables_ok n s ≡ true → s.count ≤ max_sources
  unfolding tables_ok
  count_fits e = leb-true s.count 3 (and_left (leb s.count 3) (eqb s.table 8 || open_ok n s) e)

  by-table : (t : Bool) → eqb s.table 8 ≡ t → (t || open_ok n s) ≡ true → not t ≡ true → open_ok n s ≡ true
  by-table true e h o = absurd (false≢true o)
  by-table false e h o = h

  -- an open table has a source, and starts at or before the position
  pub open-table : tables_ok n s ≡ true → is_open s ≡ true → (s.table ≤ last_table) × (1 ≤ s.count) × (s.start ≤ n)
  unfolding tables_ok
  open-table e o =
      let c = leb 1 s.count in
      let b = leb s.start n in
      let q = by-table (eqb s.table 8) refl (and_right (leb s.count 3) (eqb s.table 8 || open_ok n s) e) o in
      let p = and_right (leb s.table 7) (c && b) q in
      (leb-true s.table 7 (and_left (leb s.table 7) (c && b) q), leb-true 1 s.count (and_left c b p), leb-true s.start n (and_right c b p))
