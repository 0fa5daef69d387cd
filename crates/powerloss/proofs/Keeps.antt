-- Every lower call keeps a state within its ranges, whatever the region is, and so does every run. By cases on the call and its answer: a
-- refused call leaves the state as it is, and what an answered one changes passes the tests again (Range.antt).
use mathlib.Core.Path.{◌≡◌, refl, sym, ap, ◌∙◌}
use mathlib.Core.Bool.{Bool, true, false, not, ◌&&◌, ◌||◌, false≢true}
use mathlib.Core.List.{List, [], ◌∷◌}
use Prim.Native.Nat.{ℕ, ◌+◌, ◌≤◌, ◌<◌}
use native.Mathlib.Omega.{arith}
use borrow.Author.Tests.{leb-true, ltb-true, not-true}
use lib.Dec.{leb, ltb, eqb}
use lib.ListN.{length, take, length-take}
use Rattle.base.specs.Number.{pick}
use Rattle.base.proofs.Bools.{and_left, and_right}
use Rattle.refusal.specs.declared.Refusal.TheVariants.{Region, Argument, Full, Turn, Obsolete, Unfit}
use Rattle.leaf.specs.Crc.{crc32}
use Rattle.record.specs.declared.Source.{Source}
use Rattle.region.specs.Region.{region_size, capacity}
use Rattle.header.specs.Header.{max_sources}
use Rattle.header.specs.WriteHeader.{is_fit}
use Rattle.writer.specs.declared.Operation.{Operation}
use Rattle.writer.specs.declared.Operation.TheVariants.{Erase, Write, Compare}
use Rattle.writer.specs.declared.Stage.{Stage}
use Rattle.writer.specs.declared.Stage.TheVariants.{Idle, Due, HeaderWritten, Committed}
use Rattle.writer.specs.declared.Contents.{Contents}
use Rattle.writer.specs.declared.Tables.{Tables}
use Rattle.writer.specs.declared.Writer.{Writer}
use Rattle.writer.specs.declared.Step.{Step}
use Rattle.writer.specs.declared.Answer.TheVariants.{Appended, Same, Different}
use Rattle.writer.specs.State.{position, is_due, write_due, data_due, stage_of, is_open, no_table, in_range, tables_ok, stage_ok, did, stays, tail_size}
use Rattle.writer.proofs.Laws.{Ranged, ranged, fill-fits, count_fits}
use Rattle.lower.specs.Lower.{may_append, may_begin, may_end, accepted, more_contents, closed_contents, with_source, with_table, with_end, with_bytes, with_closed, source_step, table_step, end_step, bytes_step, appended, close_step}
use Rattle.due.specs.Due.{differs, emptied, with_stage, with_emptied, operated, step_of, due_step}
use Rattle.commit.specs.Commit.{is_idle, is_header_written, may_commit, is_current, bank_for, records_for, commit_step, word_step}
use Rattle.commit.specs.Unchanged.{unchanged_step, may_ask, is_unchanged}
use Rattle.run.specs.Run.{Lower, source, table, bytes, end, close, due, unchanged, commit, word, lower_step, lower_region, ran_writer}
use Rattle.powerloss.proofs.Range.{range-of, open-aligned, contents-of, aligned-of, empty-contents, empty-idle, write-ok, data-ok, stage-ok, due-ok, due-of, erase-mode, headed-of, committed-of, idle-due, closed-empty, close-stage, close-contents, tables-none, tables-open, tables-later}
use Rattle.std.specs.Prelude.{Ok, Option, ℤ}

-- ---- stages

pub is-idle : (st : Stage) → is_idle st ≡ true → st ≡ Idle
is-idle Idle e = refl
is-idle (Due o) e = absurd (false≢true e)
is-idle HeaderWritten e = absurd (false≢true e)
is-idle Committed e = absurd (false≢true e)

pub is-header-written : (st : Stage) → is_header_written st ≡ true → st ≡ HeaderWritten
is-header-written HeaderWritten e = refl
is-header-written Idle e = absurd (false≢true e)
is-header-written (Due o) e = absurd (false≢true e)
is-header-written Committed e = absurd (false≢true e)

tables-crc : (n : ℕ) (s : Tables) (c : ℕ) → tables_ok n s ≡ true → tables_ok n (record { count = s.count; table = s.table; start = s.start; crc = c; begun = s.begun }) ≡ true
unfolding tables_ok
tables-crc n s c e = e

-- ---- what answered calls change

module _ (w : Writer) (r : in_range w ≡ true) where
  own : Ranged w
  own = ranged w r

  abbrev t : Contents
  t = w.contents

  abbrev comparing : Bool
  comparing = w.beginning.comparing

  count_small : w.tables.count ≤ max_sources
  count_small = count_fits (position t) w.tables own.tables

  pub keeps-source : (s : Source) → w.tables.count < max_sources → in_range (with_source w s) ≡ true
  unfolding with_source
  keeps-source s h =
      range-of (with_source w s) own.active own.contents
      (tables-none (position t) (record { count = w.tables.count + 1; table = no_table; start = w.tables.start; crc = w.tables.crc; begun = 0 }) (omega arith) refl)
      own.stage

  pub keeps-table : (n : ℕ) → n ≤ 7 → 1 ≤ w.tables.count → in_range (with_table w n) ≡ true
  unfolding with_table
  keeps-table n h c = range-of (with_table w n) own.active own.contents (tables-open (position t) (with_table w n).tables count_small h c (omega arith)) own.stage

  pub keeps-end : in_range (with_end w) ≡ true
  unfolding with_end
  keeps-end = range-of (with_end w) own.active own.contents (tables-none (position t) (with_end w).tables count_small refl) own.stage

  pub keeps-bytes : (ys : List ℕ) → t.closed ≡ false → t.fill + length ys ≤ tail_size → position t + length ys ≤ capacity → in_range (with_bytes w ys) ≡ true
  unfolding with_bytes
  keeps-bytes ys e f p =
      range-of (with_bytes w ys) own.active (contents-of (more_contents t ys) f (omega arith) (aligned-of (more_contents t ys) (open-aligned t own.contents e)))
      (tables-crc (position (more_contents t ys)) w.tables (crc32 w.tables.crc ys) (tables-later (position t) (position (more_contents t ys)) w.tables (omega arith) own.tables))
      (stage-ok comparing (more_contents t ys))

  closed-stage : t.closed ≡ false → (d : Bool) → is_due t ≡ d → stage_ok comparing (closed_contents t) (pick d w.stage (stage_of comparing (closed_contents t))) ≡ true
  closed-stage e true d = close-stage comparing t w.stage e own.stage d
  closed-stage e false d = stage-ok comparing (closed_contents t)

  pub keeps-closed : t.closed ≡ false → in_range (with_closed w) ≡ true
  unfolding with_closed
  keeps-closed e = range-of (with_closed w) own.active (close-contents t own.contents e) own.tables (closed-stage e (is_due t) refl)

  pub keeps-stage : (st : Stage) → stage_ok comparing t st ≡ true → in_range (with_stage w st) ≡ true
  keeps-stage st s = range-of (with_stage w st) own.active own.contents own.tables s

  pub keeps-emptied : (d : Bool) → is_due t ≡ true → in_range (with_emptied w d) ≡ true
  keeps-emptied d e =
      range-of (with_emptied w d) own.active (empty-contents t d own.contents e)
      (tables-later (position t) (position (emptied t d)) w.tables (omega arith) own.tables)
      (empty-idle t d comparing)

-- ---- every call

-- one of two steps, by a test
by-test : (a : Bool) (x y : Step) → (a ≡ true → in_range x.writer ≡ true) → (a ≡ false → in_range y.writer ≡ true) → in_range (pick a x y).writer ≡ true
by-test true x y f g = f refl
by-test false x y f g = g refl

module _ (region : List ℕ) (w : Writer) (r : in_range w ≡ true) where
  refused : {A : Type 0} → A → in_range w ≡ true
  refused e = r

  is_open_lem : may_append w ≡ true → w.contents.closed ≡ false
  is_open_lem e = not-true w.contents.closed (and_right (in_range w) (not w.contents.closed) e)

  on-source : (s : Source) → in_range (source_step w s).writer ≡ true
  unfolding source_step
  on-source s =
      by-test (may_append w && not (is_open w.tables)) (pick (ltb w.tables.count max_sources) (did (with_source w s)) (stays w Full)) (stays w Turn)
      (λ e. by-test (ltb w.tables.count max_sources) (did (with_source w s)) (stays w Full) (λ f. keeps-source w r s (ltb-true w.tables.count max_sources f)) refused) refused

  may-count : (t : ℕ) → may_begin w.tables t ≡ true → 1 ≤ w.tables.count
  may-count t e = leb-true 1 w.tables.count (and_left (leb 1 w.tables.count) _ (and_right (not (is_open w.tables)) _ e))

  on-table : (t : ℕ) → in_range (table_step w t).writer ≡ true
  unfolding table_step
  on-table t =
      by-test (leb t 7) (pick (may_append w && may_begin w.tables t) (did (with_table w t)) (stays w Turn)) (stays w Argument)
      (λ e. by-test (may_append w && may_begin w.tables t) (did (with_table w t)) (stays w Turn)
      (λ f. keeps-table w r t (leb-true t 7 e) (may-count t (and_right (may_append w) (may_begin w.tables t) f))) refused) refused

  on-end : in_range (end_step w).writer ≡ true
  unfolding end_step
  on-end = by-test (may_end w) (did (with_end w)) (stays w Turn) (λ e. keeps-end w r) refused

  on-bytes : (xs : List ℕ) → in_range (bytes_step w xs).writer ≡ true
  unfolding bytes_step appended
  on-bytes xs =
      let t = w.contents in
      let n = accepted t (length xs) in
      let some· : Step = record { answer = Ok (Appended n); writer = with_bytes w (take n xs) } in
      let none· : Step = record { answer = Ok (Appended 0); writer = w } in
      by-test (may_append w) (pick (leb (position t + length xs) capacity) (pick (is_due t) none· some·) (stays w Full)) (stays w Turn)
      (λ e. by-test (leb (position t + length xs) capacity) (pick (is_due t) none· some·) (stays w Full)
      (λ f. by-test (is_due t) none· some· refused
      (λ d.
      let l = length-take n xs in
      let q = fill-fits t (own w r).contents in
      let z = leb-true (position t + length xs) capacity f in
      keeps-bytes w r (take n xs) (is_open_lem e) (omega arith) (omega arith))) refused) refused

  on-close : in_range (close_step w).writer ≡ true
  unfolding close_step
  on-close =
      by-test (may_append w && not (is_open w.tables)) (did (with_closed w)) (stays w Turn)
      (λ e. keeps-closed w r (is_open_lem (and_left (may_append w) (not (is_open w.tables)) e))) refused

  stage_at : (st : Stage) → w.stage ≡ st → stage_ok w.beginning.comparing w.contents st ≡ true
  stage_at st e = ap (stage_ok w.beginning.comparing w.contents) (sym e) ∙ (own w r).stage

  on-erase : (k : ℕ) → w.stage ≡ Due (Erase k) → (z : Bool) → in_range (with_stage w (Due (pick z (data_due w.contents) (write_due w.contents)))) ≡ true
  on-erase k e z =
      let d = due-ok w.beginning.comparing w.contents (Erase k) (stage_at (Due (Erase k)) e) in
      let c = erase-mode w.beginning.comparing w.contents k d.1 in
      let ok : (y : Bool) → stage_ok w.beginning.comparing w.contents (Due (pick y (data_due w.contents) (write_due w.contents))) ≡ true =
      λ y. ap (λ (x : Bool). stage_ok x w.contents (Due (pick y (data_due w.contents) (write_due w.contents)))) c ∙ next-ok y d.0 in
      keeps-stage w r (Due (pick z (data_due w.contents) (write_due w.contents))) (ok z)
    where
      next-ok : (y : Bool) → is_due w.contents ≡ true → stage_ok false w.contents (Due (pick y (data_due w.contents) (write_due w.contents))) ≡ true
      next-ok true q = due-of false w.contents (data_due w.contents) q (data-ok w.contents)
      next-ok false q = due-of false w.contents (write_due w.contents) q (write-ok w.contents)

  on-operation : (o : Operation) → w.stage ≡ Due o → in_range (operated region w o) ≡ true
  unfolding operated
  on-operation (Erase k) e = on-erase k e (eqb k 0)
  on-operation (Write a n) e = keeps-emptied w r w.contents.different (due-ok w.beginning.comparing w.contents (Write a n) (stage_at (Due (Write a n)) e)).0
  on-operation (Compare a n) e =
      keeps-emptied w r (w.contents.different || differs region w.beginning.active w.contents w.tail)
      (due-ok w.beginning.comparing w.contents (Compare a n) (stage_at (Due (Compare a n)) e)).0

  on-stage : (st : Stage) → w.stage ≡ st → in_range (step_of region w st).writer ≡ true
  on-stage Idle e = r
  on-stage (Due o) e = on-operation o e
  on-stage HeaderWritten e = r
  on-stage Committed e = r

  on-due : in_range (due_step region w).writer ≡ true
  unfolding due_step
  on-due =
      by-test (eqb (length region) region_size) (pick (in_range w) (step_of region w w.stage) (stays w Turn)) (stays w Region)
      (λ e. by-test (in_range w) (step_of region w w.stage) (stays w Turn) (λ f. on-stage w.stage refl) refused) refused

  on-unchanged : in_range (unchanged_step region w).writer ≡ true
  unfolding unchanged_step
  on-unchanged =
      let answered : Step = record { answer = pick (is_unchanged region w w.beginning.active) (Ok Same) (Ok Different); writer = w } in
      by-test (eqb (length region) region_size) (pick (may_ask w) answered (stays w Turn)) (stays w Region) (λ e. by-test (may_ask w) answered (stays w Turn) refused refused) refused

  header-written : (current : Bool) → may_commit w ≡ true → is_current w current ≡ true → in_range (with_stage w HeaderWritten) ≡ true
  header-written current e g =
      let t = w.contents in
      let at-end = and_right (in_range w) (t.closed && is_idle w.stage) e in
      let cl = and_left t.closed (is_idle w.stage) at-end in
      let id = is-idle w.stage (and_right t.closed (is_idle w.stage) at-end) in
      let wr = not-true w.beginning.comparing (and_left (not w.beginning.comparing) current g) in
      keeps-stage w r HeaderWritten (headed-of w.beginning.comparing t wr cl (closed-empty t cl (idle-due w.beginning.comparing t (stage_at Idle id))))

  on-commit : (stamp : Option ℤ) (current : Bool) → in_range (commit_step region w stamp current).writer ≡ true
  unfolding commit_step
  on-commit stamp current =
      let fit = pick (is_fit (bank_for w stamp) (records_for w)) (did (with_stage w HeaderWritten)) (stays w Unfit) in
      by-test (eqb (length region) region_size) (pick (may_commit w) (pick (is_current w current) fit (stays w Obsolete)) (stays w Turn)) (stays w Region)
      (λ a. by-test (may_commit w) (pick (is_current w current) fit (stays w Obsolete)) (stays w Turn)
      (λ e. by-test (is_current w current) fit (stays w Obsolete)
      (λ g. by-test (is_fit (bank_for w stamp) (records_for w)) (did (with_stage w HeaderWritten)) (stays w Unfit) (λ f. header-written current e g) refused) refused) refused) refused

  on_word : in_range (word_step region w).writer ≡ true
  unfolding word_step
  on_word =
      by-test (eqb (length region) region_size) (pick (in_range w && is_header_written w.stage) (did (with_stage w Committed)) (stays w Turn)) (stays w Region)
      (λ a. by-test (in_range w && is_header_written w.stage) (did (with_stage w Committed)) (stays w Turn)
      (λ e. keeps-stage w r Committed
      (committed-of w.beginning.comparing w.contents (stage_at HeaderWritten (is-header-written w.stage (and_right (in_range w) (is_header_written w.stage) e))))) refused) refused

  pub keeps-call : (c : Lower) → in_range (lower_step region w c).writer ≡ true
  unfolding lower_step
  keeps-call (source s) = on-source s
  keeps-call (table t) = on-table t
  keeps-call (bytes xs) = on-bytes xs
  keeps-call end = on-end
  keeps-call close = on-close
  keeps-call due = on-due
  keeps-call unchanged = on-unchanged
  keeps-call (commit stamp current) = on-commit stamp current
  keeps-call word = on_word

pub keeps-run : (cs : List Lower) (region : List ℕ) (w : Writer) → in_range w ≡ true → in_range (ran_writer region w cs) ≡ true
unfolding ran_writer
keeps-run [] region w r = r
keeps-run (c ∷ cs) region w r = keeps-run cs (lower_region region w c) (lower_step region w c).writer (keeps-call region w r c)
