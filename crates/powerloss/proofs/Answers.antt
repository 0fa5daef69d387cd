-- An upper call that is answered ends with nothing due, and no lower call of its run is refused, on any state. Its own tests show that the
-- state is within its ranges. At most three operations are due in a row, and each due call does one, so after three nothing is due; a byte
-- is appended then, if the capacity holds it. By induction on the bytes.
use mathlib.Core.Path.{◌≡◌, refl, sym, ap, ◌∙◌, subst}
use mathlib.Core.Bool.{Bool, true, false, not, false≢true, and-false}
use mathlib.Core.List.{List, [], ◌∷◌, ◌++◌}
use Prim.Native.Nat.{ℕ, zero, suc, ◌+◌, ◌-◌, ◌/◌, ◌%◌, ◌≤◌, ◌<◌}
use native.Mathlib.Omega.{arith}
use native.Mathlib.Numerals.{add-one}
use borrow.Author.Tests.{eq-eqb, eqb-true, le-leb, leb-true, ltb-true, ne_eqb, not-true}
use lib.Dec.{leb, ltb, eqb}
use lib.IntN.{ℤ}
use lib.ListN.{length, take}
use Rattle.base.specs.Number.{pick}
use Rattle.base.proofs.Bools.{and_left, and_right}
use Rattle.refusal.specs.declared.Refusal.{Refusal}
use Rattle.refusal.specs.declared.Refusal.TheVariants.{Region, Argument, Identity, Full, Turn, Row}
use Rattle.key.specs.Layout as Key
use Rattle.key.proofs.Longest.{longest}
use Rattle.record.specs.declared.Source.{Source}
use Rattle.region.specs.Region.{region_size, capacity, sector_size}
use Rattle.header.specs.Header.{max_sources}
use Rattle.bank.specs.Bank.{loaded}
use Rattle.bank.proofs.Laws.{load-no-region}
use Rattle.flash.specs.Flash.{Op, performed}
use Rattle.flash.proofs.Laws.{length-performed}
use Rattle.writer.specs.declared.Operation.TheVariants.{Erase, Write, Compare}
use Rattle.writer.specs.declared.Stage.{Stage}
use Rattle.writer.specs.declared.Stage.TheVariants.{Idle, Due, HeaderWritten, Committed}
use Rattle.writer.specs.declared.Answer.TheVariants.{Done, Appended}
use Rattle.writer.specs.declared.Contents.{Contents}
use Rattle.writer.specs.declared.Tables.{Tables}
use Rattle.writer.specs.declared.Writer.{Writer}
use Rattle.writer.specs.declared.Step.{Step}
use Rattle.writer.specs.State.{position, is_due, write_due, data_due, is_open, target, in_range, active_ok, contents_ok, stage_ok, did, stays}
use Rattle.writer.proofs.Laws.{ranged}
use Rattle.lower.specs.Lower.{source_step, table_step, end_step, close_step, may_append, may_begin, accepted, answer_of, started, begun, with_source, with_table, with_end, with_bytes, with_closed, appended, bytes_step}
use Rattle.lower.proofs.Laws.{source-done, table_done, end-done, close-done}
use Rattle.due.specs.Due.{operated, step_of, due_step}
use Rattle.run.specs.Run.{Lower, source, table, bytes, end, close, due, lower_step, lower_ops, lower_region, ran_writer}
use Rattle.run.specs.Appends.{dues, appends}
use Rattle.upper.specs.Upper.{Upper, source_with_dates, table_with_names, row, table_end, closing, appended_bytes, lower_of, run_of, argument_ok, order_ok, row_ok, source_fits, all_fits, refusal_of, run_if, upper_run, answered, upper_step, begin_refusal, key_bytes, begin_run, began_with, begin_step}
use Rattle.powerloss.specs.History.{is_done}
use Rattle.powerloss.specs.Ranges.{is_refused, NoneRefused, Keeps, Answers}
use Rattle.powerloss.proofs.Load.{active-ok, target_fits}
use Rattle.powerloss.proofs.Range.{range-of, tables-none, headed-end, committed-end, idle-due, idle-free}
use Rattle.powerloss.proofs.Keeps.{keeps-source, keeps-table, keeps-end, keeps-bytes, keeps-closed, keeps-call, keeps-run}
use Rattle.std.specs.Prelude.{Ok, Result, Some, None, Option}
use Rattle.header.specs.declared.Bank.{Bank}

-- a region of its size and a state within its ranges
pub record Fit (region : List ℕ) (w : Writer) : Type 0 where
  pub size : length region ≡ region_size
  pub range : in_range w ≡ true

pub fit-call : (region : List ℕ) (w : Writer) → Fit region w → (c : Lower) → Fit (lower_region region w c) (lower_step region w c).writer
fit-call region w f c =
    record {
      size = length-performed (target w.beginning.active) (lower_ops region w c) region (target_fits w.beginning.active) f.size;
      range = keeps-call region w f.range c;
    }

-- ---- one due call

abbrev pub region_after : List ℕ → Writer → List ℕ
region_after region w = lower_region region w due

abbrev pub writer_after : List ℕ → Writer → Writer
writer_after region w = (lower_step region w due).writer

-- how many operations are due in a row
abbrev rank : Stage → ℕ
rank Idle = 0
rank HeaderWritten = 0
rank Committed = 0
rank (Due (Erase zero)) = 3
rank (Due (Erase (suc k))) = 2
rank (Due (Write a n)) = 1
rank (Due (Compare a n)) = 1

record Stepped (st : Stage) (w w' : Writer) : Type 0 where
  closed : w'.contents.closed ≡ w.contents.closed
  position· : position w'.contents ≡ position w.contents
  tables : w'.tables ≡ w.tables
  rank· : rank w'.stage ≤ rank st - 1

data-rank : (t : Contents) (z : Bool) → rank (Due (pick z (Erase (t.written / sector_size + 1)) (write_due t))) ≤ 2
data-rank t true = subst (λ (k : ℕ). rank (Due (Erase k)) ≤ 2) (sym (add-one (t.written / sector_size))) (omega arith)
data-rank t false = omega arith

stepped : (region : List ℕ) (w : Writer) (st : Stage) → w.stage ≡ st → Stepped st w (step_of region w st).writer
unfolding operated data_due
stepped region w Idle e = record { closed = refl; position· = refl; tables = refl; rank· = omega (arith, ap rank e) }
stepped region w HeaderWritten e = record { closed = refl; position· = refl; tables = refl; rank· = omega (arith, ap rank e) }
stepped region w Committed e = record { closed = refl; position· = refl; tables = refl; rank· = omega (arith, ap rank e) }
stepped region w (Due (Erase zero)) e = record { closed = refl; position· = refl; tables = refl; rank· = data-rank w.contents (eqb (w.contents.written % sector_size) 0) }
stepped region w (Due (Erase (suc j))) e =
    rw (ne_eqb (suc j) 0 (λ h. omega arith)) (record { closed = refl; position· = refl; tables = refl; rank· = omega arith })
stepped region w (Due (Write a n)) e = record { closed = refl; position· = omega arith; tables = refl; rank· = omega arith }
stepped region w (Due (Compare a n)) e = record { closed = refl; position· = omega arith; tables = refl; rank· = omega arith }

due-is : (region : List ℕ) (w : Writer) → Fit region w → due_step region w ≡ step_of region w w.stage
unfolding due_step
due-is region w f = rw (eq-eqb (length region) region_size f.size, f.range)

due-stepped : (region : List ℕ) (w : Writer) → Fit region w → Stepped w.stage w (writer_after region w)
unfolding lower_step
due-stepped region w f = subst (λ (s : Step). Stepped w.stage w s.writer) (sym (due-is region w f)) (stepped region w w.stage refl)

-- ---- three of them

abbrev pub region_three : List ℕ → Writer → List ℕ
region_three region w = region_after (region_after (region_after region w) (writer_after region w)) (writer_after (region_after region w) (writer_after region w))

abbrev pub writer_three : List ℕ → Writer → Writer
writer_three region w = writer_after (region_after (region_after region w) (writer_after region w)) (writer_after (region_after region w) (writer_after region w))

pub record AfterThree (region : List ℕ) (w : Writer) : Type 0 where
  pub fit : Fit (region_three region w) (writer_three region w)
  pub closed : (writer_three region w).contents.closed ≡ w.contents.closed
  pub position· : position (writer_three region w).contents ≡ position w.contents
  pub tables : (writer_three region w).tables ≡ w.tables
  pub still : is_due (writer_three region w).contents ≡ false

rank_most : (st : Stage) → rank st ≤ 3
rank_most Idle = omega arith
rank_most HeaderWritten = omega arith
rank_most Committed = omega arith
rank_most (Due (Erase zero)) = omega arith
rank_most (Due (Erase (suc k))) = omega arith
rank_most (Due (Write a n)) = omega arith
rank_most (Due (Compare a n)) = omega arith

pub empty-due : (t : Contents) → t.fill ≡ 0 → is_due t ≡ false
unfolding is_due
empty-due t e = rw (e, and-false t.closed)

rank-none : (c : Bool) (t : Contents) (st : Stage) → rank st ≡ 0 → stage_ok c t st ≡ true → is_due t ≡ false
rank-none c t Idle e k = idle-due c t k
rank-none c t HeaderWritten e k = empty-due t (headed-end c t k).empty
rank-none c t Committed e k = empty-due t (committed-end c t k).empty
rank-none c t (Due (Erase zero)) e k = absurd (omega arith)
rank-none c t (Due (Erase (suc j))) e k = absurd (omega arith)
rank-none c t (Due (Write a n)) e k = absurd (omega arith)
rank-none c t (Due (Compare a n)) e k = absurd (omega arith)

pub after-three : (region : List ℕ) (w : Writer) → Fit region w → AfterThree region w
after-three region w f =
    let r1 = region_after region w in
    let w1 = writer_after region w in
    let r2 = region_after r1 w1 in
    let w2 = writer_after r1 w1 in
    let w3 = writer_after r2 w2 in
    let f1 = fit-call region w f due in
    let f2 = fit-call r1 w1 f1 due in
    let f3 = fit-call r2 w2 f2 due in
    let s1 = due-stepped region w f in
    let s2 = due-stepped r1 w1 f1 in
    let s3 = due-stepped r2 w2 f2 in
    let z : rank w3.stage ≡ 0 = omega (arith, s1.rank·, s2.rank·, s3.rank·, rank_most w.stage) in
    record {
      fit = f3;
      closed = s3.closed ∙ s2.closed ∙ s1.closed;
      position· = s3.position· ∙ s2.position· ∙ s1.position·;
      tables = s3.tables ∙ s2.tables ∙ s1.tables;
      still = rank-none w3.beginning.comparing w3.contents w3.stage z (ranged w3 f3.range).stage;
    }

-- ---- a byte

appended_one : (x : ℕ) (w : Writer) (a f d : Bool) (n : ℕ) → a ≡ true → f ≡ true → d ≡ false → n ≡ 1
    → pick {A = Step} a (pick f (pick d (record { answer = Ok (Appended 0); writer = w }) (record { answer = Ok (Appended n); writer = with_bytes w (take n (x ∷ [])) })) (stays w Full)) (stays w Turn)
    ≡ record { answer = Ok (Appended 1); writer = with_bytes w (x ∷ []) }
appended_one x w a f d n p q r s = rw (p, q, r, s)

pub may-append : (w : Writer) → in_range w ≡ true → w.contents.closed ≡ false → may_append w ≡ true
may-append w r e = rw (r, e)

pub byte_step : (region : List ℕ) (w : Writer) (x : ℕ) → Fit region w → w.contents.closed ≡ false → is_due w.contents ≡ false → position w.contents + 1 ≤ capacity
    → bytes_step w (x ∷ []) ≡ record { answer = Ok (Appended 1); writer = with_bytes w (x ∷ []) }
unfolding bytes_step appended
byte_step region w x f e d p =
    appended_one x w (may_append w) (leb (position w.contents + 1) capacity) (is_due w.contents) (accepted w.contents 1) (may-append w f.range e) (le-leb (position w.contents + 1) capacity p) d
    (omega (arith, idle-free w.contents d (ranged w f.range).contents))

pub bytes-closed : (w : Writer) (ys : List ℕ) → (with_bytes w ys).contents.closed ≡ w.contents.closed
unfolding with_bytes
bytes-closed w ys = refl

pub bytes-position : (w : Writer) (x : ℕ) → position (with_bytes w (x ∷ [])).contents ≡ position w.contents + 1
unfolding with_bytes
bytes-position w x = omega arith

-- ---- runs

-- no call of the run is refused, and it ends with nothing due
record Answered (region : List ℕ) (w : Writer) (cs : List Lower) : Type 0 where
  none· : NoneRefused region w cs
  still : is_due (ran_writer region w cs).contents ≡ false

-- a call that is answered and does no operation, then the others
answered-call : (region : List ℕ) (w : Writer) (c : Lower) (cs : List Lower) (s : Step) → lower_step region w c ≡ s → lower_ops region w c ≡ [] → is_refused s.answer ≡ false → Answered region s.writer cs
    → Answered region w (c ∷ cs)
unfolding ran_writer
answered-call region w c cs s e o a h =
    let n = target w.beginning.active in
    let same : lower_region region w c ≡ region = ap (λ (ops : List Op). performed n ops region) o ∙ unfold performed in refl in
    record {
      none· = (
        ap (λ (x : Step). is_refused x.answer) e ∙ a,
        subst (λ (r : List ℕ). NoneRefused r (lower_step region w c).writer cs) (sym same) (subst (λ (x : Step). NoneRefused region x.writer cs) (sym e) h.none·),
      );
      still = (λ i. is_due (ran_writer (same i) (e i).writer cs).contents) ∙ h.still;
    }

stage-answered : (region : List ℕ) (w : Writer) (st : Stage) → is_refused (step_of region w st).answer ≡ false
stage-answered region w Idle = refl
stage-answered region w (Due o) = refl
stage-answered region w HeaderWritten = refl
stage-answered region w Committed = refl

due-answered : (region : List ℕ) (w : Writer) → Fit region w → is_refused (lower_step region w due).answer ≡ false
unfolding lower_step
due-answered region w f = ap (λ (s : Step). is_refused s.answer) (due-is region w f) ∙ stage-answered region w w.stage

dues-answered : (region : List ℕ) (w : Writer) (cs : List Lower) → Fit region w → Answered (region_three region w) (writer_three region w) cs → Answered region w (dues ++ cs)
unfolding ran_writer
dues-answered region w cs f h =
    let r1 = region_after region w in
    let w1 = writer_after region w in
    let f1 = fit-call region w f due in
    let r2 = region_after r1 w1 in
    let w2 = writer_after r1 w1 in
    let f2 = fit-call r1 w1 f1 due in
    record { none· = (due-answered region w f, (due-answered r1 w1 f1, (due-answered r2 w2 f2, h.none·))); still = h.still }

-- nothing but what is due
only-dues : (region : List ℕ) (w : Writer) → Fit region w → Answered region w (dues ++ [])
only-dues region w f = dues-answered region w [] f (unfold ran_writer in (record { none· = tt; still = (after-three region w f).still }))

appends-answered : (xs region : List ℕ) (w : Writer) → Fit region w → w.contents.closed ≡ false → is_due w.contents ≡ false → position w.contents + length xs ≤ capacity → Answered region w (appends xs)
unfolding appends
appends-answered [] region w f e d p = unfold ran_writer in (record { none· = tt; still = d })
appends-answered (x ∷ xs) region w f e d p =
    let w1 = with_bytes w (x ∷ []) in
    let s = byte_step region w x f e d (omega arith) in
    let free = idle-free w.contents d (ranged w f.range).contents in
    let f1 : Fit region w1 = record { size = f.size; range = keeps-bytes w f.range (x ∷ []) e (omega arith) (omega arith) } in
    let t = after-three region w1 f1 in
    answered-call region w (bytes (x ∷ [])) (dues ++ appends xs) (record { answer = Ok (Appended 1); writer = w1 }) (unfold lower_step in s) (unfold lower_ops in refl) refl
    (dues-answered region w1 (appends xs) f1
    (appends-answered xs (region_three region w1) (writer_three region w1) t.fit (t.closed ∙ bytes-closed w (x ∷ []) ∙ e) t.still (omega (arith, t.position·, bytes-position w x))))

-- what was due, then bytes
dues-appends : (xs region : List ℕ) (w : Writer) → Fit region w → w.contents.closed ≡ false → position w.contents + length xs ≤ capacity → Answered region w (dues ++ appends xs)
dues-appends xs region w f e p =
    let t = after-three region w f in
    dues-answered region w (appends xs) f (appends-answered xs (region_three region w) (writer_three region w) t.fit (t.closed ∙ e) t.still (omega (arith, t.position·)))

-- ---- a call that is answered passed its tests

pub record Accepted (region : List ℕ) (w : Writer) (c : Upper) : Type 0 where
  pub size : length region ≡ region_size
  pub argument : argument_ok c ≡ true
  pub order : order_ok w c ≡ true
  pub fits : all_fits w c ≡ true

abbrev is_some : Option Refusal → Bool
is_some None = false
is_some (Some r) = true

pick-none : (t : Bool) (x : Option Refusal) (r : Refusal) → pick t x (Some r) ≡ None → (t ≡ true) × (x ≡ None)
pick-none true x r e = (refl, e)
pick-none false x r e = absurd (false≢true (sym (ap is_some e)))

pub accepted-by : (region : List ℕ) (w : Writer) (c : Upper) → refusal_of region w c ≡ None → Accepted region w c
unfolding refusal_of
accepted-by region w c e =
    let f = pick-none (all_fits w c) None Full in
    let d = pick-none (row_ok w c) (pick (all_fits w c) None (Some Full)) Row in
    let b = pick-none (order_ok w c) (pick (row_ok w c) (pick (all_fits w c) None (Some Full)) (Some Row)) Turn in
    let a = pick-none (argument_ok c) (pick (order_ok w c) (pick (row_ok w c) (pick (all_fits w c) None (Some Full)) (Some Row)) (Some Turn)) Argument in
    let z = pick-none (eqb (length region) region_size)
    (pick (argument_ok c) (pick (order_ok w c) (pick (row_ok w c) (pick (all_fits w c) None (Some Full)) (Some Row)) (Some Turn)) (Some Argument)) Region e in
    let za = a z.1 in
    let zb = b za.1 in
    let zd = d zb.1 in
    let zf = f zd.1 in
    record { size = eqb-true (length region) region_size z.0; argument = za.0; order = zb.0; fits = zf.0 }

in_order : (w : Writer) (c : Upper) → order_ok w c ≡ true → in_range w ≡ true
in_order w (source_with_dates s) e = and_left (in_range w) (not w.contents.closed) (and_left (may_append w) (not (is_open w.tables)) e)
in_order w (table_with_names t) e = and_left (in_range w) (not w.contents.closed) (and_left (may_append w) (may_begin w.tables t) e)
in_order w (row texts lengths) e = and_left (in_range w) (not w.contents.closed) (and_left (may_append w) (is_open w.tables) e)
in_order w table_end e = and_left (in_range w) (is_open w.tables) e
in_order w closing e = and_left (in_range w) (not w.contents.closed) (and_left (may_append w) (not (is_open w.tables)) e)

module _ (region : List ℕ) (w : Writer) (c : Upper) (a : Accepted region w c) where
  fit : Fit region w
  fit = record { size = a.size; range = in_order w c a.order }

  pub open_of : may_append w ≡ true → w.contents.closed ≡ false
  open_of m = not-true w.contents.closed (and_right (in_range w) (not w.contents.closed) m)

  -- after what was due before
  abbrev region' : List ℕ
  region' = region_three region w

  abbrev w' : Writer
  w' = writer_three region w

  t3 : AfterThree region w
  t3 = after-three region w fit

  open' : may_append w ≡ true → w'.contents.closed ≡ false
  open' m = t3.closed ∙ open_of m

  may' : may_append w ≡ true → may_append w' ≡ true
  may' m = may-append w' t3.fit.range (open' m)

  pub fits-of : position w'.contents + length (appended_bytes c) ≤ capacity
  fits-of =
      omega (arith, t3.position·, leb-true (position w.contents + length (appended_bytes c)) capacity (and_right (source_fits w c) (leb (position w.contents + length (appended_bytes c)) capacity) a.fits))

-- ---- the lower call of the same name, what is due, and the bytes

module _ (region : List ℕ) (w : Writer) where
  source-step : (s : Source) → lower_step region w (source s) ≡ source_step w s
  unfolding lower_step
  source-step s = refl

  table_step_lem : (n : ℕ) → lower_step region w (table n) ≡ table_step w n
  unfolding lower_step
  table_step_lem n = refl

  end_step_lem : lower_step region w end ≡ end_step w
  unfolding lower_step
  end_step_lem = refl

  close-step : lower_step region w close ≡ close_step w
  unfolding lower_step
  close-step = refl

  source-ops : (s : Source) → lower_ops region w (source s) ≡ []
  unfolding lower_ops
  source-ops s = refl

  table-ops : (n : ℕ) → lower_ops region w (table n) ≡ []
  unfolding lower_ops
  table-ops n = refl

  end-ops : lower_ops region w end ≡ []
  unfolding lower_ops
  end-ops = refl

  close-ops : lower_ops region w close ≡ []
  unfolding lower_ops
  close-ops = refl

module _ (region : List ℕ) (w : Writer) where
  source-answered : (s : Source) → Accepted region w (source_with_dates s) → Answered (region_three region w) (writer_three region w) (lower_of (source_with_dates s) ++ (dues ++ appends (appended_bytes (source_with_dates s))))
  source-answered s a =
      let c = source_with_dates s in
      let w3 = writer_three region w in
      let t = t3 region w c a in
      let may = and_left (may_append w) (not (is_open w.tables)) a.order in
      let n = and_right (may_append w) (not (is_open w.tables)) a.order in
      let n3 = subst (λ (x : Tables). not (is_open x) ≡ true) (sym t.tables) n in
      let k = ltb-true w.tables.count max_sources (and_left (ltb w.tables.count max_sources) (leb (position w.contents + length (appended_bytes c)) capacity) a.fits) in
      let k3 = subst (λ (x : Tables). x.count < max_sources) (sym t.tables) k in
      answered-call (region_three region w) w3 (source s) (dues ++ appends (appended_bytes c)) (did (with_source w3 s)) (source-step (region_three region w) w3 s ∙ sym (source-done w3 s (rw (may' region w c a may) n3) k3)) (source-ops (region_three region w) w3 s) refl
      (dues-appends (appended_bytes c) (region_three region w) (with_source w3 s) (record { size = t.fit.size; range = keeps-source w3 t.fit.range s k3 }) (unfold with_source in (open' region w c a may)) (unfold with_source in (fits-of region w c a)))

  table-answered : (n : ℕ) → Accepted region w (table_with_names n) → Answered (region_three region w) (writer_three region w) (lower_of (table_with_names n) ++ (dues ++ appends (appended_bytes (table_with_names n))))
  table-answered n a =
      let c = table_with_names n in
      let w3 = writer_three region w in
      let t = t3 region w c a in
      let may = and_left (may_append w) (may_begin w.tables n) a.order in
      let m3 = subst (λ (x : Tables). may_begin x n ≡ true) (sym t.tables) (and_right (may_append w) (may_begin w.tables n) a.order) in
      let l = leb-true n 7 a.argument in
      let k = leb-true 1 w3.tables.count (and_left (leb 1 w3.tables.count) _ (and_right (not (is_open w3.tables)) _ m3)) in
      answered-call (region_three region w) w3 (table n) (dues ++ appends (appended_bytes c)) (did (with_table w3 n)) (table_step_lem (region_three region w) w3 n ∙ sym (table_done w3 n l (rw (may' region w c a may) m3))) (table-ops (region_three region w) w3 n) refl
      (dues-appends (appended_bytes c) (region_three region w) (with_table w3 n) (record { size = t.fit.size; range = keeps-table w3 t.fit.range n l k }) (unfold with_table in (open' region w c a may)) (unfold with_table in (fits-of region w c a)))

  end-answered : Accepted region w table_end → Answered (region_three region w) (writer_three region w) (end ∷ (dues ++ []))
  end-answered a =
      let w3 = writer_three region w in
      let t = t3 region w table_end a in
      let n3 = subst (λ (x : Tables). is_open x ≡ true) (sym t.tables) (and_right (in_range w) (is_open w.tables) a.order) in
      answered-call (region_three region w) w3 end (dues ++ []) (did (with_end w3)) (end_step_lem (region_three region w) w3 ∙ sym (end-done w3 (rw t.fit.range n3))) (end-ops (region_three region w) w3) refl
      (only-dues (region_three region w) (with_end w3) (record { size = t.fit.size; range = keeps-end w3 t.fit.range }))

  close-answered : Accepted region w closing → Answered (region_three region w) (writer_three region w) (close ∷ (dues ++ []))
  close-answered a =
      let w3 = writer_three region w in
      let t = t3 region w closing a in
      let may = and_left (may_append w) (not (is_open w.tables)) a.order in
      let n3 = subst (λ (x : Tables). not (is_open x) ≡ true) (sym t.tables) (and_right (may_append w) (not (is_open w.tables)) a.order) in
      answered-call (region_three region w) w3 close (dues ++ []) (did (with_closed w3)) (close-step (region_three region w) w3 ∙ sym (close-done w3 (rw (may' region w closing a may) n3))) (close-ops (region_three region w) w3) refl
      (only-dues (region_three region w) (with_closed w3) (record { size = t.fit.size; range = keeps-closed w3 t.fit.range (open' region w closing a may) }))

  rest-answered : (c : Upper) → Accepted region w c → Answered (region_three region w) (writer_three region w) (lower_of c ++ (dues ++ appends (appended_bytes c)))
  rest-answered (source_with_dates s) a = source-answered s a
  rest-answered (table_with_names n) a = table-answered n a
  rest-answered (row texts lengths) a =
      let c = row texts lengths in
      dues-appends (appended_bytes c) (region_three region w) (writer_three region w) (t3 region w c a).fit (open' region w c a (and_left (may_append w) (is_open w.tables) a.order)) (fits-of region w c a)
  rest-answered table_end a = unfold appended_bytes in (unfold appends in (end-answered a))
  rest-answered closing a = unfold appended_bytes in (unfold appends in (close-answered a))

  run-answered : (c : Upper) → Accepted region w c → Answered region w (run_of c)
  unfolding run_of
  run-answered c a = dues-answered region w (lower_of c ++ (dues ++ appends (appended_bytes c))) (fit region w c a) (rest-answered c a)

-- ---- an upper call

record Ended (region : List ℕ) (w : Writer) (cs : List Lower) (s : Step) : Type 0 where
  nothing : is_due s.writer.contents ≡ false
  none· : NoneRefused region w cs

upper_by : (region : List ℕ) (w : Writer) (c : Upper) (x : Option Refusal) → refusal_of region w c ≡ x → (answered x (ran_writer region w (run_if x (run_of c)))).answer ≡ Ok Done
    → Ended region w (run_if x (run_of c)) (answered x (ran_writer region w (run_if x (run_of c))))
upper_by region w c None e f =
    let z = run-answered region w c (accepted-by region w c e) in
    record { nothing = z.still; none· = z.none· }
upper_by region w c (Some r) e f = absurd (false≢true (ap is_done f))

upper-ended : (region : List ℕ) (w : Writer) (c : Upper) → (upper_step region w c).answer ≡ Ok Done → Ended region w (upper_run region w c) (upper_step region w c)
unfolding upper_step upper_run
upper-ended region w c = upper_by region w c (refusal_of region w c) refl

keeps-by : (region : List ℕ) (w : Writer) (cs : List Lower) (x : Option Refusal) → in_range w ≡ true → in_range (answered x (ran_writer region w cs)).writer ≡ true
keeps-by region w cs None r = keeps-run cs region w r
keeps-by region w cs (Some q) r = keeps-run cs region w r

keeps-upper : (region : List ℕ) (w : Writer) (c : Upper) → in_range w ≡ true → in_range (upper_step region w c).writer ≡ true
unfolding upper_step
keeps-upper region w c = keeps-by region w (upper_run region w c) (refusal_of region w c)

-- ---- a beginning

pub started-range : (hd : Result (Option Bank) Refusal) (comparing : Bool) (now : ℤ) → active_ok hd ≡ true → in_range (started hd comparing now) ≡ true
unfolding started contents_ok stage_ok is_due
started-range hd comparing now ok = range-of (started hd comparing now) ok refl (tables-none 0 (started hd comparing now).tables (omega arith) refl) refl

-- a beginning that is answered has a region of its size
read-size : (region : List ℕ) (z : Bool) → eqb (length region) region_size ≡ z → answer_of (loaded region) ≡ Ok Done → length region ≡ region_size
read-size region true z e = eqb-true (length region) region_size z
read-size region false z e = absurd (false≢true (ap is_done (ap answer_of (load-no-region region z) ∙ e)))

fit-started : (region : List ℕ) (comparing : Bool) (now : ℤ) → length region ≡ region_size → Fit region (started (loaded region) comparing now)
fit-started region comparing now l = record { size = l; range = started-range (loaded region) comparing now (active-ok region (loaded region) l refl) }

keeps-beginning : (region : List ℕ) (comparing : Bool) (now : ℤ) → (begun region comparing now).answer ≡ Ok Done → in_range (begun region comparing now).writer ≡ true
unfolding begun
keeps-beginning region comparing now e = (fit-started region comparing now (read-size region (eqb (length region) region_size) refl e)).range

pub key_fits : (region identity texts lengths : List ℕ) → begin_refusal region identity texts lengths ≡ None → (length region ≡ region_size) × (length (key_bytes identity texts lengths) ≤ capacity)
unfolding begin_refusal
key_fits region identity texts lengths e =
    let z = pick-none (eqb (length region) region_size) (pick (Key.fit texts lengths) (pick (leb (length identity) 65535) None (Some Identity)) (Some Argument)) Region e in
    let a = pick-none (Key.fit texts lengths) (pick (leb (length identity) 65535) None (Some Identity)) Argument z.1 in
    let b = pick-none (leb (length identity) 65535) None Identity a.1 in
    (eqb-true (length region) region_size z.0, omega (arith, longest identity texts lengths a.0 (leb-true (length identity) 65535 b.0)))

-- the key's run
module _ (region : List ℕ) (comparing : Bool) (now : ℤ) (identity texts lengths : List ℕ) where
  abbrev key : List ℕ
  key = key_bytes identity texts lengths

  abbrev w0 : Writer
  w0 = started (loaded region) comparing now

  key-answered : begin_refusal region identity texts lengths ≡ None → Answered region w0 (appends key)
  unfolding started is_due
  key-answered e =
      let f = key_fits region identity texts lengths e in
      appends-answered key region w0 (fit-started region comparing now f.0) refl refl (omega (arith, f.1))

  key-by : (x : Option Refusal) → begin_refusal region identity texts lengths ≡ x → (began_with x (ran_writer region w0 (run_if x (appends key))) comparing now).answer ≡ Ok Done
      → Ended region w0 (run_if x (appends key)) (began_with x (ran_writer region w0 (run_if x (appends key))) comparing now) × (in_range (began_with x (ran_writer region w0 (run_if x (appends key))) comparing now).writer ≡ true)
  key-by None e f =
      let z = key-answered e in
      (record { nothing = z.still; none· = z.none· }, keeps-run (appends key) region w0 (fit-started region comparing now (key_fits region identity texts lengths e).0).range)
  key-by (Some r) e f = absurd (false≢true (ap is_done f))

  key_ended : (begin_step region comparing now identity texts lengths).answer ≡ Ok Done
      → Ended region w0 (begin_run region identity texts lengths) (begin_step region comparing now identity texts lengths) × (in_range (begin_step region comparing now identity texts lengths).writer ≡ true)
  unfolding begin_step begin_run
  key_ended = key-by (begin_refusal region identity texts lengths) refl

pub keeps : Keeps
keeps =
    record {
      lower = λ region w c r. keeps-call region w r c;
      upper = keeps-upper;
      beginning = keeps-beginning;
      upper_beginning = λ region comparing now identity texts lengths e. (key_ended region comparing now identity texts lengths e).1;
    }

pub answers : Answers
answers =
    record {
      nothing_due = λ region w c e. (upper-ended region w c e).nothing;
      none_refused = λ region w c e. (upper-ended region w c e).none·;
      begin_nothing_due = λ region comparing now identity texts lengths e. (key_ended region comparing now identity texts lengths e).0.nothing;
      begin_none_refused = λ region comparing now identity texts lengths e. (key_ended region comparing now identity texts lengths e).0.none·;
    }
