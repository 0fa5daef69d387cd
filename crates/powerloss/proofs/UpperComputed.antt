-- The instances by upper calls, computed call by call with the laws of short runs. The region is any, so only its length is known; what
-- load found there is a variable, hd, and so is the mode. An update is computed from any run whose history holds what load gives, so that
-- one can follow another. What load gives afterwards follows by demand 3, the answer of `unchanged` by its theorem.
use mathlib.Core.Path.{◌≡◌, refl, sym, ap, ◌∙◌, subst}
use mathlib.Core.Bool.{Bool, true, false}
use mathlib.Core.List.{List, [], ◌∷◌, ◌++◌, map}
use mathlib.Core.Logic.{◌⊎◌, inl, inr}
use Prim.Native.Nat.{ℕ, ◌<◌}
use native.Mathlib.Omega.{arith}
use borrow.Author.Tests.{eq-eqb}
use lib.IntN.{ℤ, pos}
use lib.Signed.{le_z}
use lib.ListN.{length, take, set, get_or, length-append}
use lib.Seq.{sets}
use mir.Syntax.{w64}
use mir.Val.{SFits}
use Rattle.leaf.specs.Bytes.{le32}
use Rattle.leaf.specs.Crc.{crc32}
use Rattle.leaf.proofs.Checksum.{crc32-append}
use Rattle.rfc4180.specs.Write.{row_of, field_of, any_special, special}
use Rattle.row.specs.Columns.{columns, columns_of, line}
use Rattle.row.specs.Write.{cut_by, passed_values}
use Rattle.key.specs.Layout as Key
use Rattle.key.specs.Picks as Picks
use Rattle.leaf.specs.Date.{leap, month_days, is_date, valid_date}
use Rattle.record.specs.declared.Source.{Source}
use Rattle.record.specs.Record.{no_source}
use Rattle.record.specs.Types.{All}
use Rattle.base.specs.Lists.{fill, each}
use Rattle.base.proofs.Lists.{length-fill}
use Rattle.header.specs.Header.{span_ok, source_ok, judge, max_sources, commit_offset}
use Rattle.header.specs.Types.{Bytes}
use Rattle.header.specs.WriteHeader.{is_fit, header_bytes, blank_word, commit_bytes}
use Rattle.region.specs.Region.{region_size, sector_size}
use Rattle.region.specs.Region as Region
use Rattle.bank.specs.Bank.{loaded}
use Rattle.flash.specs.Flash.{Op, erase, write, torn, applied, performed}
use Rattle.flash.proofs.Laws.{length-performed}
use Rattle.writer.specs.declared.Operation.TheVariants.{Erase, Compare}
use Rattle.writer.specs.declared.Stage.{Stage}
use Rattle.writer.specs.declared.Stage.TheVariants.{Idle, Due, HeaderWritten, Committed}
use Rattle.writer.specs.declared.Contents.{Contents}
use Rattle.writer.specs.declared.Tables.{Tables}
use Rattle.writer.specs.declared.Answer.TheVariants.{Done, Same, Different}
use Rattle.writer.specs.declared.Writer.{Writer}
use Rattle.writer.specs.State.{is_due, first_due, stage_of, target, begun_in, active_ok, contents_ok, tables_ok, operation_ok, stage_ok, in_range, tail_size, next_generation, did}
use Rattle.lower.specs.Lower.{started, with_source, source_step, with_table, table_step, with_bytes, with_end, end_step, with_closed, close_step, emptied, with_block, past_end}
use Rattle.commit.specs.Commit.{checked_time, bank_for, records_for, commit_step, commit_ops, word_step, word_ops}
use Rattle.commit.specs.Unchanged.{unchanged_step}
use Rattle.due.specs.Due.{padded, due_ops, differs, operated, due_step}
use Rattle.run.specs.Run.{source, table, end, close, due, unchanged, commit, word, lower_step, lower_ops, ran_writer, ran_region, ran_ops}
use Rattle.run.specs.Appends.{dues, appends}
use Rattle.upper.specs.Upper.{Upper, source_with_dates, table_with_names, row, table_end, closing, appended_bytes, key_bytes, refusal_of, run_if, upper_step, upper_region, upper_ops, begin_refusal, begin_run, began_with, begin_step, begin_region, begin_ops}
use Rattle.powerloss.specs.History.{Update, Note, bank_of, records_of, records_after, block_between, source_note, table_note, end_note, opened, with_appended, after_begin, upper_noted, upper_after, after_upper, update_after, committed, after_lower, checks}
use Rattle.powerloss.specs.Machine.{Event, call, begin_key, upper, upper_cut, cut_at, Run, Image, on_call, on_upper, on_upper_cut, image_after, bank_in, records_in, found, next, next_all}
use Rattle.powerloss.specs.Claim.{AllTyped, Holds, dates_and_blocks, IsEqual, UnchangedAt}
use Rattle.powerloss.specs.Operations.{since, ops_after}
use Rattle.powerloss.specs.Instances.{dates, the_source, the_old}
use Rattle.powerloss.specs.UpperInstances.{key, names, texts, lengths, row_bytes, data·, answer_on, now, later, earlier, to_table_end, update_at, updated, written, Gives, StampAfterNow, StampBeforeNow, FiveOperations, After, beginning_cut, CutBeginning, identity, key_write, key_cut, CutInTheKey, closing_cut, CutClosing, compared, SameRow, OtherRow}
use Rattle.powerloss.proofs.Bytes.{bytes-nil, bytes-fill}
use Rattle.powerloss.proofs.Answers.{Fit}
use Rattle.powerloss.proofs.Cuts.{cut-none, cut_inside, cut-after}
use Rattle.powerloss.proofs.Load.{target_fits, active-ok}
use Rattle.powerloss.proofs.Lowers.{mk}
use Rattle.powerloss.proofs.Uppers.{inv-all, inv-found, demand3}
use Rattle.powerloss.proofs.Unchanged.{exactly}
use Rattle.powerloss.proofs.Computed.{proper, bytes_of, next-append, typed-append, blank-is, word-is}
use Rattle.powerloss.proofs.ShortRuns.{Outcome, outcome, after, ends, no_call, quiet-call, idle-due, idle-dues, chunk, short, first-flush, Still, call-bytes, only-bytes, only-call, upper-outcome}
use Rattle.std.specs.Prelude.{Ok, Some, Result, Option, None}
use Rattle.refusal.specs.declared.Refusal.{Refusal}
use Rattle.header.specs.declared.Bank.{Bank}
use Rattle.writer.specs.declared.Answer.{Answer}

-- a state of this update
abbrev st : Result (Option Bank) Refusal → Bool → Stage → Contents → Tables → List Source → List ℕ → Writer
st hd comparing g t b ss tail = record { stage = g; beginning = record { active = hd; comparing = comparing; now = now }; contents = t; tables = b; sources = ss; tail = tail }

abbrev tk : ℕ → ℕ → ℕ → Bool → Bool → Contents
tk n k crc different closed = record { written = n; fill = k; crc = crc; different = different; closed = closed }

abbrev tb : ℕ → ℕ → ℕ → ℕ → ℕ → Tables
tb n t i crc k = record { count = n; table = t; start = i; crc = crc; begun = k }

-- ---- the bytes of each call

key-is : key_bytes [] [] [] ≡ key
unfolding Key.key_of Key.prefix Key.joined Picks.firsts Picks.distinct
key-is = refl

dates-are : appended_bytes (source_with_dates the_source) ≡ dates
unfolding appended_bytes le32
dates-are = refl

names-are : appended_bytes (table_with_names 0) ≡ names
unfolding appended_bytes columns_of columns line
names-are = refl

-- the row with its fourth byte, no special one
abbrev values : ℕ → List ℕ
values z = 49 ∷ 48 ∷ z ∷ 51 ∷ []

abbrev row_text : ℕ → List ℕ
row_text z = 49 ∷ 48 ∷ 44 ∷ z ∷ 44 ∷ 51 ∷ 10 ∷ []

row_is : (z : ℕ) → special z ≡ false → appended_bytes (row (values z) lengths) ≡ row_text z
unfolding appended_bytes row_of cut_by field_of any_special
row_is z e = rw e (unfold special in refl)

-- ---- each call: sources, tail and CRCs are any if it doesn't look at them

abbrev Does : Upper → List ℕ → Writer → Outcome → Type 0
Does c region w o = (upper_step region w c ≡ did o.writer) × (upper_region region w c ≡ o.region) × (upper_ops region w c ≡ o.ops)

module _ (hd : Result (Option Bank) Refusal) (ok : active_ok hd ≡ true) (comparing : Bool) (region : List ℕ) (l : length region ≡ region_size) (ss : List Source) (tail : List ℕ) (a b : ℕ) where
  abbrev s1 : Writer
  s1 = st hd comparing Idle (tk 0 1 a false false) (tb 0 8 0 b 0) ss tail

  abbrev s1' : Writer
  s1' = st hd comparing Idle (tk 0 1 a false false) (tb 1 8 0 b 0) (set ss 0 (emptied the_source)) tail

  source_fits : refusal_of region s1 (source_with_dates the_source) ≡ None
  unfolding refusal_of in_range contents_ok tables_ok stage_ok is_due
  source_fits = rw (eq-eqb (length region) region_size l, ok, dates-are) refl

  source-still : Still region s1'
  unfolding in_range contents_ok tables_ok stage_ok is_due
  source-still = record { fit = record { size = l; range = rw ok refl }; closed = refl; none· = refl; idle = refl }

  source-step : lower_step region s1 (source the_source) ≡ did s1'
  unfolding lower_step source_step with_source in_range contents_ok tables_ok stage_ok is_due
  source-step = rw ok refl

  does-source : Does (source_with_dates the_source) region s1 (ends (st hd comparing Idle (tk 0 9 (crc32 a dates) false false) (tb 1 8 0 (crc32 b dates) 0) (set ss 0 (emptied the_source)) (sets tail 1 dates)) region)
  unfolding with_bytes stage_of is_due
  does-source =
      upper-outcome region s1 (source_with_dates the_source) _ source_fits
      (call-bytes region s1 (source_with_dates the_source) refl (source the_source) s1' _ _ refl source-step (unfold lower_ops in refl) source-still dates-are (omega arith, omega arith))

  abbrev s2 : Writer
  s2 = st hd comparing Idle (tk 0 9 a false false) (tb 1 8 0 b 0) ss tail

  abbrev s2' : Writer
  s2' = st hd comparing Idle (tk 0 9 a false false) (tb 1 0 9 0 1) ss tail

  table_fits : refusal_of region s2 (table_with_names 0) ≡ None
  unfolding refusal_of begun_in in_range contents_ok tables_ok stage_ok is_due
  table_fits = rw (eq-eqb (length region) region_size l, ok, names-are) refl

  table-still : Still region s2'
  unfolding in_range contents_ok tables_ok stage_ok is_due
  table-still = record { fit = record { size = l; range = rw ok refl }; closed = refl; none· = refl; idle = refl }

  table_step_lem : lower_step region s2 (table 0) ≡ did s2'
  unfolding lower_step table_step with_table begun_in in_range contents_ok tables_ok stage_ok is_due
  table_step_lem = rw ok refl

  does-table : Does (table_with_names 0) region s2 (ends (st hd comparing Idle (tk 0 46 (crc32 a names) false false) (tb 1 0 9 (crc32 0 names) 1) ss (sets tail 9 names)) region)
  unfolding with_bytes stage_of is_due
  does-table =
      upper-outcome region s2 (table_with_names 0) _ table_fits
      (call-bytes region s2 (table_with_names 0) refl (table 0) s2' _ _ refl table_step_lem (unfold lower_ops in refl) table-still names-are (omega arith, omega arith))

  abbrev s3 : Writer
  s3 = st hd comparing Idle (tk 0 46 a false false) (tb 1 0 9 b 1) ss tail

  row-still : Still region s3
  unfolding in_range contents_ok tables_ok stage_ok is_due
  row-still = record { fit = record { size = l; range = rw ok refl }; closed = refl; none· = refl; idle = refl }

  module _ (z : ℕ) (e : special z ≡ false) where
    row-bytes : row_of (passed_values (values z) lengths) ≡ row_text z
    unfolding appended_bytes
    row-bytes = row_is z e

    row_fits : refusal_of region s3 (row (values z) lengths) ≡ None
    unfolding refusal_of columns_of columns in_range contents_ok tables_ok stage_ok is_due
    row_fits = rw (eq-eqb (length region) region_size l, ok, row_is z e, row-bytes) refl

    does-row : Does (row (values z) lengths) region s3 (ends (st hd comparing Idle (tk 0 53 (crc32 a (row_text z)) false false) (tb 1 0 9 (crc32 b (row_text z)) 1) ss (sets tail 46 (row_text z))) region)
    unfolding with_bytes stage_of is_due
    does-row =
        upper-outcome region s3 (row (values z) lengths) _ row_fits
        (only-bytes region s3 (row (values z) lengths) refl _ _ refl row-still (row_is z e) (omega arith, omega arith))

  abbrev s4 : Writer
  s4 = st hd comparing Idle (tk 0 53 a false false) (tb 1 0 9 b 1) ss tail

  abbrev s5 : Writer
  s5 = st hd comparing Idle (tk 0 53 a false false) (tb 1 8 9 b 1) (set ss 0 (with_block (get_or ss 0 past_end) 0 (record { offset = 9; length = 44; crc = b }))) tail

  end_fits : refusal_of region s4 table_end ≡ None
  unfolding refusal_of appended_bytes in_range contents_ok tables_ok stage_ok is_due
  end_fits = rw (eq-eqb (length region) region_size l, ok) refl

  end_step_lem : lower_step region s4 end ≡ did s5
  unfolding lower_step end_step with_end in_range contents_ok tables_ok stage_ok is_due
  end_step_lem = rw ok refl

  does-end : Does table_end region s4 (ends s5 region)
  does-end =
      upper-outcome region s4 table_end _ end_fits
      (only-call region s4 table_end refl end s5 refl end_step_lem (unfold lower_ops in refl) (unfold appended_bytes in refl) ∙ idle-dues region s5 [] refl ∙ no_call region s5)

  -- closing: first the same in both modes
  abbrev s6 : Writer
  s6 = st hd comparing Idle (tk 0 53 a false false) (tb 1 8 9 b 1) ss tail

  abbrev s7 : Writer
  s7 = st hd comparing (Due (first_due comparing (tk 0 53 a false true))) (tk 0 53 a false true) (tb 1 8 9 b 1) ss tail

  close-fits : refusal_of region s6 closing ≡ None
  unfolding refusal_of appended_bytes in_range contents_ok tables_ok stage_ok is_due
  close-fits = rw (eq-eqb (length region) region_size l, ok) refl

  close-step : lower_step region s6 close ≡ did s7
  unfolding lower_step close_step with_closed stage_of in_range contents_ok tables_ok stage_ok is_due
  close-step = rw ok refl

  does-close : (o : Outcome) → outcome region s7 dues ≡ o → Does closing region s6 o
  does-close o f =
      upper-outcome region s6 closing _ close-fits (only-call region s6 closing refl close s7 refl close-step (unfold lower_ops in refl) (unfold appended_bytes in refl) ∙ f)

-- what is due then, writing
abbrev closing_ops : List ℕ → List Op
closing_ops tail = erase 0 ∷ erase sector_size ∷ write sector_size (padded (take 53 tail)) ∷ []

module _ (hd : Result (Option Bank) Refusal) (ok : active_ok hd ≡ true) (ss : List Source) (tail : List ℕ) (a b : ℕ) (region : List ℕ) (l : length region ≡ region_size) where
  abbrev due_erase : Writer
  due_erase = st hd false (Due (Erase 0)) (tk 0 53 a false true) (tb 1 8 9 b 1) ss tail

  erase-fit : Fit region due_erase
  unfolding in_range contents_ok tables_ok stage_ok operation_ok is_due
  erase-fit = record { size = l; range = rw ok refl }

  closing-does : outcome region due_erase dues ≡ record { writer = st hd false Idle (tk 53 0 a false true) (tb 1 8 9 b 1) ss tail; region = performed (target hd) (closing_ops tail) region; ops = closing_ops tail }
  closing-does = first-flush _ 53 a false true _ ss tail region [] erase-fit ∙ ap (after (closing_ops tail)) (no_call _ _)

-- comparing
module _ (hd : Result (Option Bank) Refusal) (ok : active_ok hd ≡ true) (ss : List Source) (tail : List ℕ) (a b : ℕ) (region : List ℕ) (l : length region ≡ region_size) where
  abbrev compared_all : Writer
  compared_all = st hd true Idle (tk 53 0 a (differs region hd (tk 0 53 a false true) tail) true) (tb 1 8 9 b 1) ss tail

  abbrev due_compare : Writer
  due_compare = st hd true (Due (Compare 0 53)) (tk 0 53 a false true) (tb 1 8 9 b 1) ss tail

  due-compare : (lower_step region due_compare due ≡ did compared_all) × (lower_ops region due_compare due ≡ [])
  unfolding lower_step lower_ops due_step due_ops operated in_range contents_ok tables_ok stage_ok operation_ok is_due
  due-compare = rw (eq-eqb (length region) region_size l, ok) (refl, refl)

  comparing-does : outcome region due_compare dues ≡ ends compared_all region
  comparing-does =
      quiet-call region due_compare due (due ∷ due ∷ []) (did compared_all) due-compare.0 due-compare.1
      ∙ idle-due region compared_all (due ∷ []) refl
      ∙ idle-due region compared_all [] refl
      ∙ no_call region compared_all

-- ---- the beginning and commit's two calls

abbrev first : Result (Option Bank) Refusal → Bool → Writer
first hd comparing = st hd comparing Idle (tk 0 0 0 false false) (tb 0 8 0 0 0) (fill no_source max_sources) (fill 0 tail_size)

abbrev tail1 : List ℕ
tail1 = sets (fill 0 tail_size) 0 key

abbrev crc1 : ℕ
crc1 = crc32 0 key

abbrev begun1 : Result (Option Bank) Refusal → Bool → Writer
begun1 hd comparing = st hd comparing Idle (tk 0 1 crc1 false false) (tb 0 8 0 crc1 0) (fill no_source max_sources) tail1

module _ (hd : Result (Option Bank) Refusal) (ok : active_ok hd ≡ true) (comparing : Bool) (region : List ℕ) (l : length region ≡ region_size) (e : loaded region ≡ hd) where
  begin-fits : begin_refusal region [] [] [] ≡ None
  unfolding begin_refusal Key.fit Key.every
  begin-fits = rw (eq-eqb (length region) region_size l) refl

  begin-still : Still region (first hd comparing)
  unfolding in_range contents_ok tables_ok stage_ok is_due
  begin-still = record { fit = record { size = l; range = rw ok refl }; closed = refl; none· = refl; idle = refl }

  begin-run : outcome region (first hd comparing) (appends key) ≡ ends (begun1 hd comparing) region
  unfolding with_bytes stage_of is_due
  begin-run = short region (first hd comparing) 0 [] begin-still.fit refl refl (omega arith) (omega arith)

  begin-does : (begin_step region comparing now [] [] [] ≡ did (begun1 hd comparing)) × (begin_region region comparing now [] [] [] ≡ region) × (begin_ops region comparing now [] [] [] ≡ [])
  unfolding begin_step begin_region begin_ops begin_run started
  begin-does = (
    (λ i. began_with (begin-fits i) (ran_writer region (started (e i) comparing now) (run_if (begin-fits i) (appends (key-is i)))) comparing now) ∙ ap (λ (o : Outcome). did o.writer) begin-run,
    (λ i. ran_region region (started (e i) comparing now) (run_if (begin-fits i) (appends (key-is i)))) ∙ ap (λ (o : Outcome). o.region) begin-run,
    (λ i. ran_ops region (started (e i) comparing now) (run_if (begin-fits i) (appends (key-is i)))) ∙ ap (λ (o : Outcome). o.ops) begin-run,
  )

-- a beginning with an identity: 256 bytes are written, 48 are left in the tail
abbrev key_first : List ℕ
key_first = 44 ∷ 1 ∷ fill 65 253

abbrev key_rest : List ℕ
key_rest = fill 65 46 ++ (0 ∷ [])

key-parts : key_bytes identity [] [] ≡ 255 ∷ (key_first ++ (65 ∷ key_rest))
unfolding Key.key_of Key.prefix Key.joined Picks.firsts Picks.distinct fill
key-parts = refl

abbrev key_ops : List Op
key_ops = erase 0 ∷ erase sector_size ∷ key_write ∷ []

-- the tail is the key's first 256 bytes
tail-full : padded (take 256 (sets (fill 0 tail_size) 0 (255 ∷ key_first))) ≡ 255 ∷ key_first
unfolding padded fill
tail-full = refl

module _ (hd : Result (Option Bank) Refusal) (ok : active_ok hd ≡ true) (region : List ℕ) (l : length region ≡ region_size) (e : loaded region ≡ hd) where
  abbrev full_in : Stage → Writer
  full_in g = st hd false g (tk 0 256 (crc32 0 (255 ∷ key_first)) false false) (tb 0 8 0 (crc32 0 (255 ∷ key_first)) 0) (fill no_source max_sources) (sets (fill 0 tail_size) 0 (255 ∷ key_first))

  full_is : with_bytes (first hd false) (255 ∷ key_first) ≡ full_in (Due (Erase 0))
  unfolding with_bytes stage_of first_due is_due fill
  full_is = refl

  full-fit : Fit region (full_in (Due (Erase 0)))
  unfolding in_range contents_ok tables_ok stage_ok operation_ok is_due
  full-fit = record { size = l; range = rw ok refl }

  abbrev full_after : Writer
  full_after = st hd false Idle (tk 256 0 (crc32 0 (255 ∷ key_first)) false false) (tb 0 8 0 (crc32 0 (255 ∷ key_first)) 0) (fill no_source max_sources) (sets (fill 0 tail_size) 0 (255 ∷ key_first))

  after-range : in_range full_after ≡ true
  unfolding in_range contents_ok tables_ok stage_ok is_due
  after-range = rw ok refl

  after_none : is_due full_after.contents ≡ false
  unfolding is_due
  after_none = refl

  abbrev full_ops : List Op
  full_ops = erase 0 ∷ erase sector_size ∷ write sector_size (padded (take 256 (sets (fill 0 tail_size) 0 (255 ∷ key_first)))) ∷ []

  key-run : (outcome region (first hd false) (appends (255 ∷ (key_first ++ (65 ∷ key_rest))))).ops ≡ key_ops
  key-run =
      let n = length-fill {A = ℕ} 65 253 in
      let m = length-append {A = ℕ} (fill 65 46) (0 ∷ []) in
      let k = length-fill {A = ℕ} 65 46 in
      let region' = performed (target hd) full_ops region in
      let f : Fit region' full_after = record { size = length-performed (target hd) full_ops region (target_fits hd) l; range = after-range } in
      ap (λ (o : Outcome). o.ops)
      (chunk region (65 ∷ key_rest) key_first 255 (first hd false) (begin-still hd ok false region l e).fit refl (begin-still hd ok false region l e).none· (omega arith) (omega arith)
      ∙ ap (λ (w : Writer). outcome region w (dues ++ appends (65 ∷ key_rest))) full_is
      ∙ first-flush _ 256 _ false false _ _ _ region (appends (65 ∷ key_rest)) full-fit
      ∙ ap (after full_ops) (short region' full_after 65 key_rest f refl after_none (omega arith) (omega arith)))
      ∙ (λ i. erase 0 ∷ erase sector_size ∷ write sector_size (tail-full i) ∷ [])

  key_fits : begin_refusal region identity [] [] ≡ None
  unfolding begin_refusal Key.fit Key.every
  key_fits = rw (eq-eqb (length region) region_size l, length-fill {A = ℕ} 65 300) refl

  key-does : begin_ops region false now identity [] [] ≡ key_ops
  unfolding begin_ops begin_run started
  key-does = (λ i. ran_ops region (started (e i) false now) (run_if (key_fits i) (appends (key-parts i)))) ∙ key-run

-- the sources at the table's end: the record with its block, b the CRC of its Routes
abbrev sources1 : List Source
sources1 = set (fill no_source max_sources) 0 (emptied the_source)

abbrev sources2 : ℕ → List Source
sources2 b = set sources1 0 (with_block (get_or sources1 0 past_end) 0 (record { offset = 9; length = 44; crc = b }))

abbrev committing : Result (Option Bank) Refusal → List ℕ → ℕ → ℕ → Stage → Writer
committing hd tail a b g = st hd false g (tk 53 0 a false true) (tb 1 8 9 b 1) (sources2 b) tail

abbrev header_op : Result (Option Bank) Refusal → List ℕ → ℕ → ℕ → ℤ → Op
header_op hd tail a b stamp = write 0 (header_bytes (bank_for (committing hd tail a b Idle) (Some stamp)) (records_for (committing hd tail a b Idle)) blank_word)

module _ (hd : Result (Option Bank) Refusal) (tail : List ℕ) (a b : ℕ) (stamp : ℤ) (g : le_z (pos 0) (checked_time (Some stamp) now) ≡ true) where
  -- refusal 13 isn't met
  fit : is_fit (bank_for (committing hd tail a b Idle) (Some stamp)) (records_for (committing hd tail a b Idle)) ≡ true
  unfolding is_fit judge span_ok source_ok each bank_for fill no_source valid_date is_date month_days leap
  fit = rw g refl

  module _ (ok : active_ok hd ≡ true) (region : List ℕ) (l : length region ≡ region_size) where
    does-commit : (lower_step region (committing hd tail a b Idle) (commit (Some stamp) true) ≡ did (committing hd tail a b HeaderWritten))
        × (lower_ops region (committing hd tail a b Idle) (commit (Some stamp) true) ≡ header_op hd tail a b stamp ∷ [])
    unfolding lower_step lower_ops commit_step commit_ops in_range contents_ok tables_ok stage_ok is_due
    does-commit = rw (eq-eqb (length region) region_size l, ok, fit) (refl, refl)

    does-word : (lower_step region (committing hd tail a b HeaderWritten) word ≡ did (committing hd tail a b Committed))
        × (lower_ops region (committing hd tail a b HeaderWritten) word ≡ write commit_offset commit_bytes ∷ [])
    unfolding lower_step lower_ops word_step word_ops in_range contents_ok tables_ok stage_ok is_due
    does-word = rw (eq-eqb (length region) region_size l, ok) (refl, refl)

-- ---- the list of calls, with the operations since the beginning

abbrev progress : Run → List Op → List Event → Run × List Op
progress r ops es = (next_all r es, ops_after r ops es)

abbrev upd : Result (Option Bank) Refusal → List ℕ → List Note → ℤ → Update
upd hd xs ns checked = record { number = target hd; generation = next_generation hd; now = now; data· = xs; notes = ns; checked = checked }

abbrev run_at : Result (Option Bank) Refusal → List Source → Image → List ℕ → Writer → Update → Run
run_at hd rs im region w u = mk region (Some w) hd rs (Some u) im

module _ (hd : Result (Option Bank) Refusal) (rs : List Source) (im : Image) (region : List ℕ) (g : Stage) (comparing : Bool) (t : Contents) (b : Tables) (ss : List Source) (tail : List ℕ) (u : Update) (ops : List Op) (es : List Event) where
  abbrev here : Writer
  here = st hd comparing g t b ss tail

  called : (c : Upper) (o : Outcome) (v : Update) → Does c region here o → upper_after c (Ok Done) u ≡ v
      → progress (run_at hd rs im region here u) ops (upper c ∷ es) ≡ progress (run_at hd rs im o.region o.writer v) (ops ++ o.ops) es
  unfolding next_all ops_after next since on_upper after_upper
  called c o v d e = rw (d.0, d.1, d.2, e)

  -- commit's first call
  headed : (stamp : ℤ) (w : Writer) (o : List Op) → (lower_step region here (commit (Some stamp) true) ≡ did w) × (lower_ops region here (commit (Some stamp) true) ≡ o)
      → progress (run_at hd rs im region here u) ops (call (commit (Some stamp) true) ∷ es) ≡ progress (run_at hd rs im (performed (target hd) o region) w (checks (checked_time (Some stamp) u.now) u)) (ops ++ o) es
  unfolding next_all ops_after next since on_call after_lower committed image_after update_after
  headed stamp w o d = rw (d.0, d.1)

no-event : (r : Run) → next_all r [] ≡ r
unfolding next_all
no-event r = refl

-- what each call appends and notes
after-upper : (c : Upper) (u : Update) (xs : List ℕ) → appended_bytes c ≡ xs → upper_after c (Ok Done) u ≡ with_appended xs (upper_noted c u)
unfolding upper_after
after-upper c u xs e = ap (λ (x : List ℕ). with_appended x (upper_noted c u)) e

abbrev notes1 : List Note
notes1 = source_note the_source ∷ []

abbrev notes2 : List Note
notes2 = source_note the_source ∷ table_note 0 9 ∷ []

abbrev notes : List Note
notes = source_note the_source ∷ table_note 0 9 ∷ end_note 53 ∷ []

abbrev crc2 : ℕ
crc2 = crc32 crc1 dates

abbrev crc3 : ℕ
crc3 = crc32 crc2 names

abbrev crc_all : ℕ → ℕ
crc_all z = crc32 crc3 (row_text z)

abbrev crc_names : ℕ
crc_names = crc32 0 names

abbrev crc_routes : ℕ → ℕ
crc_routes z = crc32 crc_names (row_text z)

abbrev tail2 : List ℕ
tail2 = sets tail1 1 dates

abbrev tail3 : List ℕ
tail3 = sets tail2 9 names

abbrev tail_all : ℕ → List ℕ
tail_all z = sets tail3 46 (row_text z)

abbrev data_with : ℕ → List ℕ
data_with z = key ++ (dates ++ (names ++ row_text z))

abbrev at_end : Result (Option Bank) Refusal → Bool → ℕ → Writer
at_end hd comparing z = st hd comparing Idle (tk 0 53 (crc_all z) false false) (tb 1 8 9 (crc_routes z) 1) (sources2 (crc_routes z)) (tail_all z)

-- from a run whose history holds what load gives
module _ (hd : Result (Option Bank) Refusal) (ok : active_ok hd ≡ true) (r : Run) (e : loaded r.region ≡ hd) (f : r.history.held ≡ hd) (l : length r.region ≡ region_size) where
  abbrev from : List ℕ → Writer → Update → Run
  from region w u = run_at hd r.history.records r.image region w u

  begins : (comparing : Bool) (ops : List Op) (es : List Event) → progress r ops (begin_key comparing now [] [] [] ∷ es) ≡ progress (from r.region (begun1 hd comparing) (upd hd key [] now)) [] es
  unfolding next_all ops_after next since after_begin opened
  begins comparing ops es = let d = begin-does hd ok comparing r.region l e in rw (d.0, d.1, d.2, key-is, f) refl

  -- after the table's end
  to_end : (comparing : Bool) (z : ℕ) → special z ≡ false → (ops : List Op) (es : List Event)
      → progress r ops (to_table_end comparing (values z) ++ es) ≡ progress (from r.region (at_end hd comparing z) (upd hd (data_with z) notes now)) [] es
  unfolding to_table_end
  to_end comparing z q ops es =
      let g = r.region in
      let rs = r.history.records in
      let im = r.image in
      let ss = fill no_source max_sources in
      begins comparing ops _
      ∙ called hd rs im g Idle comparing _ _ _ _ (upd hd key [] now) [] _ (source_with_dates the_source) _ (upd hd (key ++ dates) notes1 now) (does-source hd ok comparing g l ss tail1 crc1 crc1) (after-upper _ _ _ dates-are)
      ∙ called hd rs im g Idle comparing _ _ _ _ (upd hd (key ++ dates) notes1 now) [] _ (table_with_names 0) _ (upd hd (key ++ (dates ++ names)) notes2 now) (does-table hd ok comparing g l sources1 tail2 crc2 crc2) (after-upper _ _ _ names-are)
      ∙ called hd rs im g Idle comparing _ _ _ _ (upd hd (key ++ (dates ++ names)) notes2 now) [] _ (row (values z) lengths) _ (upd hd (data_with z) notes2 now) (does-row hd ok comparing g l sources1 tail3 crc3 crc_names z q) (after-upper _ _ _ (row_is z q))
      ∙ called hd rs im g Idle comparing _ _ _ _ (upd hd (data_with z) notes2 now) [] _ table_end _ (upd hd (data_with z) notes now) (does-end hd ok comparing g l sources1 (tail_all z) (crc_all z) (crc_routes z)) (after-upper _ _ [] (unfold appended_bytes in refl))

  -- after closing, writing
  abbrev region3 : ℕ → List ℕ
  region3 z = performed (target hd) (closing_ops (tail_all z)) r.region

  l3 : (z : ℕ) → length (region3 z) ≡ region_size
  l3 z = length-performed (target hd) (closing_ops (tail_all z)) r.region (target_fits hd) l

  does-closing : (z : ℕ) → Does closing r.region (at_end hd false z) (record { writer = committing hd (tail_all z) (crc_all z) (crc_routes z) Idle; region = region3 z; ops = closing_ops (tail_all z) })
  unfolding first_due
  does-closing z =
      does-close hd ok false r.region l (sources2 (crc_routes z)) (tail_all z) (crc_all z) (crc_routes z) _ (closing-does hd ok (sources2 (crc_routes z)) (tail_all z) (crc_all z) (crc_routes z) r.region l)

  -- after closing, comparing
  abbrev compared_to : ℕ → Writer
  compared_to z = st hd true Idle (tk 53 0 (crc_all z) (differs r.region hd (tk 0 53 (crc_all z) false true) (tail_all z)) true) (tb 1 8 9 (crc_routes z) 1) (sources2 (crc_routes z)) (tail_all z)

  does-comparing : (z : ℕ) → Does closing r.region (at_end hd true z) (ends (compared_to z) r.region)
  unfolding first_due
  does-comparing z =
      does-close hd ok true r.region l (sources2 (crc_routes z)) (tail_all z) (crc_all z) (crc_routes z) _ (comparing-does hd ok (sources2 (crc_routes z)) (tail_all z) (crc_all z) (crc_routes z) r.region l)

  compared-by : (z : ℕ) → special z ≡ false → next_all r (to_table_end true (values z) ++ (upper closing ∷ [])) ≡ from r.region (compared_to z) (upd hd (data_with z) notes now)
  compared-by z q =
      ap (λ (x : Run × List Op). x.0)
      (to_end true z q [] (upper closing ∷ [])
      ∙ called hd r.history.records r.image r.region Idle true _ _ _ _ (upd hd (data_with z) notes now) [] [] closing _ (upd hd (data_with z) notes now) (does-comparing z) (after-upper _ _ [] (unfold appended_bytes in refl)))
      ∙ no-event _

  -- the whole update
  module _ (stamp : ℤ) (g : le_z (pos 0) (checked_time (Some stamp) now) ≡ true) where
    abbrev z7 : ℕ
    z7 = 55

    abbrev header_written : Op
    header_written = header_op hd (tail_all z7) (crc_all z7) (crc_routes z7) stamp

    abbrev region4 : List ℕ
    region4 = performed (target hd) (header_written ∷ []) (region3 z7)

    l4 : length region4 ≡ region_size
    l4 = length-performed (target hd) (header_written ∷ []) (region3 z7) (target_fits hd) (l3 z7)

    abbrev checked_update : Update
    checked_update = upd hd (data_with z7) notes (checked_time (Some stamp) now)

    abbrev ops4 : List Op
    ops4 = closing_ops (tail_all z7) ++ (header_written ∷ [])

    to_word : (ops : List Op) → progress r ops (update_at stamp) ≡ progress (from region4 (committing hd (tail_all z7) (crc_all z7) (crc_routes z7) HeaderWritten) checked_update) ops4 (call word ∷ [])
    unfolding update_at
    to_word ops =
        let rs = r.history.records in
        let im = r.image in
        to_end false z7 (unfold special in refl) ops (upper closing ∷ call (commit (Some stamp) true) ∷ call word ∷ [])
        ∙ called hd rs im r.region Idle false _ _ _ _ (upd hd (data_with z7) notes now) [] _ closing _ (upd hd (data_with z7) notes now) (does-closing z7) (after-upper _ _ [] (unfold appended_bytes in refl))
        ∙ headed hd rs im (region3 z7) Idle false _ _ _ _ (upd hd (data_with z7) notes now) (closing_ops (tail_all z7)) _ stamp _ _ (does-commit hd (tail_all z7) (crc_all z7) (crc_routes z7) stamp g ok (region3 z7) (l3 z7))

    -- the commit word's call
    abbrev word_op : Op
    word_op = write commit_offset commit_bytes

    abbrev region5 : List ℕ
    region5 = performed (target hd) (word_op ∷ []) region4

    abbrev done : Run
    done =
        mk region5 (Some (committing hd (tail_all z7) (crc_all z7) (crc_routes z7) Committed)) (Ok (Some (bank_of checked_update))) (records_of checked_update) (Some checked_update)
        (record { bank = Region.bank_of region5 (target hd); given = Some (data_with z7) })

    by_word : progress (from region4 (committing hd (tail_all z7) (crc_all z7) (crc_routes z7) HeaderWritten) checked_update) ops4 (call word ∷ []) ≡ (done, ops4 ++ (word_op ∷ []))
    unfolding next_all ops_after next since on_call after_lower committed image_after update_after
    by_word = let d = does-word hd (tail_all z7) (crc_all z7) (crc_routes z7) stamp g ok region4 l4 in rw (d.0, d.1) refl

    whole : (ops : List Op) → progress r ops (update_at stamp) ≡ (done, ops4 ++ (word_op ∷ []))
    whole ops = to_word ops ∙ by_word

    noted-bank : bank_of checked_update ≡ updated (checked_time (Some stamp) now) hd
    unfolding bank_of records_after block_between fill
    noted-bank = refl

    noted-records : records_of checked_update ≡ written ∷ []
    unfolding records_after block_between fill
    noted-records = refl

    after-held : (next_all r (update_at stamp)).history.held ≡ Ok (Some (updated (checked_time (Some stamp) now) hd))
    after-held = ap (λ (x : Run × List Op). x.0.history.held) (whole []) ∙ ap (λ (b : Bank). Ok (Some b)) noted-bank

    after-records : (next_all r (update_at stamp)).history.records ≡ written ∷ []
    after-records = ap (λ (x : Run × List Op). x.0.history.records) (whole []) ∙ noted-records

    after-given : (next_all r (update_at stamp)).image.given ≡ Some data·
    after-given = ap (λ (x : Run × List Op). x.0.image.given) (whole [])

    after-ops : ops_after r [] (update_at stamp) ≡ ops4 ++ (word_op ∷ [])
    after-ops = ap (λ (x : Run × List Op). x.1) (whole [])

  -- closing, cut
  to-cut : next_all r closing_cut ≡ next (from r.region (at_end hd false 55) (upd hd (data_with 55) notes now)) (upper_cut closing 1 100)
  unfolding closing_cut next_all
  to-cut = ap (λ (x : Run × List Op). x.0) (to_end false 55 (unfold special in refl) [] (upper_cut closing 1 100 ∷ []))

  closing-held : (next_all r closing_cut).history.held ≡ hd
  closing-held = ap (λ (x : Run). x.history.held) to-cut ∙ unfold next in (unfold on_upper_cut in refl)

  cut-ops : (next (from r.region (at_end hd false 55) (upd hd (data_with 55) notes now)) (upper_cut closing 1 100)).region ≡ cut_at (target hd) 1 100 (closing_ops (tail_all 55)) r.region
  unfolding next on_upper_cut
  cut-ops = ap (λ (ops : List Op). cut_at (target hd) 1 100 ops r.region) (does-closing 55).2

  closing-region : (next_all r closing_cut).region ≡ torn (target hd) 100 (erase sector_size) (applied (target hd) (erase 0) r.region)
  closing-region = ap (λ (x : Run). x.region) to-cut ∙ cut-ops ∙ cut-after (target hd) (erase 0) _ r.region 0 100 ∙ cut_inside (target hd) (erase sector_size) _ (applied (target hd) (erase 0) r.region) 100

  -- the beginnings, cut
  beginning-held : (k j : ℕ) → (next_all r (beginning_cut k j)).history.held ≡ hd
  unfolding next_all next
  beginning-held k j = f

  beginning-region : (k j : ℕ) → (next_all r (beginning_cut k j)).region ≡ r.region
  unfolding next_all next
  beginning-region k j = rw (begin-does hd ok false r.region l e).2 (cut-none _ k j r.region)

  key-held : (next_all r key_cut).history.held ≡ hd
  unfolding key_cut next_all next
  key-held = f

  cut-key : (next_all r key_cut).region ≡ cut_at (target hd) 2 100 key_ops r.region
  unfolding key_cut next_all next started
  cut-key = λ i. cut_at (target (e i)) 2 100 (key-does hd ok r.region l e i) r.region

  key-region : (next_all r key_cut).region ≡ torn (target hd) 100 key_write (applied (target hd) (erase sector_size) (applied (target hd) (erase 0) r.region))
  key-region =
      cut-key
      ∙ cut-after (target hd) (erase 0) (erase sector_size ∷ key_write ∷ []) r.region 1 100
      ∙ cut-after (target hd) (erase sector_size) (key_write ∷ []) (applied (target hd) (erase 0) r.region) 0 100
      ∙ cut_inside (target hd) key_write [] (applied (target hd) (erase sector_size) (applied (target hd) (erase 0) r.region)) 100

-- ---- what the arguments' types say

bytes-values : (z : ℕ) → z < 256 → Bytes (values z)
unfolding All
bytes-values z h = bytes_of (values z) (omega arith, (omega arith, (h, (omega arith, tt))))

now-fits : SFits w64 now
now-fits = record { sfits = omega arith }

typed-to-end : (comparing : Bool) (z : ℕ) → z < 256 → AllTyped (to_table_end comparing (values z))
unfolding to_table_end
typed-to-end comparing z h = ((now-fits, bytes-nil, bytes-nil), (proper, (tt, (bytes-values z h, (tt, tt)))))

typed : (stamp : ℤ) → SFits w64 stamp → AllTyped (update_at stamp)
unfolding update_at
typed stamp s = typed-append (to_table_end false texts) _ (typed-to-end false 55 (omega arith)) (tt, (s, (tt, tt)))

typed-cut : AllTyped closing_cut
unfolding closing_cut
typed-cut = typed-append (to_table_end false texts) _ (typed-to-end false 55 (omega arith)) (tt, tt)

bytes-identity : Bytes identity
bytes-identity = bytes-fill 65 300 (omega arith)

typed-key : AllTyped key_cut
unfolding key_cut
typed-key = ((now-fits, bytes-identity, bytes-nil), tt)

typed-beginning : (k j : ℕ) → AllTyped (beginning_cut k j)
typed-beginning k j = ((now-fits, bytes-nil, bytes-nil), tt)

later-fits : SFits w64 later
later-fits = record { sfits = omega arith }

earlier-fits : SFits w64 earlier
earlier-fits = record { sfits = omega arith }

-- ---- the whole update

module _ (region : List ℕ) (l : length region ≡ region_size) where
  hd-ok : active_ok (loaded region) ≡ true
  hd-ok = active-ok region (loaded region) l refl

module _ (stamp checked : ℤ) (g : le_z (pos 0) (checked_time (Some stamp) now) ≡ true) (c : checked_time (Some stamp) now ≡ checked) (s : SFits w64 stamp) where
  gives-held : (region : List ℕ) → length region ≡ region_size → (next_all (found region) (update_at stamp)).history.held ≡ Ok (Some (updated checked (loaded region)))
  unfolding found
  gives-held region l = after-held (loaded region) (hd-ok region l) (found region) refl refl l stamp g ∙ ap (λ (x : ℤ). Ok (Some (updated x (loaded region)))) c

  gives : Gives stamp checked
  unfolding found
  gives =
      record {
        held = gives-held;
        loads = λ region l y. (demand3 region (update_at stamp) l y (typed stamp s)).loads ∙ gives-held region l;
        records = λ region l y.
            ap (records_in (next_all (found region) (update_at stamp)).region) (sym (gives-held region l))
            ∙ (demand3 region (update_at stamp) l y (typed stamp s)).records
            ∙ after-records (loaded region) (hd-ok region l) (found region) refl refl l stamp g;
        bytes· = λ region l y.
            let r = next_all (found region) (update_at stamp) in
            let d = demand3 region (update_at stamp) l y (typed stamp s) in
            let b : Region.bank_of r.region (target (loaded region)) ≡ r.image.bank = ap (bank_in r.region) (sym (gives-held region l)) ∙ d.image in
            ap (λ (x : List ℕ). Region.data_of x 53) b ∙ subst (Holds r.image.bank) (after-given (loaded region) (hd-ok region l) (found region) refl refl l stamp g) d.given;
      }

pub stamp_after_now : StampAfterNow
stamp_after_now = gives later later refl refl later-fits

pub stamp_before_now : StampBeforeNow
stamp_before_now = gives earlier now refl refl earlier-fits

-- ---- its operations

crc-data : crc_all 55 ≡ crc32 0 data·
crc-data =
    ap (λ (x : ℕ). crc32 (crc32 x names) (row_text 55)) (crc32-append 0 key dates)
    ∙ ap (λ (x : ℕ). crc32 x (row_text 55)) (crc32-append 0 (key ++ dates) names)
    ∙ crc32-append 0 (key ++ (dates ++ names)) (row_text 55)

crc-routes : crc_routes 55 ≡ crc32 0 (names ++ row_bytes)
crc-routes = crc32-append 0 names (row_text 55)

-- the bytes that the tail holds, and three of 255
data-op : padded (take 53 (tail_all 55)) ≡ data· ++ (255 ∷ 255 ∷ 255 ∷ [])
unfolding padded fill
data-op = refl

header-op : (hd : Result (Option Bank) Refusal) → header_op hd (tail_all 55) (crc_all 55) (crc_routes 55) later ≡ write 0 (header_bytes (updated later hd) (written ∷ []) (255 ∷ 255 ∷ 255 ∷ 255 ∷ []))
unfolding bank_for fill
header-op hd = rw (crc-data, crc-routes, blank-is) refl

pub five_operations : FiveOperations
five_operations region l =
    unfold found in (after-ops (loaded region) (hd-ok region l) (found region) refl refl l later refl)
    ∙ (λ i. erase 0 ∷ erase sector_size ∷ write sector_size (data-op i) ∷ header-op (loaded region) i ∷ write commit_offset (word-is i) ∷ [])

-- ---- after the whole update

module _ (region : List ℕ) (l : length region ≡ region_size) (y : Bytes region) where
  abbrev one : Run
  one = next_all (found region) (update_at later)

  abbrev new_held : Result (Option Bank) Refusal
  new_held = Ok (Some (updated later (loaded region)))

  one_size : length one.region ≡ region_size
  one_size = (inv-all (update_at later) (found region) (typed later later-fits) (inv-found region l y)).kept.size

  one-loads : loaded one.region ≡ new_held
  one-loads = stamp_after_now.loads region l y

  one-held : one.history.held ≡ new_held
  one-held = stamp_after_now.held region l

  one_ok : active_ok new_held ≡ true
  one_ok = active-ok one.region new_held one_size one-loads

-- ---- cuts

-- on any run whose history holds what load gives, so on the region found and after the whole update
abbrev Held : List Event → Type 0
Held es = (hd : Result (Option Bank) Refusal) → active_ok hd ≡ true → (r : Run) → loaded r.region ≡ hd → r.history.held ≡ hd → length r.region ≡ region_size → (next_all r es).history.held ≡ hd

held_first : (es : List Event) → Held es → (region : List ℕ) → length region ≡ region_size → (next_all (found region) es).history.held ≡ loaded region
unfolding found
held_first es g region l = g (loaded region) (hd-ok region l) (found region) refl refl l

keeps : (es : List Event) → AllTyped es → Held es → After es the_old
keeps es p g =
    record {
      held· = held_first es g;
      loads = λ region l y. (demand3 region es l y p).loads ∙ held_first es g region l;
      after_one = λ region l y.
          (demand3 region (update_at later ++ es) l y (typed-append (update_at later) es (typed later later-fits) p)).loads
          ∙ ap (λ (x : Run). x.history.held) (next-append (update_at later) es (found region))
          ∙ g (new_held region l y) (one_ok region l y) (one region l y) (one-loads region l y) (one-held region l y) (one_size region l y);
    }

pub cut_beginning : CutBeginning
unfolding found
cut_beginning k j = (
  keeps (beginning_cut k j) (typed-beginning k j) (λ hd ok r e f l. beginning-held hd ok r e f l k j),
  λ region l. beginning-region (loaded region) (hd-ok region l) (found region) refl refl l k j,
)

pub cut_in_the_key : CutInTheKey
unfolding found
cut_in_the_key = (keeps key_cut typed-key key-held, λ region l. key-region (loaded region) (hd-ok region l) (found region) refl refl l)

pub cut_closing : CutClosing
unfolding found
cut_closing = (keeps closing_cut typed-cut closing-held, λ region l. closing-region (loaded region) (hd-ok region l) (found region) refl refl l)

-- ---- comparing mode

module _ (region : List ℕ) (l : length region ≡ region_size) (y : Bytes region) (z : ℕ) (q : special z ≡ false) (h : z < 256) where
  abbrev r1 : Run
  r1 = one region l y

  abbrev hd1 : Result (Option Bank) Refusal
  hd1 = new_held region l y

  abbrev asking : Writer
  asking = compared_to hd1 (one_ok region l y) r1 (one-loads region l y) (one-held region l y) (one_size region l y) z

  abbrev u2 : Update
  u2 = upd hd1 (data_with z) notes now

  abbrev comparing : List Event
  comparing = to_table_end true (values z) ++ (upper closing ∷ [])

  abbrev reached : Run
  reached = run_at hd1 r1.history.records r1.image r1.region asking u2

  reached-is : compared region (values z) ≡ reached
  reached-is = next-append (update_at later) comparing (found region) ∙ compared-by hd1 (one_ok region l y) r1 (one-loads region l y) (one-held region l y) (one_size region l y) z q

  typed-comparing : AllTyped (update_at later ++ comparing)
  typed-comparing = typed-append (update_at later) comparing (typed later later-fits) (typed-append (to_table_end true (values z)) (upper closing ∷ []) (typed-to-end true z h) (tt, tt))

  theorem : UnchangedAt reached asking
  theorem = subst (λ (x : Run). UnchangedAt x asking) reached-is (exactly region (update_at later ++ comparing) l y typed-comparing asking (ap (λ (x : Run). x.state) reached-is))

  none-due : is_due asking.contents ≡ false
  unfolding is_due
  none-due = refl

  answer-is : (x : Result Answer Refusal) → (unchanged_step r1.region asking).answer ≡ x → answer_on (compared region (values z)).region (compared region (values z)).state unchanged ≡ Some x
  unfolding lower_step
  answer-is x e = ap (λ (r : Run). answer_on r.region r.state unchanged) reached-is ∙ ap Some e

  -- the first update's data are in the bank
  given_is : Region.data_of r1.image.bank 53 ≡ data·
  unfolding found
  given_is = subst (Holds r1.image.bank) (after-given (loaded region) (hd-ok region l) (found region) refl refl l later refl) (demand3 region (update_at later) l y (typed later later-fits)).given

  records-are : r1.history.records ≡ written ∷ []
  unfolding found
  records-are = after-records (loaded region) (hd-ok region l) (found region) refl refl l later refl

  equal_if : z ≡ 55 → IsEqual reached
  unfolding records_after block_between fill
  equal_if e =
      record {
        data· = ap data_with e ∙ sym given_is;
        count = refl;
        key = refl;
        records· = (λ i. map dates_and_blocks (records_of (upd hd1 (data_with (e i)) notes now))) ∙ ap (map dates_and_blocks) (sym records-are);
      }

  -- the row's fourth byte is byte 49 of the data
  equal-only : IsEqual reached → z ≡ 55
  equal-only h = ap (λ (d : List ℕ). get_or d 49 0) (h.data· ∙ given_is)

  abbrev Asked : Result Answer Refusal → Type 0
  Asked x = (unchanged_step r1.region asking).answer ≡ x

  same_if : z ≡ 55 → Asked (Ok Same) ⊎ Asked (Ok Different) → Asked (Ok Same)
  same_if e (inl x) = x
  same_if e (inr x) = absurd (theorem.no x (equal_if e))

  different-if : (z ≡ 55 → ⊥) → Asked (Ok Same) ⊎ Asked (Ok Different) → Asked (Ok Different)
  different-if n (inl x) = absurd (n (equal-only (theorem.yes x)))
  different-if n (inr x) = x

plain55 : special 55 ≡ false
unfolding special
plain55 = refl

plain56 : special 56 ≡ false
unfolding special
plain56 = refl

pub same_row : SameRow
same_row region l y =
    let h : 55 < 256 = omega arith in
    answer-is region l y 55 plain55 h (Ok Same) (same_if region l y 55 plain55 h refl ((theorem region l y 55 plain55 h).asked refl refl (none-due region l y 55 plain55 h)))

pub other_row : OtherRow
other_row region l y =
    let h : 56 < 256 = omega arith in
    answer-is region l y 56 plain56 h (Ok Different) (different-if region l y 56 plain56 h (λ e. omega arith) ((theorem region l y 56 plain56 h).asked refl refl (none-due region l y 56 plain56 h)))
