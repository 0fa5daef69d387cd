-- The instances, computed call by call. The region is any, so only its length is known, and what load found there is a variable, hd. An
-- update is computed from any run whose history holds what load gives, so that one can follow another.
use mathlib.Core.Path.{◌≡◌, refl, sym, ap, ◌∙◌, subst}
use mathlib.Core.Bool.{Bool, true, false, false≢true}
use mathlib.Core.List.{List, [], ◌∷◌, ◌++◌, map}
use Prim.Native.Nat.{ℕ, zero, suc, ◌<◌}
use native.Mathlib.Omega.{arith}
use borrow.Author.Tests.{eq-eqb}
use lib.IntN.{pos}
use lib.ListN.{length, take, drop, set, get_or}
use lib.Seq.{sets}
use mir.Syntax.{w64}
use mir.Val.{SFits}
use Rattle.leaf.specs.Bytes.{word as word32, le32}
use Rattle.leaf.specs.Crc.{crc32}
use Rattle.leaf.specs.Date.{leap, month_days, is_date, valid_date}
use Rattle.leaf.proofs.Checksum.{crc32-append}
use Rattle.refusal.specs.declared.Refusal.TheVariants.{Mark}
use Rattle.record.specs.declared.Source.{Source}
use Rattle.record.specs.Record.{no_block, no_source}
use Rattle.base.specs.Lists.{fill, each}
use Rattle.record.specs.Types.{All, U32, Block32}
use Rattle.base.proofs.Lists.{drop-fill, length-fill}
use Rattle.header.specs.Header.{marked, span_ok, source_ok, judge, max_sources, commit_offset}
use Rattle.region.specs.Region.{region_size, bank_size, sector_size}
use Rattle.region.specs.Region as Region
use Rattle.header.specs.WriteHeader.{is_fit, header_bytes, blank_word, commit_bytes}
use Rattle.header.specs.Types.{Bytes, Proper}
use Rattle.bank.specs.Bank.{loaded, or_else}
use Rattle.flash.specs.Flash.{Op, erase, write, with_bank, torn, performed}
use Rattle.flash.proofs.Laws.{length-performed, torn-first}
use Rattle.writer.specs.declared.Operation.TheVariants.{Erase, Write}
use Rattle.writer.specs.declared.Stage.{Stage}
use Rattle.writer.specs.declared.Stage.TheVariants.{Idle, Due, HeaderWritten, Committed}
use Rattle.writer.specs.declared.Contents.{Contents}
use Rattle.writer.specs.declared.Tables.{Tables}
use Rattle.writer.specs.declared.Answer.TheVariants.{Done, Appended}
use Rattle.writer.specs.declared.Writer.{Writer}
use Rattle.writer.specs.State.{is_due, data_due, first_due, stage_of, target, next_generation, begun_in, active_ok, contents_ok, tables_ok, operation_ok, stage_ok, in_range, tail_size}
use Rattle.lower.specs.Lower.{answer_of, started, begun, with_source, source_step, with_table, table_step, with_bytes, appended, bytes_step, with_end, end_step, with_closed, close_step, emptied, with_block, past_end}
use Rattle.due.specs.Due.{padded, due_ops, operated, due_step}
use Rattle.commit.specs.Commit.{bank_for, records_for, commit_step, commit_ops, word_step, word_ops}
use Rattle.run.specs.Run.{Lower, source, table, bytes, end, close, due, commit, word, lower_step, lower_ops, ran_ops}
use Rattle.powerloss.specs.History.{Update, Note, source_note, table_note, end_note, opened, bank_of, records_after, block_between, update_after, is_word, committed, after_lower, after_lower_cut, after_begin}
use Rattle.powerloss.specs.Machine.{done_at, Image, bank_in, Run, Event, begin, call, cut, image_after, on_call, on_cut, next, next_all, found}
use Rattle.powerloss.specs.Claim.{Typed, AllTyped, Holds}
use Rattle.powerloss.specs.Instances.{key, dates, routes, data·, the_source, calls_to_closing, calls_before, update_with, before_the_word, erase_cut, updated, the_new, the_old, written, Gives, WholeUpdate, CutBeforeTheWord, CutAfterTheWord, CutInTheWord, ThreeBytesWritten, CutAtTheWordsEnd, CutInTheErase, Loads, WholeUpdateLoads, CutBeforeTheWordLoads, CutAfterTheWordLoads, CutInTheWordLoads, CutAtTheWordsEndLoads, CutInTheEraseLoads, Data, WholeUpdateData, CutAtTheWordsEndData, AfterOne, LastCommitted, FiveOperations, ErasedHasNone, on_erased, ErasedUpdate}
use Rattle.powerloss.proofs.Bytes.{bytes-nil, bytes-cons, bytes-fill}
use Rattle.powerloss.proofs.Cuts.{cut_inside}
use Rattle.powerloss.proofs.Load.{load-other, active-ok, unmarked-refused, target_fits}
use Rattle.powerloss.proofs.Lowers.{mk}
use Rattle.powerloss.proofs.Uppers.{inv-all, inv-found, demand3}
use Rattle.base.specs.Table.{max_tables}
use Rattle.std.specs.Prelude.{Ok, Err, Some, None, Result, Option}
use Rattle.refusal.specs.declared.Refusal.{Refusal}
use Rattle.header.specs.declared.Bank.{Bank}
use Rattle.writer.specs.declared.Answer.{Answer}

-- a state of this update
abbrev st : Result (Option Bank) Refusal → Stage → Contents → Tables → List Source → List ℕ → Writer
st hd g t b ss tail = record { stage = g; beginning = record { active = hd; comparing = false; now = pos 0 }; contents = t; tables = b; sources = ss; tail = tail }

abbrev tk : ℕ → ℕ → ℕ → Bool → Contents
tk n k crc closed = record { written = n; fill = k; crc = crc; different = false; closed = closed }

abbrev tb : ℕ → ℕ → ℕ → ℕ → ℕ → Tables
tb n t i crc k = record { count = n; table = t; start = i; crc = crc; begun = k }

abbrev upd : Result (Option Bank) Refusal → List ℕ → List Note → Update
upd hd xs ns = record { number = target hd; generation = next_generation hd; now = pos 0; data· = xs; notes = ns; checked = pos 0 }

abbrev at : Result (Option Bank) Refusal → List Source → Image → List ℕ → Writer → Update → Run
at hd rs im region w u = mk region (Some w) hd rs (Some u) im

-- what a call does on a state: its answer, the state after it, its operations
abbrev Does : Lower → List ℕ → Writer → Result Answer Refusal → Writer → List Op → Type 0
Does c region w x w' ops = (lower_step region w c ≡ record { answer = x; writer = w' }) × (lower_ops region w c ≡ ops)

-- ---- each call: sources, tail and CRCs are any if it doesn't look at them

module _ (hd : Result (Option Bank) Refusal) (ok : active_ok hd ≡ true) (region : List ℕ) (ss : List Source) (tail : List ℕ) (a b : ℕ) where
  does-key : Does (bytes key) region (st hd Idle (tk 0 0 a false) (tb 0 8 0 b 0) ss tail)
      (Ok (Appended 1)) (st hd Idle (tk 0 1 (crc32 a key) false) (tb 0 8 0 (crc32 b key) 0) ss (sets tail 0 key)) []
  unfolding lower_step lower_ops bytes_step appended with_bytes stage_of in_range contents_ok tables_ok stage_ok is_due
  does-key = rw ok (refl, refl)

  does-source : Does (source the_source) region (st hd Idle (tk 0 1 a false) (tb 0 8 0 b 0) ss tail)
      (Ok Done) (st hd Idle (tk 0 1 a false) (tb 1 8 0 b 0) (set ss 0 (emptied the_source)) tail) []
  unfolding lower_step lower_ops source_step with_source in_range contents_ok tables_ok stage_ok is_due
  does-source = rw ok (refl, refl)

  does-dates : Does (bytes dates) region (st hd Idle (tk 0 1 a false) (tb 1 8 0 b 0) ss tail)
      (Ok (Appended 8)) (st hd Idle (tk 0 9 (crc32 a dates) false) (tb 1 8 0 (crc32 b dates) 0) ss (sets tail 1 dates)) []
  unfolding lower_step lower_ops bytes_step appended with_bytes stage_of in_range contents_ok tables_ok stage_ok is_due
  does-dates = rw ok (refl, refl)

  does-table : Does (table 0) region (st hd Idle (tk 0 9 a false) (tb 1 8 0 b 0) ss tail) (Ok Done) (st hd Idle (tk 0 9 a false) (tb 1 0 9 0 1) ss tail) []
  unfolding lower_step lower_ops table_step with_table begun_in in_range contents_ok tables_ok stage_ok is_due
  does-table = rw ok (refl, refl)

  does-routes : Does (bytes routes) region (st hd Idle (tk 0 9 a false) (tb 1 0 9 b 1) ss tail)
      (Ok (Appended 3)) (st hd Idle (tk 0 12 (crc32 a routes) false) (tb 1 0 9 (crc32 b routes) 1) ss (sets tail 9 routes)) []
  unfolding lower_step lower_ops bytes_step appended with_bytes stage_of in_range contents_ok tables_ok stage_ok is_due
  does-routes = rw ok (refl, refl)

  does-end : Does end region (st hd Idle (tk 0 12 a false) (tb 1 0 9 b 1) ss tail)
      (Ok Done) (st hd Idle (tk 0 12 a false) (tb 1 8 9 b 1) (set ss 0 (with_block (get_or ss 0 past_end) 0 (record { offset = 9; length = 3; crc = b }))) tail) []
  unfolding lower_step lower_ops end_step with_end in_range contents_ok tables_ok stage_ok is_due
  does-end = rw ok (refl, refl)

  does-close : Does close region (st hd Idle (tk 0 12 a false) (tb 1 8 9 b 1) ss tail) (Ok Done) (st hd (Due (Erase 0)) (tk 0 12 a true) (tb 1 8 9 b 1) ss tail) []
  unfolding lower_step lower_ops close_step with_closed stage_of first_due in_range contents_ok tables_ok stage_ok is_due
  does-close = rw ok (refl, refl)

  -- the operations: the region has its size
  module _ (l : length region ≡ region_size) where
    does-header : Does due region (st hd (Due (Erase 0)) (tk 0 12 a true) (tb 1 8 9 b 1) ss tail) (Ok Done) (st hd (Due (Erase 1)) (tk 0 12 a true) (tb 1 8 9 b 1) ss tail) (erase 0 ∷ [])
    unfolding lower_step lower_ops due_step due_ops operated data_due in_range contents_ok tables_ok stage_ok operation_ok is_due
    does-header = rw (eq-eqb (length region) region_size l, ok) (refl, refl)

    does-sector : Does due region (st hd (Due (Erase 1)) (tk 0 12 a true) (tb 1 8 9 b 1) ss tail) (Ok Done) (st hd (Due (Write 0 12)) (tk 0 12 a true) (tb 1 8 9 b 1) ss tail) (erase sector_size ∷ [])
    unfolding lower_step lower_ops due_step due_ops operated in_range contents_ok tables_ok stage_ok operation_ok is_due
    does-sector = rw (eq-eqb (length region) region_size l, ok) (refl, refl)

    does-write : Does due region (st hd (Due (Write 0 12)) (tk 0 12 a true) (tb 1 8 9 b 1) ss tail)
        (Ok Done) (st hd Idle (tk 12 0 a true) (tb 1 8 9 b 1) ss tail) (write sector_size (padded (take 12 tail)) ∷ [])
    unfolding lower_step lower_ops due_step due_ops operated in_range contents_ok tables_ok stage_ok operation_ok is_due
    does-write = rw (eq-eqb (length region) region_size l, ok) (refl, refl)

    does-word : Does word region (st hd HeaderWritten (tk 12 0 a true) (tb 1 8 9 b 1) ss tail) (Ok Done) (st hd Committed (tk 12 0 a true) (tb 1 8 9 b 1) ss tail) (write commit_offset commit_bytes ∷ [])
    unfolding lower_step lower_ops word_step word_ops in_range contents_ok tables_ok stage_ok is_due
    does-word = rw (eq-eqb (length region) region_size l, ok) (refl, refl)

-- the sources at the commit: the record with its block, b the CRC of its Routes
abbrev sources1 : List Source
sources1 = set (fill no_source max_sources) 0 (emptied the_source)

abbrev sources2 : ℕ → List Source
sources2 b = set sources1 0 (with_block (get_or sources1 0 past_end) 0 (record { offset = 9; length = 3; crc = b }))

abbrev ready : Result (Option Bank) Refusal → List ℕ → ℕ → ℕ → Writer
ready hd tail a b = st hd Idle (tk 12 0 a true) (tb 1 8 9 b 1) (sources2 b) tail

abbrev headed : Result (Option Bank) Refusal → List ℕ → ℕ → ℕ → Writer
headed hd tail a b = st hd HeaderWritten (tk 12 0 a true) (tb 1 8 9 b 1) (sources2 b) tail

abbrev header : Result (Option Bank) Refusal → List ℕ → ℕ → ℕ → List Op
header hd tail a b = write 0 (header_bytes (bank_for (ready hd tail a b) None) (records_for (ready hd tail a b)) blank_word) ∷ []

-- refusal 13 isn't met
fit : (hd : Result (Option Bank) Refusal) (tail : List ℕ) (a b : ℕ) → is_fit (bank_for (ready hd tail a b) None) (records_for (ready hd tail a b)) ≡ true
unfolding is_fit judge span_ok source_ok each bank_for fill no_source valid_date is_date month_days leap
fit hd tail a b = refl

does-commit : (hd : Result (Option Bank) Refusal) → active_ok hd ≡ true → (region tail : List ℕ) (a b : ℕ) → length region ≡ region_size → Does (commit None true) region (ready hd tail a b) (Ok Done) (headed hd tail a b) (header hd tail a b)
unfolding lower_step lower_ops commit_step commit_ops in_range contents_ok tables_ok stage_ok is_due
does-commit hd ok region tail a b l = rw (eq-eqb (length region) region_size l, ok, fit hd tail a b) (refl, refl)

-- ---- the list of calls

-- a call that isn't the commit word's, then the rest
called : (hd : Result (Option Bank) Refusal) (rs : List Source) (im : Image) (c : Lower) (region : List ℕ) (g : Stage) (t : Contents) (b : Tables) (ss : List Source) (tail : List ℕ) (x : Result Answer Refusal) (w' : Writer) (ops : List Op) (u : Update)
    (es : List Event)
    → is_word c ≡ false → Does c region (st hd g t b ss tail) x w' ops
    → next_all (at hd rs im region (st hd g t b ss tail) u) (call c ∷ es) ≡ next_all (at hd rs im (performed (target hd) ops region) w' (update_after c x u)) es
unfolding next_all next on_call after_lower committed image_after
called hd rs im c region g t b ss tail x w' ops u es e d = rw (e, d.0, d.1)

-- its operations, then those of the rest
ran : (hd : Result (Option Bank) Refusal) (c : Lower) (region : List ℕ) (g : Stage) (t : Contents) (b : Tables) (ss : List Source) (tail : List ℕ) (x : Result Answer Refusal) (w' : Writer) (ops : List Op) (cs : List Lower)
    → Does c region (st hd g t b ss tail) x w' ops → ran_ops region (st hd g t b ss tail) (c ∷ cs) ≡ ops ++ ran_ops (performed (target hd) ops region) w' cs
unfolding ran_ops
ran hd c region g t b ss tail x w' ops cs d = rw (d.0, d.1)

only_one : (r : Run) (e : Event) → next_all r (e ∷ []) ≡ next r e
unfolding next_all
only_one r e = refl

abbrev notes1 : List Note
notes1 = source_note the_source ∷ []

abbrev notes2 : List Note
notes2 = source_note the_source ∷ table_note 0 9 ∷ []

abbrev notes : List Note
notes = source_note the_source ∷ table_note 0 9 ∷ end_note 12 ∷ []

abbrev crc1 : ℕ
crc1 = crc32 0 key

abbrev crc2 : ℕ
crc2 = crc32 crc1 dates

abbrev crc_data : ℕ
crc_data = crc32 crc2 routes

abbrev crc_routes : ℕ
crc_routes = crc32 0 routes

abbrev tail1 : List ℕ
tail1 = sets (fill 0 tail_size) 0 key

abbrev tail2 : List ℕ
tail2 = sets tail1 1 dates

abbrev tail3 : List ℕ
tail3 = sets tail2 9 routes

abbrev first : Result (Option Bank) Refusal → Writer
first hd = st hd Idle (tk 0 0 0 false) (tb 0 8 0 0 0) (fill no_source max_sources) (fill 0 tail_size)

abbrev due_first : Result (Option Bank) Refusal → Writer
due_first hd = st hd (Due (Erase 0)) (tk 0 12 crc_data true) (tb 1 8 9 crc_routes 1) (sources2 crc_routes) tail3

abbrev last· : Result (Option Bank) Refusal → Writer
last· hd = headed hd tail3 crc_data crc_routes

answer_ok : (hd : Result (Option Bank) Refusal) → active_ok hd ≡ true → answer_of hd ≡ Ok Done
unfolding active_ok
answer_ok (Ok (Some b)) e = refl
answer_ok (Ok None) e = refl
answer_ok (Err r) e = absurd (false≢true e)

-- the region before each of the operations
module _ (hd : Result (Option Bank) Refusal) (region : List ℕ) (l : length region ≡ region_size) where
  abbrev region1 : List ℕ
  region1 = performed (target hd) (erase 0 ∷ []) region

  l1 : length region1 ≡ region_size
  l1 = length-performed (target hd) (erase 0 ∷ []) region (target_fits hd) l

  abbrev region2 : List ℕ
  region2 = performed (target hd) (erase sector_size ∷ []) region1

  l2 : length region2 ≡ region_size
  l2 = length-performed (target hd) (erase sector_size ∷ []) region1 (target_fits hd) l1

  abbrev data_op : Op
  data_op = write sector_size (padded (take 12 tail3))

  abbrev region3 : List ℕ
  region3 = performed (target hd) (data_op ∷ []) region2

  l3 : length region3 ≡ region_size
  l3 = length-performed (target hd) (data_op ∷ []) region2 (target_fits hd) l2

  abbrev region4 : List ℕ
  region4 = performed (target hd) (header hd tail3 crc_data crc_routes) region3

  l4 : length region4 ≡ region_size
  l4 = length-performed (target hd) (header hd tail3 crc_data crc_routes) region3 (target_fits hd) l3

-- an update from a run whose history holds what load gives
module _ (hd : Result (Option Bank) Refusal) (ok : active_ok hd ≡ true) (r : Run) (e : loaded r.region ≡ hd) (f : r.history.held ≡ hd) (l : length r.region ≡ region_size) where
  abbrev from : List ℕ → Writer → Update → Run
  from region w u = at hd r.history.records r.image region w u

  begins : (es : List Event) → next_all r (begin false (pos 0) ∷ es) ≡ next_all (from r.region (first hd) (upd hd [] [])) es
  unfolding next_all next begun started after_begin opened
  begins es = rw (e, f, answer_ok hd ok)

  -- after the closing
  closed : (es : List Event) → next_all r (begin false (pos 0) ∷ (map call calls_to_closing ++ es)) ≡ next_all (from r.region (due_first hd) (upd hd data· notes)) es
  unfolding update_after performed
  closed es =
      let g = r.region in
      let rs = r.history.records in
      let im = r.image in
      begins _
      ∙ called hd rs im (bytes key) g _ _ _ _ _ _ _ _ (upd hd [] []) _ refl (does-key hd ok g (fill no_source max_sources) (fill 0 tail_size) 0 0)
      ∙ called hd rs im (source the_source) g _ _ _ _ _ _ _ _ (upd hd key []) _ refl (does-source hd ok g (fill no_source max_sources) tail1 crc1 crc1)
      ∙ called hd rs im (bytes dates) g _ _ _ _ _ _ _ _ (upd hd key notes1) _ refl (does-dates hd ok g sources1 tail1 crc1 crc1)
      ∙ called hd rs im (table 0) g _ _ _ _ _ _ _ _ (upd hd (key ++ dates) notes1) _ refl (does-table hd ok g sources1 tail2 crc2 crc2)
      ∙ called hd rs im (bytes routes) g _ _ _ _ _ _ _ _ (upd hd (key ++ dates) notes2) _ refl (does-routes hd ok g sources1 tail2 crc2 0)
      ∙ called hd rs im end g _ _ _ _ _ _ _ _ (upd hd data· notes2) _ refl (does-end hd ok g sources1 tail3 crc_data crc_routes)
      ∙ called hd rs im close g _ _ _ _ _ _ _ _ (upd hd data· notes) _ refl (does-close hd ok g (sources2 crc_routes) tail3 crc_data crc_routes)

  -- before the commit word's call
  headed-by : (es : List Event) → next_all r (begin false (pos 0) ∷ (map call calls_before ++ es)) ≡ next_all (from (region4 hd r.region l) (last· hd) (upd hd data· notes)) es
  unfolding update_after performed
  headed-by es =
      let g = r.region in
      let rs = r.history.records in
      let im = r.image in
      closed (call due ∷ call due ∷ call due ∷ call (commit None true) ∷ es)
      ∙ called hd rs im due g _ _ _ _ _ _ _ _ (upd hd data· notes) _ refl (does-header hd ok g (sources2 crc_routes) tail3 crc_data crc_routes l)
      ∙ called hd rs im due (region1 hd g l) _ _ _ _ _ _ _ _ (upd hd data· notes) _ refl (does-sector hd ok (region1 hd g l) (sources2 crc_routes) tail3 crc_data crc_routes (l1 hd g l))
      ∙ called hd rs im due (region2 hd g l) _ _ _ _ _ _ _ _ (upd hd data· notes) _ refl (does-write hd ok (region2 hd g l) (sources2 crc_routes) tail3 crc_data crc_routes (l2 hd g l))
      ∙ called hd rs im (commit None true) (region3 hd g l) _ _ _ _ _ _ _ _ (upd hd data· notes) _ refl (does-commit hd ok (region3 hd g l) tail3 crc_data crc_routes (l3 hd g l))

  -- before the last event
  before : (last : Event) → next_all r (update_with last) ≡ next (from (region4 hd r.region l) (last· hd) (upd hd data· notes)) last
  unfolding update_with
  before last = headed-by (last ∷ []) ∙ only_one _ last

-- ---- the last event

-- the bank that the history notes
noted-bank : (hd : Result (Option Bank) Refusal) → bank_of (upd hd data· notes) ≡ updated hd
unfolding bank_of records_after block_between fill
noted-bank hd = refl

module _ (hd : Result (Option Bank) Refusal) (ok : active_ok hd ≡ true) (rs : List Source) (im : Image) (region : List ℕ) (l : length region ≡ region_size) where
  abbrev at_word : Run
  at_word = at hd rs im region (last· hd) (upd hd data· notes)

  word-does : Does word region (last· hd) (Ok Done) (st hd Committed (tk 12 0 crc_data true) (tb 1 8 9 crc_routes 1) (sources2 crc_routes) tail3) (write commit_offset commit_bytes ∷ [])
  word-does = does-word hd ok region (sources2 crc_routes) tail3 crc_data crc_routes l

  by_word : (next at_word (call word)).history.held ≡ the_new hd
  unfolding next on_call after_lower committed update_after
  by_word = rw word-does.0 (ap (λ (b : Bank). Ok (Some b)) (noted-bank hd))

  by-cut-before : (next at_word (cut word 0 0)).history.held ≡ the_old hd
  unfolding next on_cut after_lower_cut committed done_at commit_bytes le32
  by-cut-before = rw word-does.1 refl

  by-cut-1 : (next at_word (cut word 0 1)).history.held ≡ the_old hd
  unfolding next on_cut after_lower_cut committed done_at commit_bytes le32
  by-cut-1 = rw word-does.1 refl

  by-cut-2 : (next at_word (cut word 0 2)).history.held ≡ the_old hd
  unfolding next on_cut after_lower_cut committed done_at commit_bytes le32
  by-cut-2 = rw word-does.1 refl

  by-cut-3 : (next at_word (cut word 0 3)).history.held ≡ the_old hd
  unfolding next on_cut after_lower_cut committed done_at commit_bytes le32
  by-cut-3 = rw word-does.1 refl

  by-cut-4 : (next at_word (cut word 0 4)).history.held ≡ the_new hd
  unfolding next on_cut after_lower_cut committed done_at commit_bytes le32
  by-cut-4 = rw word-does.1 (ap (λ (b : Bank). Ok (Some b)) (noted-bank hd))

  by-cut-after : (next at_word (cut word 1 0)).history.held ≡ the_new hd
  unfolding next on_cut after_lower_cut committed done_at
  by-cut-after = rw word-does.1 (ap (λ (b : Bank). Ok (Some b)) (noted-bank hd))

  three-bytes : (next at_word (cut word 0 3)).region ≡ torn (target hd) 3 (write commit_offset commit_bytes) region
  unfolding next on_cut
  three-bytes = rw (word-does.1, cut_inside (target hd) (write commit_offset commit_bytes) [] region 3) refl

  by-erase-cut : ((next (at hd rs im region (due_first hd) (upd hd data· notes)) (cut due 0 100)).region ≡ torn (target hd) 100 (erase 0) region)
      × ((next (at hd rs im region (due_first hd) (upd hd data· notes)) (cut due 0 100)).history.held ≡ hd)
  unfolding next on_cut after_lower_cut committed
  by-erase-cut = rw ((does-header hd ok region (sources2 crc_routes) tail3 crc_data crc_routes l).1, cut_inside (target hd) (erase 0) [] region 100) (refl, refl)

-- what the last event gives, on any state before it
abbrev Ends : Event → ((Result (Option Bank) Refusal) → Result (Option Bank) Refusal) → Type 0
Ends last held =
    (hd : Result (Option Bank) Refusal) → active_ok hd ≡ true → (rs : List Source) (im : Image) (region : List ℕ) → length region ≡ region_size
    → (next (at hd rs im region (last· hd) (upd hd data· notes)) last).history.held ≡ held hd

held_after : (last : Event) (held : Result (Option Bank) Refusal → Result (Option Bank) Refusal) → Ends last held
    → (hd : Result (Option Bank) Refusal) → active_ok hd ≡ true → (r : Run) → loaded r.region ≡ hd → r.history.held ≡ hd → length r.region ≡ region_size
    → (next_all r (update_with last)).history.held ≡ held hd
held_after last held g hd ok r e f l =
    ap (λ (x : Run). x.history.held) (before hd ok r e f l last) ∙ g hd ok r.history.records r.image (region4 hd r.region l) (l4 hd r.region l)

erase-after : (hd : Result (Option Bank) Refusal) → active_ok hd ≡ true → (r : Run) → loaded r.region ≡ hd → r.history.held ≡ hd → length r.region ≡ region_size
    → ((next_all r erase_cut).region ≡ with_bank r.region (target hd) (fill 255 100 ++ drop 100 (Region.bank_of r.region (target hd)))) × ((next_all r erase_cut).history.held ≡ hd)
unfolding erase_cut
erase-after hd ok r e f l =
    let q = closed hd ok r e f l (cut due 0 100 ∷ []) ∙ only_one _ (cut due 0 100) in
    let p = by-erase-cut hd ok r.history.records r.image r.region l in
    (ap (λ (x : Run). x.region) q ∙ p.0 ∙ torn-first (target hd) 100 r.region l (target_fits hd) (omega arith), ap (λ (x : Run). x.history.held) q ∙ p.1)

by : (last : Event) (held : Result (Option Bank) Refusal → Result (Option Bank) Refusal) → Ends last held → Gives last held
by last held g region l = unfold found in (held_after last held g (loaded region) (active-ok region (loaded region) l refl) (found region) refl refl l)

pub whole_update : WholeUpdate
whole_update = by (call word) the_new by_word

pub cut_before_the_word : CutBeforeTheWord
cut_before_the_word = by (cut word 0 0) the_old by-cut-before

pub cut_after_the_word : CutAfterTheWord
cut_after_the_word = by (cut word 1 0) the_new by-cut-after

pub cut_in_the_word : CutInTheWord
cut_in_the_word = by (cut word 0 3) the_old by-cut-3

pub cut_at_the_words_end : CutAtTheWordsEnd
cut_at_the_words_end = by (cut word 0 4) the_new by-cut-4

-- the region that three bytes leave
none_left : (r : Run) → next_all r [] ≡ r
unfolding next_all
none_left r = refl

pub three_bytes_written : ThreeBytesWritten
unfolding found before_the_word
three_bytes_written region l =
    let hd = loaded region in
    let ok = active-ok region hd l refl in
    let rs = (found region).history.records in
    let im = (found region).image in
    let g = region4 hd region l in
    let q = headed-by hd ok (found region) refl refl l [] ∙ none_left _ in
    ap (λ (x : Run). x.region) (before hd ok (found region) refl refl l (cut word 0 3))
    ∙ three-bytes hd ok rs im g (l4 hd region l)
    ∙ ap (λ (x : Run). torn (target hd) 3 (write commit_offset commit_bytes) x.region) (sym q)

-- the header sector's erase, cut
pub cut_in_the_erase : CutInTheErase
cut_in_the_erase region l = unfold found in (erase-after (loaded region) (active-ok region (loaded region) l refl) (found region) refl refl l)

-- ---- load's answer, by demand 3

all-fill : {A : Type 0} (P : A → Type 0) (a : A) (n : ℕ) → P a → All P (fill a n)
unfolding All fill
all-fill P a zero p = tt
all-fill P a (suc n) p = (p, all-fill P a n p)

pub zero-fits : SFits w64 (pos 0)
zero-fits = record { sfits = omega arith }

pub proper : Proper the_source
proper =
    record {
      sized =
          record {
            original = length-fill {A = ℕ} 0 16;
            tables = length-fill no_block max_tables;
            stamp = length-fill {A = ℕ} 0 12;
            id = length-fill {A = ℕ} 0 80;
            validator = length-fill {A = ℕ} 0 66;
          };
      ranged =
          record {
            start = omega arith;
            end = omega arith;
            present = omega arith;
            updated = zero-fits;
            original = all-fill U32 0 16 (omega arith);
            tables = all-fill Block32 no_block 8 (record { offset = omega arith; length = omega arith; crc = omega arith });
          };
      texts = record { stamp = bytes-fill 0 12 (omega arith); idlen = omega arith; id = bytes-fill 0 80 (omega arith); validator = bytes-fill 0 66 (omega arith) };
    }

pub bytes_of : (xs : List ℕ) → All (λ (x : ℕ). x < 256) xs → Bytes xs
unfolding All
bytes_of [] p = bytes-nil
bytes_of (x ∷ xs) p = bytes-cons x xs p.0 (bytes_of xs p.1)

bytes-key : Bytes key
unfolding All
bytes-key = bytes_of key (omega arith, tt)

bytes-dates : Bytes dates
unfolding All
bytes-dates = bytes_of dates (omega arith, (omega arith, (omega arith, (omega arith, (omega arith, (omega arith, (omega arith, (omega arith, tt))))))))

bytes-routes : Bytes routes
unfolding All
bytes-routes = bytes_of routes (omega arith, (omega arith, (omega arith, tt)))

typed : (last : Event) → Typed last → AllTyped (update_with last)
unfolding update_with
typed last t = (zero-fits, (bytes-key, (proper, (bytes-dates, (tt, (bytes-routes, (tt, (tt, (tt, (tt, (tt, (tt, (t, tt)))))))))))))

loads-by : (last : Event) (held : Result (Option Bank) Refusal → Result (Option Bank) Refusal) → Typed last → Gives last held → Loads last held
loads-by last held t g region l y = (demand3 region (update_with last) l y (typed last t)).loads ∙ g region l

pub whole_update_loads : WholeUpdateLoads
whole_update_loads = loads-by (call word) the_new tt whole_update

pub cut_before_the_word_loads : CutBeforeTheWordLoads
cut_before_the_word_loads = loads-by (cut word 0 0) the_old tt cut_before_the_word

pub cut_after_the_word_loads : CutAfterTheWordLoads
cut_after_the_word_loads = loads-by (cut word 1 0) the_new tt cut_after_the_word

pub cut_in_the_word_loads : CutInTheWordLoads
cut_in_the_word_loads = loads-by (cut word 0 3) the_old tt cut_in_the_word

pub cut_at_the_words_end_loads : CutAtTheWordsEndLoads
cut_at_the_words_end_loads = loads-by (cut word 0 4) the_new tt cut_at_the_words_end

erase-typed : AllTyped erase_cut
unfolding erase_cut
erase-typed = (zero-fits, (bytes-key, (proper, (bytes-dates, (tt, (bytes-routes, (tt, (tt, (tt, tt)))))))))

pub cut_in_the_erase_loads : CutInTheEraseLoads
cut_in_the_erase_loads region l y = (demand3 region erase_cut l y erase-typed).loads ∙ (cut_in_the_erase region l).1

-- ---- the bank's data, by demand 3

abbrev Ended : Event → Type 0
Ended last =
    (hd : Result (Option Bank) Refusal) → active_ok hd ≡ true → (rs : List Source) (im : Image) (region : List ℕ) → length region ≡ region_size
    → (next (at hd rs im region (last· hd) (upd hd data· notes)) last).image.given ≡ Some data·

given_word : Ended (call word)
unfolding next on_call image_after
given_word hd ok rs im region l = rw (word-does hd ok rs im region l).0 refl

given-cut : Ended (cut word 0 4)
unfolding next on_cut image_after done_at commit_bytes le32
given-cut hd ok rs im region l = rw (word-does hd ok rs im region l).1 refl

data-by : (last : Event) → Typed last → Gives last the_new → Ended last → Data last
unfolding found
data-by last t g f region l y =
    let hd = loaded region in
    let ok = active-ok region hd l refl in
    let r = next_all (found region) (update_with last) in
    let d = demand3 region (update_with last) l y (typed last t) in
    let h : r.image.given ≡ Some data· =
    ap (λ (x : Run). x.image.given) (before hd ok (found region) refl refl l last) ∙ f hd ok (found region).history.records (found region).image (region4 hd region l) (l4 hd region l) in
    let b : Region.bank_of r.region (target hd) ≡ r.image.bank = ap (bank_in r.region) (sym (g region l)) ∙ d.image in
    ap (λ (x : List ℕ). Region.data_of x 12) b ∙ subst (Holds r.image.bank) h d.given

pub whole_update_data : WholeUpdateData
whole_update_data = data-by (call word) tt whole_update given_word

pub cut_at_the_words_end_data : CutAtTheWordsEndData
cut_at_the_words_end_data = data-by (cut word 0 4) tt cut_at_the_words_end given-cut

-- ---- one update, then other events

pub next-append : (xs ys : List Event) (r : Run) → next_all r (xs ++ ys) ≡ next_all (next_all r xs) ys
unfolding next_all
next-append [] ys r = refl
next-append (x ∷ xs) ys r = next-append xs ys (next r x)

pub typed-append : (xs ys : List Event) → AllTyped xs → AllTyped ys → AllTyped (xs ++ ys)
typed-append [] ys p q = q
typed-append (x ∷ xs) ys p q = (p.0, typed-append xs ys p.1 q)

after_one : (es : List Event) (held : Result (Option Bank) Refusal → Result (Option Bank) Refusal) → AllTyped es
    → ((hd : Result (Option Bank) Refusal) → active_ok hd ≡ true → (r : Run) → loaded r.region ≡ hd → r.history.held ≡ hd → length r.region ≡ region_size → (next_all r es).history.held ≡ held hd)
    → AfterOne es held
after_one es held p g region l y =
    let one = update_with (call word) in
    let r = next_all (found region) one in
    let k = (inv-all one (found region) (typed (call word) tt) (inv-found region l y)).kept in
    let f = whole_update region l in
    let e = k.loads ∙ f in
    (demand3 region (one ++ es) l y (typed-append one es (typed (call word) tt) p)).loads
    ∙ ap (λ (x : Run). x.history.held) (next-append one es (found region))
    ∙ g (the_new (loaded region)) (active-ok r.region (the_new (loaded region)) k.size e) r e f k.size

after-by : (last : Event) (held : Result (Option Bank) Refusal → Result (Option Bank) Refusal) → Typed last → Ends last held → AfterOne (update_with last) held
after-by last held t g = after_one (update_with last) held (typed last t) (held_after last held g)

pub last_committed : LastCommitted
last_committed =
    record {
      in_the_erase = after_one erase_cut the_old erase-typed (λ hd ok r e f l. (erase-after hd ok r e f l).1);
      one_byte = after-by (cut word 0 1) the_old tt by-cut-1;
      two_bytes = after-by (cut word 0 2) the_old tt by-cut-2;
      three_bytes = after-by (cut word 0 3) the_old tt by-cut-3;
      four_bytes = after-by (cut word 0 4) the_new tt by-cut-4;
    }

-- ---- the operations

crc-data : crc_data ≡ crc32 0 data·
crc-data = ap (λ (x : ℕ). crc32 x routes) (crc32-append 0 key dates) ∙ crc32-append 0 (key ++ dates) routes

-- the bytes that the tail holds
data-op : padded (take 12 tail3) ≡ data·
unfolding padded fill
data-op = refl

header-op : (hd : Result (Option Bank) Refusal) → header hd tail3 crc_data crc_routes ≡ write 0 (header_bytes (updated hd) (written ∷ []) blank_word) ∷ []
unfolding bank_for fill
header-op hd = rw crc-data

module _ (hd : Result (Option Bank) Refusal) (ok : active_ok hd ≡ true) (region : List ℕ) (l : length region ≡ region_size) where
  abbrev s2 : List Source
  s2 = sources2 crc_routes

  ops-word : ran_ops (region4 hd region l) (last· hd) (word ∷ []) ≡ write commit_offset commit_bytes ∷ []
  unfolding ran_ops
  ops-word = rw (does-word hd ok (region4 hd region l) s2 tail3 crc_data crc_routes (l4 hd region l)).1

  ops-commit : ran_ops (region3 hd region l) (ready hd tail3 crc_data crc_routes) (commit None true ∷ word ∷ [])
      ≡ write 0 (header_bytes (updated hd) (written ∷ []) blank_word) ∷ write commit_offset commit_bytes ∷ []
  ops-commit =
      ran hd (commit None true) (region3 hd region l) _ _ _ _ _ _ _ _ (word ∷ []) (does-commit hd ok (region3 hd region l) tail3 crc_data crc_routes (l3 hd region l))
      ∙ (λ i. header-op hd i ++ ops-word i)

  abbrev committing : List Lower
  committing = commit None true ∷ word ∷ []

  ops-due : ran_ops region (due_first hd) (due ∷ due ∷ due ∷ committing)
      ≡ erase 0 ∷ erase sector_size ∷ write sector_size data· ∷ write 0 (header_bytes (updated hd) (written ∷ []) blank_word) ∷ write commit_offset commit_bytes ∷ []
  ops-due =
      ran hd due region _ _ _ _ _ _ _ _ (due ∷ due ∷ committing) (does-header hd ok region s2 tail3 crc_data crc_routes l)
      ∙ ap (λ (ops : List Op). erase 0 ∷ ops)
      (ran hd due (region1 hd region l) _ _ _ _ _ _ _ _ (due ∷ committing) (does-sector hd ok (region1 hd region l) s2 tail3 crc_data crc_routes (l1 hd region l))
      ∙ ap (λ (ops : List Op). erase sector_size ∷ ops)
      (ran hd due (region2 hd region l) _ _ _ _ _ _ _ _ committing (does-write hd ok (region2 hd region l) s2 tail3 crc_data crc_routes (l2 hd region l))
      ∙ (λ i. write sector_size (data-op i) ∷ ops-commit i)))

-- the two words, byte by byte
pub blank-is : blank_word ≡ 255 ∷ 255 ∷ 255 ∷ 255 ∷ []
unfolding blank_word fill
blank-is = refl

pub word-is : commit_bytes ≡ 84 ∷ 77 ∷ 79 ∷ 67 ∷ []
unfolding commit_bytes le32
word-is = refl

pub five_operations : FiveOperations
unfolding performed begun started
five_operations region l =
    let hd = loaded region in
    let ok = active-ok region hd l refl in
    ran hd (bytes key) region _ _ _ _ _ _ _ _ _ (does-key hd ok region (fill no_source max_sources) (fill 0 tail_size) 0 0)
    ∙ ran hd (source the_source) region _ _ _ _ _ _ _ _ _ (does-source hd ok region (fill no_source max_sources) tail1 crc1 crc1)
    ∙ ran hd (bytes dates) region _ _ _ _ _ _ _ _ _ (does-dates hd ok region sources1 tail1 crc1 crc1)
    ∙ ran hd (table 0) region _ _ _ _ _ _ _ _ _ (does-table hd ok region sources1 tail2 crc2 crc2)
    ∙ ran hd (bytes routes) region _ _ _ _ _ _ _ _ _ (does-routes hd ok region sources1 tail2 crc2 0)
    ∙ ran hd end region _ _ _ _ _ _ _ _ _ (does-end hd ok region sources1 tail3 crc_data crc_routes)
    ∙ ran hd close region _ _ _ _ _ _ _ _ _ (does-close hd ok region (sources2 crc_routes) tail3 crc_data crc_routes)
    ∙ ops-due hd ok region l
    ∙ (λ i. erase 0 ∷ erase sector_size ∷ write sector_size data· ∷ write 0 (header_bytes (updated hd) (written ∷ []) (blank-is i)) ∷ write commit_offset (word-is i) ∷ [])

-- ---- an erased region

abbrev erased : List ℕ
erased = fill 255 region_size

erased-size : length erased ≡ region_size
erased-size = length-fill {A = ℕ} 255 region_size

unmarked : (k : ℕ) → marked (take bank_size (fill 255 (suc (suc (suc (suc k)))))) ≡ false
unfolding marked word32 fill
unmarked k = refl

unmarked0 : marked (Region.bank_of erased 0) ≡ false
unfolding Region.bank_of
unmarked0 = unmarked 983036

unmarked1 : marked (Region.bank_of erased 1) ≡ false
unfolding Region.bank_of
unmarked1 = ap (λ (l : List ℕ). marked (take bank_size l)) (drop-fill 255 region_size bank_size) ∙ unmarked 491516

pub erased_has_none : ErasedHasNone
erased_has_none =
    load-other erased 0 Mark erased-size (omega arith) (unmarked-refused erased 0 erased-size (omega arith) unmarked0)
    ∙ ap (λ (v : Result Bank Refusal). or_else v (Ok None)) (unmarked-refused erased 1 erased-size (omega arith) unmarked1)

erased-bytes : Bytes erased
erased-bytes = bytes-fill 255 region_size (omega arith)

-- what load gives on an erased region follows from what it found there: none
on-erased : (last : Event) (held : Result (Option Bank) Refusal → Result (Option Bank) Refusal) → Loads last held → on_erased last ≡ held (Ok None)
on-erased last held g = g erased erased-size erased-bytes ∙ ap held erased_has_none

pub erased_update : ErasedUpdate
erased_update = (
  on-erased (call word) the_new whole_update_loads,
  on-erased (cut word 0 0) the_old cut_before_the_word_loads,
  on-erased (cut word 0 3) the_old cut_in_the_word_loads,
  on-erased (cut word 0 4) the_new cut_at_the_words_end_loads,
  on-erased (cut word 1 0) the_new cut_after_the_word_loads,
)
