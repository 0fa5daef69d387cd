-- How many operations an update has made is a function of its stage and of the bytes written. Each lower call keeps this: the due call adds
-- its one operation and moves the stage or the bytes on, commit adds two, the others none.
use mathlib.Core.Path.{◌≡◌, refl, sym, ap, ◌∙◌, subst}
use mathlib.Core.Bool.{Bool, true, false, not, ◌&&◌, false≢true}
use mathlib.Core.List.{List, [], ◌∷◌}
use Prim.Native.Nat.{ℕ, zero, suc, ◌+◌, ◌/◌, ◌%◌, ◌≤◌, ◌<◌, min}
use native.Mathlib.Omega.{arith}
use native.Mathlib.Numerals.{add-one}
use borrow.Author.Tests.{eq-eqb, ne_eqb, eqb-true, eqb-false, not-true}
use lib.Dec.{leb, ltb, eqb}
use lib.ListN.{length, take}
use Rattle.base.specs.Number.{pick}
use Rattle.refusal.specs.declared.Refusal.TheVariants.{Region, Argument, Full, Turn, Obsolete, Unfit}
use Rattle.record.specs.declared.Source.{Source}
use Rattle.region.specs.Region.{region_size, capacity, sector_size}
use Rattle.base.proofs.Bools.{and_left, and_right}
use Rattle.header.specs.WriteHeader.{header_bytes, blank_word, commit_bytes, is_fit}
use Rattle.flash.specs.Flash.{Op, write}
use Rattle.writer.specs.declared.Operation.TheVariants.{Erase, Write, Compare}
use Rattle.writer.specs.declared.Stage.{Stage}
use Rattle.writer.specs.declared.Stage.TheVariants.{Idle, Due, HeaderWritten, Committed}
use Rattle.writer.specs.declared.Answer.TheVariants.{Appended, Same, Different}
use Rattle.writer.specs.declared.Contents.{Contents}
use Rattle.writer.specs.declared.Beginning.{Beginning}
use Rattle.writer.specs.declared.Writer.{Writer}
use Rattle.writer.specs.declared.Step.{Step}
use Rattle.writer.specs.State.{is_due, write_due, data_due, first_due, stage_of, is_open, operation_ok, in_range, contents_ok, stage_ok, did, stays, tail_size}
use Rattle.writer.proofs.Laws.{Ranged, ranged, fill-fits}
use Rattle.lower.specs.Lower.{may_append, may_begin, may_end, with_source, source_step, with_table, table_step, accepted, more_contents, with_bytes, appended, bytes_step, with_end, end_step, closed_contents, with_closed, close_step}
use Rattle.due.specs.Due.{ops_of, operated, with_stage, step_of, due_step}
use Rattle.commit.specs.Commit.{bank_for, records_for, is_idle, is_header_written, may_commit, is_current, commit_step, commit_ops, word_step, word_ops}
use Rattle.commit.specs.Unchanged.{may_ask, is_unchanged, unchanged_step}
use Rattle.run.specs.Run.{Lower, source, table, bytes, end, close, due, unchanged, commit, word, lower_step, lower_ops}
use Rattle.powerloss.proofs.Range.{tail-aligned, due-fill, due-ok, erase-zero, erase-data, headed-end}
use Rattle.powerloss.proofs.Quiet.{only-idle}
use Rattle.powerloss.proofs.Keeps.{is-idle, is-header-written}
use Rattle.powerloss.proofs.Commits.{fit_length}
use Rattle.powerloss.specs.Operations.{sectors, writes}
use Rattle.powerloss.proofs.Exactly.{compare_ops, ops-are}
use Rattle.header.specs.Header.{commit_offset}
use Rattle.std.specs.Prelude.{Ok, Option, ℤ}

-- in writing mode, with n bytes written: none before the first erase
abbrev pub so_far : Stage → ℕ → ℕ
so_far Idle n = min n 1 + sectors n + writes n
so_far (Due (Erase zero)) n = 0
so_far (Due (Erase (suc k))) n = 1 + sectors n + writes n
so_far (Due (Write a m)) n = 2 + n / sector_size + writes n
so_far (Due (Compare a m)) n = 0
so_far HeaderWritten n = min n 1 + sectors n + writes n + 1
so_far Committed n = min n 1 + sectors n + writes n + 2

-- a header is written for one byte or more
abbrev AnyBytes : Stage → ℕ → Type 0
AnyBytes HeaderWritten n = 1 ≤ n
AnyBytes Committed n = 1 ≤ n
AnyBytes Idle n = Unit {0}
AnyBytes (Due o) n = Unit {0}

abbrev pub Tally : Bool → Stage → ℕ → ℕ → Type 0
Tally true st n ops = ops ≡ 0
Tally false st n ops = (ops ≡ so_far st n) × AnyBytes st n

abbrev pub TallyOf : ℕ → Writer → Type 0
TallyOf ops w = Tally w.beginning.comparing w.stage w.contents.written ops

pub same-tally : (c : Bool) (st : Stage) (n ops m : ℕ) → m ≡ ops + 0 → Tally c st n ops → Tally c st n m
same-tally true st n ops m e h = omega arith
same-tally false st n ops m e h = (e ∙ omega arith ∙ h.0, h.1)

-- ---- what becomes due was not done before

module _ (t : Contents) (ops : ℕ) (h : Tally false Idle t.written ops) where
  data-tally : (0 ≡ t.written → ⊥) → (z : Bool) → eqb (t.written % sector_size) 0 ≡ z → Tally false (Due (pick z (Erase (t.written / sector_size + 1)) (write_due t))) t.written ops
  data-tally n true e =
      let q = eqb-true (t.written % sector_size) 0 e in
      subst (λ (k : ℕ). Tally false (Due (Erase k)) t.written ops) (sym (add-one (t.written / sector_size))) (omega (arith, h.0), tt)
  data-tally n false e =
      let q : t.written % sector_size ≡ 0 → ⊥ = eqb-false (t.written % sector_size) 0 e in
      (omega (arith, h.0), tt)

  first-tally : (z : Bool) → eqb t.written 0 ≡ z → Tally false (Due (pick z (Erase 0) (data_due t))) t.written ops
  unfolding data_due
  first-tally true e = (omega (arith, h.0, eqb-true t.written 0 e), tt)
  first-tally false e = data-tally (λ q. eqb-false t.written 0 e (sym q)) (eqb (t.written % sector_size) 0) refl

  due-tally : (d : Bool) → Tally false (pick d (Due (first_due false t)) Idle) t.written ops
  unfolding first_due
  due-tally true = first-tally (eqb t.written 0) refl
  due-tally false = h

stage-tally : (c : Bool) (t : Contents) (ops : ℕ) → Tally c Idle t.written ops → Tally c (stage_of c t) t.written ops
unfolding stage_of
stage-tally true t ops h = h
stage-tally false t ops h = due-tally t ops h (is_due t)

-- ---- a write of k bytes after n

one_more : (n k : ℕ) → 0 < k → min (n + k) 1 ≡ 1
one_more n k h = omega arith

sector-more : (n k : ℕ) → n % tail_size ≡ 0 → 0 < k → k ≤ tail_size → sectors (n + k) ≡ n / sector_size + 1
sector-more n k a h f = omega arith

write-more : (n k : ℕ) → n % tail_size ≡ 0 → 0 < k → k ≤ tail_size → writes (n + k) ≡ writes n + 1
write-more n k a h f = omega arith

rearranged : (m a b : ℕ) → m ≡ 2 + a + b + 1 → m ≡ 1 + (a + 1) + (b + 1)
rearranged m a b e = omega arith

-- ---- the call that does what is due

abbrev written_after : List ℕ → Writer → Stage → ℕ
written_after region w st = (step_of region w st).writer.contents.written

abbrev stage_after : List ℕ → Writer → Stage → Stage
stage_after region w st = (step_of region w st).writer.stage

module _ (region : List ℕ) (w : Writer) (ops m : ℕ) (tk : contents_ok w.contents ≡ true) where
  erased : w.contents.written ≡ 0 → m ≡ 1 → (z : Bool) → eqb (w.contents.written % sector_size) 0 ≡ z
      → Tally false (Due (pick z (Erase (w.contents.written / sector_size + 1)) (write_due w.contents))) w.contents.written m
  erased e q true f = subst (λ (k : ℕ). Tally false (Due (Erase k)) w.contents.written m) (sym (add-one (w.contents.written / sector_size))) (omega arith, tt)
  erased e q false f = absurd (eqb-false (w.contents.written % sector_size) 0 f (omega arith))

  wrote : 0 < w.contents.fill → m ≡ 2 + w.contents.written / sector_size + writes w.contents.written + 1 → m ≡ so_far Idle (w.contents.written + w.contents.fill)
  wrote p e =
      let n = w.contents.written in
      let k = w.contents.fill in
      let a = tail-aligned w.contents tk p in
      let f = fill-fits w.contents tk in
      rearranged m (n / sector_size) (writes n) e ∙ sym (λ i. one_more n k p i + sector-more n k a p f i + write-more n k a p f i)

  did-tally : (st : Stage) → stage_ok false w.contents st ≡ true → w.stage ≡ st → Tally false st w.contents.written ops → m ≡ ops + length (ops_of w.tail st)
      → Tally false (stage_after region w st) (written_after region w st) m
  unfolding operated data_due
  did-tally Idle k e h q = subst (λ (s : Stage). Tally false s w.contents.written m) (sym e) (same-tally false Idle w.contents.written ops m q h)
  did-tally HeaderWritten k e h q = subst (λ (s : Stage). Tally false s w.contents.written m) (sym e) (same-tally false HeaderWritten w.contents.written ops m q h)
  did-tally Committed k e h q = subst (λ (s : Stage). Tally false s w.contents.written m) (sym e) (same-tally false Committed w.contents.written ops m q h)
  did-tally (Due (Erase zero)) k e h q =
      erased (erase-zero w.contents (due-ok false w.contents (Erase 0) k).1) (omega (arith, h.0)) (eqb (w.contents.written % sector_size) 0) refl
  did-tally (Due (Erase (suc j))) k e h q =
      let d = erase-data w.contents j (due-ok false w.contents (Erase (suc j)) k).1 in
      rw (ne_eqb (suc j) 0 (λ z. omega arith)) (omega (arith, h.0, d.0), tt)
  did-tally (Due (Write i n)) k e h q = (wrote (due-fill w.contents (due-ok false w.contents (Write i n) k).0) (q ∙ omega (arith, h.0)), tt)
  did-tally (Due (Compare i n)) k e h q = absurd (unfold operation_ok in (false≢true (due-ok false w.contents (Compare i n) k).1))

  step-tally : (c : Bool) (st : Stage) → stage_ok c w.contents st ≡ true → w.stage ≡ st → Tally c st w.contents.written ops → m ≡ ops + length (ops_of w.tail st)
      → Tally c (stage_after region w st) (written_after region w st) m
  step-tally true st k e h q = omega (arith, ap length (compare_ops w.contents w.tail st k))
  step-tally false st k e h q = did-tally st k e h q

same-beginning : (region : List ℕ) (w : Writer) (st : Stage) → (step_of region w st).writer.beginning ≡ w.beginning
unfolding operated
same-beginning region w Idle = refl
same-beginning region w (Due (Erase k)) = refl
same-beginning region w (Due (Write a n)) = refl
same-beginning region w (Due (Compare a n)) = refl
same-beginning region w HeaderWritten = refl
same-beginning region w Committed = refl

-- ---- each call

module _ (region : List ℕ) (w : Writer) (ops m : ℕ) (l : length region ≡ region_size) (r : in_range w ≡ true) (h : TallyOf ops w) where
  own : Ranged w
  own = ranged w r

  quiet : m ≡ ops + 0 → TallyOf m w
  quiet e = same-tally w.beginning.comparing w.stage w.contents.written ops m e h

  source-tally : (s : Source) (a b : Bool) → m ≡ ops + 0 → TallyOf m (pick a (pick b (did (with_source w s)) (stays w Full)) (stays w Turn)).writer
  unfolding with_source
  source-tally s true true e = quiet e
  source-tally s true false e = quiet e
  source-tally s false b e = quiet e

  table-tally : (t : ℕ) (a b : Bool) → m ≡ ops + 0 → TallyOf m (pick a (pick b (did (with_table w t)) (stays w Turn)) (stays w Argument)).writer
  unfolding with_table
  table-tally t true true e = quiet e
  table-tally t true false e = quiet e
  table-tally t false b e = quiet e

  end-tally : (a : Bool) → m ≡ ops + 0 → TallyOf m (pick a (did (with_end w)) (stays w Turn)).writer
  unfolding with_end
  end-tally true e = quiet e
  end-tally false e = quiet e

  unchanged-tally : (a b c : Bool) → m ≡ ops + 0 → TallyOf m (pick a (pick b (record { answer = pick c (Ok Same) (Ok Different); writer = w }) (stays w Turn)) (stays w Region)).writer
  unchanged-tally true true c e = quiet e
  unchanged-tally true false c e = quiet e
  unchanged-tally false b c e = quiet e

  open_of : may_append w ≡ true → w.contents.closed ≡ false
  open_of e = not-true w.contents.closed (and_right (in_range w) (not w.contents.closed) e)

  -- nothing was due
  none-due : may_append w ≡ true → is_due w.contents ≡ false → m ≡ ops + 0 → Tally w.beginning.comparing Idle w.contents.written m
  none-due e d q =
      subst (λ (s : Stage). Tally w.beginning.comparing s w.contents.written m)
      (only-idle w.beginning.comparing w.contents w.stage own.stage (open_of e) d) (quiet q)

  appended-tally : (n : ℕ) (xs : List ℕ) (d : Bool) → may_append w ≡ true → is_due w.contents ≡ d → m ≡ ops + 0
      → TallyOf m (pick {A = Step} d (record { answer = Ok (Appended 0); writer = w }) (record { answer = Ok (Appended n); writer = with_bytes w (take n xs) })).writer
  unfolding with_bytes
  appended-tally n xs true e d q = quiet q
  appended-tally n xs false e d q = stage-tally w.beginning.comparing (more_contents w.contents (take n xs)) m (none-due e d q)

  bytes-tally : (xs : List ℕ) (a f : Bool) → may_append w ≡ a → m ≡ ops + 0 → TallyOf m (pick a (pick f (appended w xs) (stays w Full)) (stays w Turn)).writer
  unfolding appended
  bytes-tally xs true true e q = appended-tally (accepted w.contents (length xs)) xs (is_due w.contents) e refl q
  bytes-tally xs true false e q = quiet q
  bytes-tally xs false f e q = quiet q

  shut-tally : (d : Bool) → may_append w ≡ true → is_due w.contents ≡ d → m ≡ ops + 0
      → Tally w.beginning.comparing (pick d w.stage (stage_of w.beginning.comparing (closed_contents w.contents))) w.contents.written m
  shut-tally true e d q = quiet q
  shut-tally false e d q = stage-tally w.beginning.comparing (closed_contents w.contents) m (none-due e d q)

  close-tally : (a : Bool) → (may_append w && not (is_open w.tables)) ≡ a → m ≡ ops + 0 → TallyOf m (pick a (did (with_closed w)) (stays w Turn)).writer
  unfolding with_closed
  close-tally true e q = shut-tally (is_due w.contents) (and_left (may_append w) (not (is_open w.tables)) e) refl q
  close-tally false e q = quiet q

  done-tally : m ≡ ops + length (ops_of w.tail w.stage) → TallyOf m (due_step region w).writer
  unfolding due_step
  done-tally q =
      rw (eq-eqb (length region) region_size l, r)
      (subst (λ (b : Beginning). Tally b.comparing (stage_after region w w.stage) (written_after region w w.stage) m) (sym (same-beginning region w w.stage))
      (step-tally region w ops m own.contents w.beginning.comparing w.stage own.stage refl h q))

  -- commit's two writes
  head-tally : (stamp : Option ℤ) (current : Bool) → may_commit w ≡ true → is_current w current ≡ true → is_fit (bank_for w stamp) (records_for w) ≡ true → m ≡ ops + 1 → TallyOf m (with_stage w HeaderWritten)
  head-tally stamp current a b f q =
      let i = is-idle w.stage (and_right w.contents.closed (is_idle w.stage) (and_right (in_range w) (w.contents.closed && is_idle w.stage) a)) in
      let c = not-true w.beginning.comparing (and_left (not w.beginning.comparing) current b) in
      let g = subst (λ (x : Bool). Tally x Idle w.contents.written ops) c (subst (λ (s : Stage). Tally w.beginning.comparing s w.contents.written ops) i h) in
      subst (λ (x : Bool). Tally x HeaderWritten w.contents.written m) (sym c) (omega (arith, g.0), fit_length w stamp f)

  commit-tally : (stamp : Option ℤ) (current : Bool) (x : Op) (a b f : Bool) → may_commit w ≡ a → is_current w current ≡ b → is_fit (bank_for w stamp) (records_for w) ≡ f
      → m ≡ ops + length (pick (a && (b && f)) (x ∷ []) [])
      → TallyOf m (pick a (pick b (pick f (did (with_stage w HeaderWritten)) (stays w Unfit)) (stays w Obsolete)) (stays w Turn)).writer
  commit-tally stamp current x true true true e g f q = head-tally stamp current e g f q
  commit-tally stamp current x true true false e g f q = quiet q
  commit-tally stamp current x true false z e g f q = quiet q
  commit-tally stamp current x false y z e g f q = quiet q

  word-tally : (x : Op) (b : Bool) → is_header_written w.stage ≡ b → m ≡ ops + length (pick b (x ∷ []) []) → TallyOf m (pick b (did (with_stage w Committed)) (stays w Turn)).writer
  word-tally x true e q =
      let i = is-header-written w.stage e in
      let c = (headed-end w.beginning.comparing w.contents (ap (stage_ok w.beginning.comparing w.contents) (sym i) ∙ own.stage)).writing in
      let g = subst (λ (x : Bool). Tally x HeaderWritten w.contents.written ops) c (subst (λ (s : Stage). Tally w.beginning.comparing s w.contents.written ops) i h) in
      subst (λ (x : Bool). Tally x Committed w.contents.written m) (sym c) (omega (arith, g.0), g.1)
  word-tally x false e q = quiet q

  commit-at : (stamp : Option ℤ) (current : Bool) → m ≡ ops + length (commit_ops region w stamp current) → TallyOf m (commit_step region w stamp current).writer
  unfolding commit_step commit_ops
  commit-at stamp current q =
      let e = eq-eqb (length region) region_size l in
      rw e
      (commit-tally stamp current (write 0 (header_bytes (bank_for w stamp) (records_for w) blank_word)) (may_commit w) (is_current w current) (is_fit (bank_for w stamp) (records_for w)) refl refl refl (rw e at q))

  word_at : m ≡ ops + length (word_ops region w) → TallyOf m (word_step region w).writer
  unfolding word_step word_ops
  word_at q =
      let e = eq-eqb (length region) region_size l in
      rw (e, r) (word-tally (write commit_offset commit_bytes) (is_header_written w.stage) refl (rw (e, r) at q))

  pub call-tally : (c : Lower) → m ≡ ops + length (lower_ops region w c) → TallyOf m (lower_step region w c).writer
  unfolding lower_step lower_ops
  call-tally (source s) q = unfold source_step in (source-tally s (may_append w && not (is_open w.tables)) (ltb w.tables.count 3) q)
  call-tally (table t) q = unfold table_step in (table-tally t (leb t 7) (may_append w && may_begin w.tables t) q)
  call-tally (bytes xs) q = unfold bytes_step in (bytes-tally xs (may_append w) (leb (w.contents.written + w.contents.fill + length xs) capacity) refl q)
  call-tally end q = unfold end_step in (end-tally (may_end w) q)
  call-tally close q = unfold close_step in (close-tally (may_append w && not (is_open w.tables)) refl q)
  call-tally due q = done-tally (q ∙ ap (λ (xs : List Op). ops + length xs) (ops-are region w l r))
  call-tally unchanged q = unfold unchanged_step in (unchanged-tally (eqb (length region) region_size) (may_ask w) (is_unchanged region w w.beginning.active) q)
  call-tally (commit stamp current) q = commit-at stamp current q
  call-tally word q = word_at q
