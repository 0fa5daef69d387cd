-- Both calls of a commit keep the invariant, whole or cut after any of their bytes. The header's write leaves byte 47 at 255, and so do
-- fewer than four bytes of the commit word: the bank meets 3 until the word's last byte is written. Then the new bank passes and is newer,
-- so load gives it.
use mathlib.Core.Path.{◌≡◌, refl, sym, ap, ◌∙◌, subst}
use mathlib.Core.Bool.{Bool, true, false, not, ◌&&◌, false≢true}
use mathlib.Core.Logic.{◌⊎◌, inl, inr}
use mathlib.Core.List.{List, [], ◌∷◌, ◌++◌, append-nil}
use Prim.Native.Nat.{ℕ, ◌-◌, ◌^◌, ◌≤◌, ◌<◌}
use native.Mathlib.Omega.{arith}
use borrow.Author.Tests.{eq-eqb, leb-true, not-true}
use lib.Dec.{leb, lit<}
use lib.IntN.{ℤ, pos}
use lib.ListN.{length, get_or}
use lib.Seq.{get_or-take, length-take-le}
use lib.Signed.{le_z}
use mir.Syntax.{w64}
use mir.Val.{SFits}
use Rattle.base.specs.Number.{pick}
use Rattle.leaf.specs.Crc.{crc32}
use Rattle.leaf.specs.Generation.{next}
use Rattle.leaf.proofs.Checksum.{crc32-lt}
use Rattle.refusal.specs.declared.Refusal.TheVariants.{Turn, Obsolete, Unfit}
use Rattle.record.specs.declared.Source.{Source}
use Rattle.record.specs.Record.{no_block}
use Rattle.base.specs.Lists.{fill, each, byte}
use Rattle.record.specs.Types.{All}
use Rattle.header.specs.declared.Bank.{Bank}
use Rattle.region.specs.Region.{region_size, bank_of, data_of, sector_size}
use Rattle.header.specs.Header as Header
use Rattle.header.specs.Header.{header_of, span_ok, source_ok, length_ok, key_ok, count_ok, commit_offset}
use Rattle.header.proofs.Laws.{span-length, span_key}
use Rattle.base.proofs.Bools.{and_left, and_right}
use Rattle.header.specs.WriteHeader.{header_bytes, blank_word, commit_bytes, is_fit}
use Rattle.header.specs.Types.{Proper, Numbers}
use Rattle.header.proofs.Writing.{judge-is}
use Rattle.header.proofs.WriteLaws.{fit-passes, fit_count, committed, records-are, unmarked, byte-47}
use Rattle.bank.specs.Bank.{validated, data_ok, generation, or_else, loaded}
use Rattle.flash.specs.Flash.{write, done, torn, applied}
use Rattle.flash.proofs.Laws.{length-bank, length-applied, write-past}
use Rattle.writer.specs.declared.Stage.TheVariants.{Idle, HeaderWritten, Committed}
use Rattle.writer.specs.declared.Writer.{Writer}
use Rattle.writer.specs.State.{position, target, next_generation, key_length, in_range, active_ok, did, stays}
use Rattle.writer.proofs.Laws.{Ranged, ranged, position-fits, count_fits}
use Rattle.lower.specs.Lower.{past_end}
use Rattle.due.specs.Due.{with_stage}
use Rattle.commit.specs.Commit.{checked_time, routes_offset, bank_for, records_for, is_idle, may_commit, is_current, commit_step, commit_ops}
use Rattle.run.specs.Run.{commit}
use Rattle.powerloss.specs.History.{Update, bank_of as bank_from, records_of, records_after, checks, update_after}
use Rattle.powerloss.specs.Machine.{Image}
use Rattle.powerloss.specs.Claim.{StampTyped}
use Rattle.powerloss.proofs.Load.{target_fits, then-valid, valid-generation, load-new}
use Rattle.powerloss.proofs.Inv.{Small, Kept, Bare, Laid, Mode, Open}
use Rattle.powerloss.proofs.Laid.{head-unmarked, header-write, word_write, header-data}
use Rattle.powerloss.proofs.Keeps.{is-idle, keeps-stage}
use Rattle.powerloss.proofs.Range.{AtEnd, idle-due, closed-empty, headed-of, headed-end, committed-of}
use Rattle.powerloss.proofs.Dues.{Carried, no-ops, one-op, kept-unmarked-at, live_at, bank-at, seen, stage_is}
use Rattle.std.specs.Prelude.{Ok, Err, Some, None, Result, Option}
use Rattle.refusal.specs.declared.Refusal.{Refusal}

pub next_small : (a : Result (Option Bank) Refusal) → next_generation a < 2 ^ 32
unfolding next_generation next
next_small (Ok (Some b)) = omega arith
next_small (Ok None) = lit< tt
next_small (Err r) = lit< tt

fits_by : (t : Bool) (s now : ℤ) → SFits w64 s → SFits w64 now → SFits w64 (pick t s now)
fits_by true s now f g = f
fits_by false s now f g = g

checked-fits : (stamp : Option ℤ) (now : ℤ) → StampTyped stamp → SFits w64 now → SFits w64 (checked_time stamp now)
checked-fits (Some s) now f g = fits_by (le_z now s) s now f g
checked-fits None now f g = g

fit-span : (b : Bank) (ss : List Source) → is_fit b ss ≡ true → span_ok b ≡ true
fit-span b ss f = and_left (span_ok b) (each (source_ok b) ss) (sym (judge-is b ss) ∙ fit-passes b ss f)

pub span-some : (b : Bank) → span_ok b ≡ true → 1 ≤ b.count
unfolding span_ok
span-some b e =
    let t = le_z (pos 0) b.checked in
    let r = and_right (key_ok b) (count_ok b && t) (and_right (length_ok b) (key_ok b && (count_ok b && t)) e) in
    leb-true 1 b.count (and_left (leb 1 b.count) (leb b.count 3) (and_left (count_ok b) t r))

-- the records that the history gives are the writer's
module _ (region : List ℕ) (hd : Result (Option Bank) Refusal) (w : Writer) (u : Update) (o : Open region hd w u) where
  own : Ranged w
  own = ranged w o.tied.range

  pub records_is : records_of u ≡ records_for w
  records_is = ap (λ (x : List ℕ). records_after x [] 0 0 u.notes) (sym (append-nil u.data·)) ∙ o.tied.noted.records []

  pub length-records : length (records_for w) ≡ w.tables.count
  length-records = length-take-le w.tables.count w.sources (omega (arith, o.tied.noted.sources, count_fits (position w.contents) w.tables own.tables))

  pub routes-is : 1 ≤ w.tables.count → routes_offset (records_for w) ≡ routes_offset w.sources
  routes-is h = ap (λ (s : Source). (get_or s.tables 0 no_block).offset) (get_or-take w.tables.count w.sources 0 past_end (omega arith))

  module _ (stamp : Option ℤ) (z : w.contents.fill ≡ 0) (c : 1 ≤ w.tables.count) where
    -- the bank that the history holds then is the one that is written
    pub bank-is : bank_from (checks (checked_time stamp u.now) u) ≡ bank_for w stamp
    unfolding bank_from bank_for
    bank-is =
        let n : length u.data· ≡ w.contents.written = o.tied.counted.length· ∙ omega arith in
        let cn : length (records_of u) ≡ w.tables.count = ap length records_is ∙ length-records in
        let ky : key_length (routes_offset (records_of u)) ≡ key_length (routes_offset w.sources) = ap (λ (ss : List Source). key_length (routes_offset ss)) records_is ∙ ap key_length (routes-is c) in
        λ i. record {
          number = o.tied.began.number i;
          version = 3;
          generation = o.tied.began.generation i;
          length = n i;
          crc = sym o.tied.counted.crc i;
          count = cn i;
          key = ky i;
          checked = checked_time stamp (o.tied.began.now i);
        }

  pub numbers_of : (stamp : Option ℤ) → StampTyped stamp → is_fit (bank_for w stamp) (records_for w) ≡ true → Numbers (bank_for w stamp)
  unfolding bank_for
  numbers_of stamp ty f =
      let sp = fit-span (bank_for w stamp) (records_for w) f in
      let p = position-fits w.contents own.contents in
      let q = span_key (bank_for w stamp) sp in
      let n = count_fits (position w.contents) w.tables own.tables in
      record {
        version = lit< tt;
        generation = next_small w.beginning.active;
        length = omega arith;
        crc = subst (λ (x : ℕ). x < 2 ^ 32) (sym o.tied.counted.crc) (crc32-lt 0 u.data·);
        count = omega arith;
        key = omega arith;
        checked = checked-fits stamp w.beginning.now ty o.tied.began.fits;
      }

pub fit_length : (w : Writer) (stamp : Option ℤ) → is_fit (bank_for w stamp) (records_for w) ≡ true → 1 ≤ w.contents.written
unfolding bank_for
fit_length w stamp f = (span-length (bank_for w stamp) (fit-span (bank_for w stamp) (records_for w) f)).0

fit-sources : (w : Writer) (stamp : Option ℤ) → is_fit (bank_for w stamp) (records_for w) ≡ true → 1 ≤ w.tables.count
unfolding bank_for
fit-sources w stamp f = span-some (bank_for w stamp) (fit-span (bank_for w stamp) (records_for w) f)

laid-only : (wr fl : ℕ) (tail d b : List ℕ) → 1 ≤ wr → Bare wr fl tail d ⊎ (Laid 0 sector_size wr fl tail d b × (0 < wr)) → Laid 0 sector_size wr fl tail d b
laid-only wr fl tail d b n (inl f) = absurd (omega (arith, f.written))
laid-only wr fl tail d b n (inr h) = h.0

-- ---- the first call

module _ (region : List ℕ) (hd : Result (Option Bank) Refusal) (rs : List Source) (im : Image) (w : Writer) (u : Update) (k : Kept region hd rs im) (o : Open region hd w u) where
  module _ (stamp : Option ℤ) (current : Bool) (ty : StampTyped stamp) where
    write-head : may_commit w ≡ true → is_current w current ≡ true → is_fit (bank_for w stamp) (records_for w) ≡ true
        → Carried (write 0 (header_bytes (bank_for w stamp) (records_for w) blank_word) ∷ []) (target w.beginning.active) region hd rs im (with_stage w HeaderWritten) (checks (checked_time stamp u.now) u)
    write-head e g f =
        let t = w.contents in
        let a = w.beginning.active in
        let bk = bank_for w stamp in
        let ss = records_for w in
        let hw = header_bytes bk ss blank_word in
        let op = write 0 hw in
        let b = bank_of region (target a) in
        let u' = checks (checked_time stamp u.now) u in
        let ci = and_right (in_range w) (t.closed && is_idle w.stage) e in
        let cl = and_left t.closed (is_idle w.stage) ci in
        let id = is-idle w.stage (and_right t.closed (is_idle w.stage) ci) in
        let wr = not-true w.beginning.comparing (and_left (not w.beginning.comparing) current g) in
        let z = closed-empty t cl (idle-due w.beginning.comparing t (stage_is region hd rs im w u k o Idle id)) in
        let m = seen region hd rs im w u k o false Idle wr id in
        let ps = o.tied.noted.proper in
        let n3 = count_fits (position t) w.tables (own region hd w u o).tables in
        let ln : length ss ≤ 3 = omega (arith, length-records region hd w u o) in
        let h = laid-only t.written t.fill w.tail u.data· b (fit_length w stamp f) m.1 in
        let hl = header-write bk ss ps ln t w.tail u.data· b h z in
        let bi = bank-is region hd w u o stamp z (fit-sources w stamp f) in
        let ri = records_is region hd w u o in
        let r' = applied (target a) op region in
        one-op (target a) region hd rs im (with_stage w HeaderWritten) u' k op
        (λ j. kept-unmarked-at region hd a rs im k m.0 op j (head-unmarked 0 sector_size t.written t.fill w.tail u.data· b h j bk ss))
        (record {
          tied =
              record {
                range = keeps-stage w o.tied.range HeaderWritten (headed-of w.beginning.comparing t wr cl z);
                began = o.tied.began;
                counted = o.tied.counted;
                noted = o.tied.noted;
                tailed = o.tied.tailed;
                ended = o.tied.ended;
              };
          mode =
              subst (λ (x : Bool). Mode x HeaderWritten r' hd a t w.tail u') (sym wr) (
                live_at region hd a rs im k m.0 op,
                record {
                  rest = hl.0;
                  lies =
                      bank-at region hd a rs im k m.0 op ∙ hl.1 ∙ (λ i. header_bytes (sym bi i) (sym ri i) blank_word ++ (fill 255 2896 ++ (u.data· ++ hl.0)));
                  fit = (λ i. is_fit (bi i) (ri i)) ∙ f;
                  numbers = subst Numbers (sym bi) (numbers_of region hd w u o stamp ty f);
                  proper = subst (All Proper) (sym ri) ps;
                },
              );
        })

    commit-by : (b c d : Bool) → may_commit w ≡ b → is_current w current ≡ c → is_fit (bank_for w stamp) (records_for w) ≡ d
        → Carried (pick (b && (c && d)) (write 0 (header_bytes (bank_for w stamp) (records_for w) blank_word) ∷ []) []) (target w.beginning.active) region hd rs im
        (pick b (pick c (pick d (did (with_stage w HeaderWritten)) (stays w Unfit)) (stays w Obsolete)) (stays w Turn)).writer
        (update_after (commit stamp current) (pick b (pick c (pick d (did (with_stage w HeaderWritten)) (stays w Unfit)) (stays w Obsolete)) (stays w Turn)).answer u)
    unfolding update_after
    commit-by true true true e g f = write-head e g f
    commit-by true true false e g f = no-ops (target w.beginning.active) region hd rs im w u k o
    commit-by true false d e g f = no-ops (target w.beginning.active) region hd rs im w u k o
    commit-by false c d e g f = no-ops (target w.beginning.active) region hd rs im w u k o

    pub on-commit : Carried (commit_ops region w stamp current) (target w.beginning.active) region hd rs im (commit_step region w stamp current).writer
        (update_after (commit stamp current) (commit_step region w stamp current).answer u)
    unfolding commit_ops commit_step
    on-commit =
        rw (eq-eqb (length region) region_size k.size)
        (commit-by (may_commit w) (is_current w current) (is_fit (bank_for w stamp) (records_for w)) refl refl refl)

-- ---- the commit word

abbrev pub held_new : Update → Result (Option Bank) Refusal
held_new u = Ok (Some (bank_from u))

abbrev pub image_new : List ℕ → Update → Image
image_new region u = record { bank = bank_of region u.number; given = Some u.data· }

abbrev bank_or : Bank → Result (Option Bank) Refusal → Bank
bank_or d (Ok (Some b)) = b
bank_or d (Ok None) = d
bank_or d (Err r) = d

abbrev is_found : Result (Option Bank) Refusal → Bool
is_found (Ok (Some b)) = true
is_found (Ok None) = false
is_found (Err r) = false

-- the new generation is the next after the other bank's, or the other bank fails
good_of : (v : Result Bank Refusal) (b : Bank) → or_else v (Ok None) ≡ Ok (Some b) → v ≡ Ok b
good_of (Ok c) b e = ap (λ (x : Result (Option Bank) Refusal). Ok (bank_or b x)) e
good_of (Err r) b e = absurd (false≢true (ap is_found e))

follows : (region : List ℕ) (a : Result (Option Bank) Refusal) → length region ≡ region_size → active_ok a ≡ true → Small a → or_else (validated region (1 - target a)) (Ok None) ≡ a
    → generation region (target a) ≡ next_generation a
    → (or_else (validated region (1 - target a)) (Ok None) ≡ Ok None) ⊎ ((generation region (1 - target a) < 2 ^ 32) × (generation region (target a) ≡ next (generation region (1 - target a))))
unfolding next_generation active_ok
follows region (Ok (Some b)) l ok s e g =
    let f : 1 - target (Ok (Some b)) ≤ 1 = omega (arith, target_fits (Ok (Some b))) in
    let q = valid-generation region (1 - target (Ok (Some b))) b l f (good_of (validated region (1 - target (Ok (Some b)))) b e) in
    inr (subst (λ (x : ℕ). x < 2 ^ 32) q s, g ∙ ap next q)
follows region (Ok None) l ok s e g = inl e
follows region (Err r) l ok s e g = absurd (false≢true ok)

module _ (region : List ℕ) (hd : Result (Option Bank) Refusal) (rs : List Source) (im : Image) (w : Writer) (u : Update) (k : Kept region hd rs im) (o : Open region hd w u) where
  -- what the word's write leaves
  module _ (e : w.stage ≡ HeaderWritten) where
    ended : AtEnd w.beginning.comparing w.contents
    ended = headed-end w.beginning.comparing w.contents (stage_is region hd rs im w u k o HeaderWritten e)

    place : Mode false HeaderWritten region hd w.beginning.active w.contents w.tail u
    place = seen region hd rs im w u k o false HeaderWritten ended.writing e

    n : ℕ
    n = target w.beginning.active

    r' : List ℕ
    r' = applied (target w.beginning.active) (write commit_offset commit_bytes) region

    rest : List ℕ
    rest = fill 255 2896 ++ (u.data· ++ place.1.rest)

    length-new : length r' ≡ region_size
    unfolding r'
    length-new = length-applied region (target w.beginning.active) k.size (target_fits w.beginning.active) (write commit_offset commit_bytes)

    few : length (records_of u) ≤ 3
    unfolding bank_from
    few = fit_count (bank_from u) (records_of u) place.1.fit

    bank-new : bank_of r' n ≡ header_bytes (bank_from u) (records_of u) commit_bytes ++ rest
    unfolding r' n rest
    bank-new =
        bank-at region hd w.beginning.active rs im k place.0 (write commit_offset commit_bytes)
        ∙ ap (λ (x : List ℕ). done (length commit_bytes) (write commit_offset commit_bytes) x) place.1.lies
        ∙ word_write (bank_from u) (records_of u) place.1.proper few (fill 255 2896 ++ (u.data· ++ place.1.rest))

    number_is : (bank_from u).number ≡ n
    unfolding bank_from n
    number_is = o.tied.began.number

    header-new : header_of n (bank_of r' n) ≡ Ok (bank_from u)
    unfolding bank_from
    header-new =
        ap (header_of n) bank-new
        ∙ ap (λ (x : ℕ). header_of x (header_bytes (bank_from u) (records_of u) commit_bytes ++ rest)) (sym number_is)
        ∙ committed (bank_from u) (records_of u) rest refl place.1.numbers place.1.proper refl place.1.fit

    data-new : data_of (bank_of r' n) (length u.data·) ≡ u.data·
    unfolding rest
    data-new = ap (λ (x : List ℕ). data_of x (length u.data·)) bank-new ∙ header-data (bank_from u) (records_of u) place.1.proper few u.data· place.1.rest

    bank-number : bank_of r' u.number ≡ bank_of r' n
    unfolding n
    bank-number = ap (bank_of r') o.tied.began.number

    data-ok : data_ok r' (bank_from u) ≡ true
    unfolding data_ok bank_from
    data-ok =
        eq-eqb (crc32 0 (data_of (bank_of r' u.number) (length u.data·))) (crc32 0 u.data·)
        (ap (crc32 0) (ap (λ (x : List ℕ). data_of x (length u.data·)) bank-number ∙ data-new))

    n-fits : n ≤ 1
    unfolding n
    n-fits = target_fits w.beginning.active

    valid-new : validated r' n ≡ Ok (bank_from u)
    valid-new = then-valid r' n (bank_from u) length-new n-fits header-new data-ok

    generation-new : generation r' n ≡ next_generation w.beginning.active
    unfolding bank_from
    generation-new = sym (valid-generation r' n (bank_from u) length-new n-fits valid-new) ∙ o.tied.began.generation

    small-active : Small w.beginning.active
    small-active = subst Small (sym place.0.active) k.small

    other-new : or_else (validated r' (1 - target w.beginning.active)) (Ok None) ≡ w.beginning.active
    unfolding r'
    other-new =
        let v = live_at region hd w.beginning.active rs im k place.0 (write commit_offset commit_bytes) in
        subst (λ (x : Result (Option Bank) Refusal). or_else (validated (applied (target w.beginning.active) (write commit_offset commit_bytes) region) (1 - target x)) (Ok None) ≡ x) (sym place.0.active) v.other

    loads-new : loaded r' ≡ Ok (Some (bank_from u))
    unfolding n
    loads-new =
        load-new r' n (bank_from u) length-new n-fits valid-new
        (follows r' w.beginning.active length-new (ranged w o.tied.range).active small-active other-new generation-new)

    records-new : Header.records_of 3 (bank_of r' u.number) (length (records_of u)) ≡ records_of u
    unfolding bank_from
    records-new =
        ap (λ (x : List ℕ). Header.records_of 3 x (length (records_of u))) (bank-number ∙ bank-new)
        ∙ records-are (bank_from u) (records_of u) refl place.1.numbers place.1.proper few rest

    pub word_kept : Kept (applied (target w.beginning.active) (write commit_offset commit_bytes) region) (held_new u) (records_of u) (image_new (applied (target w.beginning.active) (write commit_offset commit_bytes) region) u)
    unfolding bank_from r'
    word_kept =
        record {
          size = length-new;
          loads = loads-new;
          records = records-new;
          image = refl;
          given = ap (λ (x : List ℕ). data_of x (length u.data·)) bank-number ∙ data-new;
          small = subst (λ (x : ℕ). x < 2 ^ 32) (sym o.tied.began.generation) (next_small w.beginning.active);
        }

    -- the word's write cut before its last byte: byte 47 is still 255
    pub word-torn : (j : ℕ) → j < 4 → Kept (torn (target w.beginning.active) j (write commit_offset commit_bytes) region) hd rs im
    word-torn j l =
        let a = w.beginning.active in
        let b = bank_of region (target a) in
        let lb = length-bank region (target a) k.size (target_fits a) in
        let e : byte b 47 ≡ 255 =
        ap (λ (x : List ℕ). byte x 47) place.1.lies ∙ byte-47 (bank_from u) (records_of u) (fill 255 2896 ++ (u.data· ++ place.1.rest)) in
        kept-unmarked-at region hd a rs im k place.0 (write commit_offset commit_bytes) j
        (unmarked (done j (write commit_offset commit_bytes) b) (write-past j 44 3 commit_bytes b (omega arith) (inl (omega arith)) ∙ e))

    pub word-open : Open (applied (target w.beginning.active) (write commit_offset commit_bytes) region) (held_new u) (with_stage w Committed) u
    word-open =
        record {
          tied =
              record {
                range =
                    keeps-stage w o.tied.range Committed
                    (committed-of w.beginning.comparing w.contents (stage_is region hd rs im w u k o HeaderWritten e));
                began = o.tied.began;
                counted = o.tied.counted;
                noted = o.tied.noted;
                tailed = o.tied.tailed;
                ended = o.tied.ended;
              };
          mode =
              subst (λ (x : Bool). Mode x Committed (applied (target w.beginning.active) (write commit_offset commit_bytes) region) (held_new u) w.beginning.active w.contents w.tail u)
              (sym ended.writing) (tt, tt);
        }
