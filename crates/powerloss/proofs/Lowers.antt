-- Every lower call, answered or cut, and a beginning keep the invariant. By cases on the call; the commit word is its own case, since from
-- its last byte on load gives the new bank.
use mathlib.Core.Path.{◌≡◌, refl, sym}
use mathlib.Core.Bool.{Bool, true, false, false≢true}
use mathlib.Core.Logic.{inl}
use mathlib.Core.List.{List, [], ◌∷◌}
use Prim.Native.Nat.{ℕ, zero, suc, ◌<◌}
use native.Mathlib.Omega.{arith}
use borrow.Author.Tests.{eq-eqb, leb-true, leb-false}
use lib.Dec.{leb, lit<}
use lib.IntN.{ℤ}
use lib.ListN.{length}
use mir.Syntax.{w64}
use mir.Val.{SFits}
use Rattle.base.specs.Number.{pick}
use Rattle.leaf.proofs.Checksum.{crc32-nil}
use Rattle.refusal.specs.declared.Refusal.TheVariants.{Turn}
use Rattle.record.specs.declared.Source.{Source}
use Rattle.record.specs.Record.{no_source}
use Rattle.record.specs.Types.{All}
use Rattle.base.proofs.Lists.{length-fill}
use Rattle.region.specs.Region.{region_size}
use Rattle.header.specs.WriteHeader.{commit_bytes}
use Rattle.header.specs.Types.{Bytes, Proper}
use Rattle.header.proofs.WriteLaws.{length-commit-bytes}
use Rattle.bank.specs.Bank.{loaded}
use Rattle.flash.specs.Flash.{Op, write, torn, applied, performed}
use Rattle.flash.proofs.Laws.{torn-whole}
use Rattle.writer.specs.declared.Stage.TheVariants.{Committed}
use Rattle.writer.specs.declared.Answer.TheVariants.{Done, Appended, NoneDue, Same, Different}
use Rattle.writer.specs.declared.Writer.{Writer}
use Rattle.writer.specs.State.{is_due, target, active_ok, contents_ok, stage_ok, did, stays, tail_size}
use Rattle.lower.specs.Lower.{started, begun, answer_of}
use Rattle.due.specs.Due.{with_stage}
use Rattle.commit.specs.Commit.{is_header_written, word_step, word_ops}
use Rattle.run.specs.Run.{Lower, source, table, bytes, end, close, due, unchanged, commit, word, lower_step, lower_ops}
use Rattle.powerloss.specs.History.{Update, opened, with_appended, records_after, update_after, is_word, is_done, any_done, committed, after_lower, after_lower_cut, after_begin}
use Rattle.powerloss.specs.Machine.{cut_at, done_at, Image, Run, begin, image_after, on_call, on_cut, state_after, next}
use Rattle.powerloss.specs.Claim.{LowerTyped}
use Rattle.powerloss.proofs.Bytes.{bytes-fill}
use Rattle.powerloss.proofs.Cuts.{cut-none, cut_inside, cut-after, done_none, done-inside, done_at_end, done-after}
use Rattle.powerloss.proofs.Load.{active-ok, other-held, target_fits}
use Rattle.powerloss.proofs.Inv.{Kept, Mode, Open, State}
use Rattle.powerloss.proofs.Range.{range-of, tables-none}
use Rattle.powerloss.proofs.Quiet.{on-source, on-table, on-end, on-unchanged}
use Rattle.powerloss.proofs.AppendBytes.{on-bytes, on-close}
use Rattle.powerloss.proofs.Compared.{none-compared}
use Rattle.powerloss.proofs.Dues.{Carried, no-ops, on-due}
use Rattle.powerloss.proofs.Keeps.{is-header-written}
use Rattle.powerloss.proofs.Commits.{on-commit, word_kept, word-torn, word-open}
use Rattle.header.specs.Header.{max_sources, commit_offset}
use Rattle.std.specs.Prelude.{Ok, Err, Result, Some, None, Option}
use Rattle.refusal.specs.declared.Refusal.{Refusal}
use Rattle.header.specs.declared.Bank.{Bank}
use Rattle.writer.specs.declared.Answer.{Answer}

-- a lower call that isn't the commit word
abbrev pub Plain : Lower → Type 0
Plain word = ⊥
Plain (source s) = Proper s
Plain (bytes xs) = Bytes xs
Plain (commit stamp current) = LowerTyped (commit stamp current)
Plain (table t) = Unit {0}
Plain end = Unit {0}
Plain close = Unit {0}
Plain due = Unit {0}
Plain unchanged = Unit {0}

module _ (region : List ℕ) (hd : Result (Option Bank) Refusal) (rs : List Source) (im : Image) (w : Writer) (u : Update) (k : Kept region hd rs im) (o : Open region hd w u) where
  pub plain-call : (c : Lower) → Plain c
      → Carried (lower_ops region w c) (target w.beginning.active) region hd rs im (lower_step region w c).writer (update_after c (lower_step region w c).answer u)
  unfolding lower_ops lower_step
  plain-call (source s) p = no-ops (target w.beginning.active) region hd rs im _ _ k (on-source region hd w u o s p)
  plain-call (table t) p = no-ops (target w.beginning.active) region hd rs im _ _ k (on-table region hd w u o t)
  plain-call (bytes xs) p = no-ops (target w.beginning.active) region hd rs im _ _ k (on-bytes region hd w u o xs p)
  plain-call end p = no-ops (target w.beginning.active) region hd rs im _ _ k (on-end region hd w u o)
  plain-call close p = no-ops (target w.beginning.active) region hd rs im _ _ k (on-close region hd w u o)
  plain-call due p = on-due region hd rs im w u k o
  plain-call unchanged p = no-ops (target w.beginning.active) region hd rs im _ _ k (on-unchanged region hd w u o)
  plain-call (commit stamp current) p = on-commit region hd rs im w u k o stamp current p
  plain-call word p = absurd p

-- what holds of the board and the history
pub record Inv (r : Run) : Type 0 where
  pub kept : Kept r.region r.history.held r.history.records r.image
  pub open· : State r.region r.history.held r.state r.history.open·

abbrev pub mk : List ℕ → Option Writer → Result (Option Bank) Refusal → List Source → Option Update → Image → Run
mk region s hd rs v im = record { region = region; state = s; history = record { held = hd; records = rs; open· = v }; image = im }

module _ (region : List ℕ) (hd : Result (Option Bank) Refusal) (rs : List Source) (im : Image) (w : Writer) (u : Update) (k : Kept region hd rs im) (o : Open region hd w u) where
  abbrev here : Run
  here = mk region (Some w) hd rs (Some u) im

  plain-inv : (c : Lower) → is_word c ≡ false → Plain c → Inv (on_call c here (Some w))
  unfolding on_call after_lower committed image_after
  plain-inv c e p =
      let z = plain-call region hd rs im w u k o c p in
      rw e (record { kept = z.whole; open· = z.open· })

  plain-cut : (c : Lower) (i j : ℕ) → is_word c ≡ false → Plain c → Inv (on_cut c i j here (Some w))
  unfolding on_cut after_lower_cut committed image_after
  plain-cut c i j e p =
      let z = plain-call region hd rs im w u k o c p in
      rw e (record { kept = z.cut i j; open· = tt })

  -- the commit word
  word-by : (b : Bool) → is_header_written w.stage ≡ b
      → Inv (record {
        region = performed (target w.beginning.active) (pick b (write commit_offset commit_bytes ∷ []) []) region;
        state = Some (pick b (did (with_stage w Committed)) (stays w Turn)).writer;
        history = after_lower word (pick b (did (with_stage w Committed)) (stays w Turn)).answer (record { held = hd; records = rs; open· = Some u }) (Some u);
        image = image_after true (is_done (pick b (did (with_stage w Committed)) (stays w Turn)).answer) (Some u) (performed (target w.beginning.active) (pick b (write commit_offset commit_bytes ∷ []) []) region) im;
      })
  unfolding performed after_lower committed image_after update_after
  word-by true e =
      let h = is-header-written w.stage e in
      record { kept = word_kept region hd rs im w u k o h; open· = word-open region hd rs im w u k o h }
  word-by false e = record { kept = k; open· = o }

  word-inv : Inv (on_call word here (Some w))
  unfolding on_call lower_step lower_ops word_step word_ops
  word-inv = rw (eq-eqb (length region) region_size k.size, o.tied.range) (word-by (is_header_written w.stage) refl)

  -- the commit word's call, cut: what its operations leave of the region, and how many of them are done
  abbrev word-left : List ℕ → ℕ → Run
  word-left left number =
      record {
        region = left;
        state = None;
        history = after_lower_cut word number (record { held = hd; records = rs; open· = Some u }) (Some u);
        image = image_after true (any_done number) (Some u) left im;
      }

  abbrev bank : ℕ
  bank = target w.beginning.active

  abbrev word_write : Op
  word_write = write commit_offset commit_bytes

  -- with the word written the update is committed, without it nothing has changed for load
  left-written : is_header_written w.stage ≡ true → Inv (word-left (applied bank word_write region) 1)
  unfolding after_lower_cut committed image_after
  left-written e = record { kept = word_kept region hd rs im w u k o (is-header-written w.stage e); open· = tt }

  left-torn : (j : ℕ) → j < length commit_bytes → is_header_written w.stage ≡ true → Inv (word-left (torn bank j word_write region) 0)
  unfolding after_lower_cut committed image_after
  left-torn j l e = record { kept = word-torn region hd rs im w u k o (is-header-written w.stage e) j (omega (arith, length-commit-bytes)); open· = tt }

  left-none : Inv (word-left region 0)
  unfolding after_lower_cut committed image_after
  left-none = record { kept = k; open· = tt }

  -- cut inside its write: it is done once all its bytes are
  torn-by : (j : ℕ) (d : Bool) → leb (length commit_bytes) j ≡ d → is_header_written w.stage ≡ true
      → Inv (word-left (cut_at bank zero j (word_write ∷ []) region) (done_at zero j (word_write ∷ [])))
  torn-by j true f e =
      let l = leb-true (length commit_bytes) j f in
      let a = w.beginning.active in
      rw (cut_inside bank word_write [] region j, done_at_end word_write [] j l, torn-whole region bank k.size (target_fits a) j word_write l) (left-written e)
  torn-by j false f e =
      let l = leb-false (length commit_bytes) j f in
      rw (cut_inside bank word_write [] region j, done-inside word_write [] j l) (left-torn j l e)

  cut_by : (b : Bool) (i j : ℕ) → is_header_written w.stage ≡ b
      → Inv (word-left (cut_at bank i j (pick b (word_write ∷ []) []) region) (done_at i j (pick b (word_write ∷ []) [])))
  cut_by true zero j e = torn-by j (leb (length commit_bytes) j) refl e
  cut_by true (suc i) j e =
      rw (cut-after bank word_write [] region i j, cut-none bank i j (applied bank word_write region), done-after word_write [] i j, done_none i j) (left-written e)
  cut_by false i j e = rw (cut-none bank i j region, done_none i j) left-none

  word_cut : (i j : ℕ) → Inv (on_cut word i j here (Some w))
  unfolding on_cut lower_ops word_ops
  word_cut i j = rw (eq-eqb (length region) region_size k.size, o.tied.range) (cut_by (is_header_written w.stage) i j refl)

  inv-lower : (c : Lower) → LowerTyped c → Inv (on_call c here (Some w))
  inv-lower (source s) p = plain-inv (source s) refl p
  inv-lower (table t) p = plain-inv (table t) refl p
  inv-lower (bytes xs) p = plain-inv (bytes xs) refl p
  inv-lower end p = plain-inv end refl p
  inv-lower close p = plain-inv close refl p
  inv-lower due p = plain-inv due refl p
  inv-lower unchanged p = plain-inv unchanged refl p
  inv-lower (commit stamp current) p = plain-inv (commit stamp current) refl p
  inv-lower word p = word-inv

  inv-lower-cut : (c : Lower) (i j : ℕ) → LowerTyped c → Inv (on_cut c i j here (Some w))
  inv-lower-cut (source s) i j p = plain-cut (source s) i j refl p
  inv-lower-cut (table t) i j p = plain-cut (table t) i j refl p
  inv-lower-cut (bytes xs) i j p = plain-cut (bytes xs) i j refl p
  inv-lower-cut end i j p = plain-cut end i j refl p
  inv-lower-cut close i j p = plain-cut close i j refl p
  inv-lower-cut due i j p = plain-cut due i j refl p
  inv-lower-cut unchanged i j p = plain-cut unchanged i j refl p
  inv-lower-cut (commit stamp current) i j p = plain-cut (commit stamp current) i j refl p
  inv-lower-cut word i j p = word_cut i j

-- with a state or without
pub inv-call : (c : Lower) (region : List ℕ) (s : Option Writer) (hd : Result (Option Bank) Refusal) (rs : List Source) (v : Option Update) (im : Image) → LowerTyped c → Inv (mk region s hd rs v im) → Inv (on_call c (mk region s hd rs v im) s)
inv-call c region None hd rs v im p h = unfold on_call in h
inv-call c region (Some w) hd rs None im p h = absurd h.open·
inv-call c region (Some w) hd rs (Some u) im p h = inv-lower region hd rs im w u h.kept h.open· c p

pub inv-cut : (c : Lower) (i j : ℕ) (region : List ℕ) (s : Option Writer) (hd : Result (Option Bank) Refusal) (rs : List Source) (v : Option Update) (im : Image) → LowerTyped c → Inv (mk region s hd rs v im) → Inv (on_cut c i j (mk region s hd rs v im) s)
inv-cut c i j region None hd rs v im p h = unfold on_cut in h
inv-cut c i j region (Some w) hd rs None im p h = absurd h.open·
inv-cut c i j region (Some w) hd rs (Some u) im p h = inv-lower-cut region hd rs im w u h.kept h.open· c i j p

-- ---- a beginning

begin-mode : (c : Bool) (region : List ℕ) (hd : Result (Option Bank) Refusal) (now : ℤ) → length region ≡ region_size → loaded region ≡ hd
    → Mode c (started hd c now).stage region hd (started hd c now).beginning.active (started hd c now).contents (started hd c now).tail (with_appended [] (opened hd now))
unfolding started opened
begin-mode true region hd now l e = (refl, record { front = []; count = refl; all = refl; told = none-compared region hd })
begin-mode false region hd now l e = (record { active = refl; other = other-held region hd l e }, inl (record { written = refl; all = refl }))

begin-open : (region : List ℕ) (hd : Result (Option Bank) Refusal) (c : Bool) (now : ℤ) → SFits w64 now → length region ≡ region_size → loaded region ≡ hd → active_ok hd ≡ true
    → Open region hd (started hd c now) (with_appended [] (opened hd now))
unfolding started opened contents_ok stage_ok is_due records_after All
begin-open region hd c now f l e ok =
    record {
      tied =
          record {
            range = range-of (started hd c now) ok refl (tables-none 0 (started hd c now).tables (omega arith) refl) refl;
            began = record { number = refl; generation = refl; now = refl; fits = f };
            counted = record { length· = refl; crc = sym (crc32-nil 0 (lit< tt)) };
            noted =
                record {
                  records = λ ys. refl;
                  proper = tt;
                  sources = length-fill no_source max_sources;
                  table = λ g. absurd (false≢true g);
                };
            tailed = record { length· = length-fill {A = ℕ} 0 tail_size; bytes = bytes-fill 0 tail_size (omega arith) };
            ended = λ c. refl;
          };
      mode = begin-mode c region hd now l e;
    }

-- the new state, if the beginning is answered
pub begun-open : (region : List ℕ) (hd : Result (Option Bank) Refusal) (rs : List Source) (im : Image) (c : Bool) (now : ℤ) → SFits w64 now → Kept region hd rs im → answer_of hd ≡ Ok Done
    → Open region hd (started hd c now) (with_appended [] (opened hd now))
begun-open region hd rs im c now f k d = begin-open region hd c now f k.size k.loads (active-ok region hd k.size k.loads)

begin-by : (c : Bool) (now : ℤ) (region : List ℕ) (s : Option Writer) (hd : Result (Option Bank) Refusal) (rs : List Source) (v : Option Update) (im : Image) → SFits w64 now → Inv (mk region s hd rs v im) → (x : Result Answer Refusal) → answer_of hd ≡ x
    → Inv (record {
      region = region;
      state = state_after x (started hd c now) s;
      history = after_begin now [] x (record { held = hd; records = rs; open· = v });
      image = im;
    })
unfolding after_begin
begin-by c now region s hd rs v im f h (Ok Done) e = record { kept = h.kept; open· = begun-open region hd rs im c now f h.kept e }
begin-by c now region s hd rs v im f h (Ok (Appended n)) e = h
begin-by c now region s hd rs v im f h (Ok NoneDue) e = h
begin-by c now region s hd rs v im f h (Ok Same) e = h
begin-by c now region s hd rs v im f h (Ok Different) e = h
begin-by c now region s hd rs v im f h (Err r) e = h

pub inv-begin : (c : Bool) (now : ℤ) (region : List ℕ) (s : Option Writer) (hd : Result (Option Bank) Refusal) (rs : List Source) (v : Option Update) (im : Image) → SFits w64 now → Inv (mk region s hd rs v im)
    → Inv (next (mk region s hd rs v im) (begin c now))
unfolding next begun
inv-begin c now region s hd rs v im f h = rw h.kept.loads (begin-by c now region s hd rs v im f h (answer_of hd) refl)
