-- The due call keeps the invariant, whole or cut after any of its bytes. The header sector's erase isn't begun or has made byte 0 255, and
-- the other operations are after that byte: the magic is gone, the bank meets 3, and load gives the other one.
use mathlib.Core.Path.{◌≡◌, refl, sym, ap, ◌∙◌, subst}
use mathlib.Core.Bool.{Bool, true, false, ◌||◌, false≢true}
use mathlib.Core.Logic.{◌⊎◌, inl, inr}
use mathlib.Core.List.{List, [], ◌∷◌}
use Prim.Native.Nat.{ℕ, zero, suc, ◌+◌, ◌*◌, ◌%◌}
use native.Mathlib.Omega.{arith}
use borrow.Author.Tests.{eq-eqb, ne_eqb}
use lib.Dec.{eqb}
use lib.ListN.{length, take}
use Rattle.record.specs.declared.Source.{Source}
use Rattle.region.specs.Region.{region_size, bank_size, sector_size, bank_of}
use Rattle.header.specs.Header.{marked}
use Rattle.header.proofs.WriteLaws.{no-magic}
use Rattle.base.specs.Lists.{byte}
use Rattle.flash.specs.Flash.{Op, erase, write, size, done, torn, applied, performed}
use Rattle.flash.proofs.Laws.{length-bank, bank-applied, torn-none, cut-first}
use Rattle.writer.specs.declared.Operation.{Operation}
use Rattle.writer.specs.declared.Operation.TheVariants.{Erase, Write, Compare}
use Rattle.writer.specs.declared.Stage.{Stage}
use Rattle.writer.specs.declared.Stage.TheVariants.{Idle, Due, HeaderWritten, Committed}
use Rattle.writer.specs.declared.Answer.TheVariants.{Done, Appended, NoneDue, Same, Different}
use Rattle.writer.specs.declared.Contents.{Contents}
use Rattle.writer.specs.declared.Writer.{Writer}
use Rattle.writer.specs.declared.Step.{Step}
use Rattle.writer.specs.State.{is_due, write_due, data_due, target, operation_ok, stage_ok, tail_size}
use Rattle.writer.proofs.Laws.{Ranged, ranged, fill-fits, position-fits}
use Rattle.due.specs.Due.{padded, ops_of, due_ops, differs, emptied, with_stage, with_emptied, operated, step_of, due_step}
use Rattle.run.specs.Run.{due}
use Rattle.powerloss.specs.History.{Update, update_after}
use Rattle.powerloss.specs.Machine.{Image, cut_at}
use Rattle.powerloss.proofs.Cuts.{cut-none, cut_inside, cut-after}
use Rattle.powerloss.proofs.Load.{target_fits}
use Rattle.powerloss.proofs.Inv.{Kept, Live, Laid, Lies, LiveAt, Mode, Open, kept-unmarked, live-after}
use Rattle.powerloss.proofs.Laid.{later-unmarked, bare-erase, laid-erase, laid-write}
use Rattle.powerloss.proofs.Keeps.{keeps-stage, keeps-emptied}
use Rattle.powerloss.proofs.Range.{tail-aligned, due-fill, write-ok, data-ok, due-ok, due-of, erase-mode, write-at, erase-data}
use Rattle.powerloss.proofs.Quiet.{data-lies}
use Rattle.powerloss.proofs.Compared.{tail-compared}
use Rattle.std.specs.Prelude.{Ok, Err, Result, Option}
use Rattle.refusal.specs.declared.Refusal.{Refusal}
use Rattle.header.specs.declared.Bank.{Bank}
use Rattle.writer.specs.declared.Answer.{Answer}

-- what operations on bank n leave, all of them or the first ones
pub record Carried (ops : List Op) (n : ℕ) (region : List ℕ) (hd : Result (Option Bank) Refusal) (rs : List Source) (im : Image) (w : Writer) (u : Update) : Type 0 where
  pub whole : Kept (performed n ops region) hd rs im
  pub open· : Open (performed n ops region) hd w u
  pub cut : (k j : ℕ) → Kept (cut_at n k j ops region) hd rs im

module _ (n : ℕ) (region : List ℕ) (hd : Result (Option Bank) Refusal) (rs : List Source) (im : Image) (w : Writer) (u : Update) (k : Kept region hd rs im) where
  pub no-ops : Open region hd w u → Carried [] n region hd rs im w u
  unfolding performed
  no-ops o = record { whole = k; open· = o; cut = λ i j. rw (cut-none n i j region) k }

  -- one operation, of which any number of bytes may be done
  pub one-op : (op : Op) → ((j : ℕ) → Kept (torn n j op region) hd rs im) → Open (applied n op region) hd w u → Carried (op ∷ []) n region hd rs im w u
  unfolding performed
  one-op op t o =
      let whole : Kept (applied n op region) hd rs im = unfold applied in (t (size op)) in
      record { whole = whole; open· = o; cut = parts whole }
    where
      parts : Kept (applied n op region) hd rs im → (i j : ℕ) → Kept (cut_at n i j (op ∷ []) region) hd rs im
      parts q zero j = rw (cut_inside n op [] region j) (t j)
      parts q (suc i) j = rw (cut-after n op [] region i j, cut-none n i j (applied n op region)) q

-- an operation on the bank that is written, which the state names
module _ (region : List ℕ) (hd a : Result (Option Bank) Refusal) (rs : List Source) (im : Image) (k : Kept region hd rs im) (v : Live region hd a) (op : Op) where
  pub kept-unmarked-at : (j : ℕ) → marked (done j op (bank_of region (target a))) ≡ false → Kept (torn (target a) j op region) hd rs im
  kept-unmarked-at j =
      subst (λ (x : Result (Option Bank) Refusal). marked (done j op (bank_of region (target x))) ≡ false → Kept (torn (target x) j op region) hd rs im) (sym v.active) (kept-unmarked region hd rs im k j op a v)

  pub live_at : Live (applied (target a) op region) hd a
  unfolding applied
  live_at = subst (λ (x : Result (Option Bank) Refusal). Live (torn (target x) (size op) op region) hd a) (sym v.active) (live-after region hd rs im k (size op) op a v)

  pub bank-at : bank_of (applied (target a) op region) (target a) ≡ done (size op) op (bank_of region (target a))
  bank-at = bank-applied region (target a) k.size (target_fits a) op

  pub length_at : length (bank_of region (target a)) ≡ bank_size
  length_at = length-bank region (target a) k.size (target_fits a)

module _ (region : List ℕ) (hd : Result (Option Bank) Refusal) (rs : List Source) (im : Image) (w : Writer) (u : Update) (k : Kept region hd rs im) (o : Open region hd w u) where
  own : Ranged w
  own = ranged w o.tied.range

  pub seen : (c : Bool) (st : Stage) → w.beginning.comparing ≡ c → w.stage ≡ st → Mode c st region hd w.beginning.active w.contents w.tail u
  seen c st e f =
      subst (λ (s : Stage). Mode c s region hd w.beginning.active w.contents w.tail u) f
      (subst (λ (d : Bool). Mode d w.stage region hd w.beginning.active w.contents w.tail u) e o.mode)

  pub stage_is : (st : Stage) → w.stage ≡ st → stage_ok w.beginning.comparing w.contents st ≡ true
  stage_is st f = ap (stage_ok w.beginning.comparing w.contents) (sym f) ∙ own.stage

  -- another stage, the same bytes
  pub restage : (region' : List ℕ) (st : Stage) → w.beginning.comparing ≡ false → stage_ok false w.contents st ≡ true
      → LiveAt st region' hd w.beginning.active × Lies st w.contents w.tail u (bank_of region' (target w.beginning.active)) → Open region' hd (with_stage w st) u
  restage region' st c s m =
      record {
        tied =
            record {
              range = keeps-stage w o.tied.range st (ap (λ (x : Bool). stage_ok x w.contents st) c ∙ s);
              began = o.tied.began;
              counted = o.tied.counted;
              noted = o.tied.noted;
              tailed = o.tied.tailed;
              ended = o.tied.ended;
            };
        mode = subst (λ (x : Bool). Mode x st region' hd w.beginning.active w.contents w.tail u) (sym c) m;
      }

  -- the tail is empty again
  empty : (region' : List ℕ) (d : Bool) → is_due w.contents ≡ true → Mode w.beginning.comparing Idle region' hd w.beginning.active (emptied w.contents d) w.tail u
      → Open region' hd (with_emptied w d) u
  empty region' d e m =
      record {
        tied =
            record {
              range = keeps-emptied w o.tied.range d e;
              began = o.tied.began;
              counted = record { length· = o.tied.counted.length· ∙ omega arith; crc = o.tied.counted.crc };
              noted = o.tied.noted;
              tailed = o.tied.tailed;
              ended = o.tied.ended;
            };
        mode = m;
      }

  -- the header sector's erase: not begun, or the first byte is 255
  first_by : (j : ℕ) → Live region hd w.beginning.active
      → (done j (erase 0) (bank_of region (target w.beginning.active)) ≡ bank_of region (target w.beginning.active)) ⊎ (byte (done j (erase 0) (bank_of region (target w.beginning.active))) 0 ≡ 255)
      → Kept (torn (target w.beginning.active) j (erase 0) region) hd rs im
  first_by j v (inl e) =
      let a = w.beginning.active in
      subst (λ (x : List ℕ). Kept x hd rs im) (sym (torn-none region (target a) k.size (target_fits a) j (erase 0) e)) k
  first_by j v (inr e) =
      let a = w.beginning.active in
      kept-unmarked-at region hd a rs im k v (erase 0) j (no-magic (done j (erase 0) (bank_of region (target a))) e)

  erase-first : w.stage ≡ Due (Erase 0) → Carried (erase 0 ∷ []) (target w.beginning.active) region hd rs im (with_stage w (Due (data_due w.contents))) u
  unfolding data_due
  erase-first f =
      let t = w.contents in
      let a = w.beginning.active in
      let d = due-ok w.beginning.comparing t (Erase 0) (stage_is (Due (Erase 0)) f) in
      let c = erase-mode w.beginning.comparing t 0 d.1 in
      let m = seen false (Due (Erase 0)) c f in
      let b = bank_of region (target a) in
      let h = bare-erase t w.tail u.data· b m.1 (length_at region hd a rs im k m.0 (erase 0)) in
      let al = tail-aligned t own.contents (due-fill t d.0) in
      let r' = applied (target a) (erase 0) region in
      one-op (target a) region hd rs im (with_stage w (Due (data_due t))) u k (erase 0)
      (λ j. first_by j m.0 (cut-first j b (omega (arith, length_at region hd a rs im k m.0 (erase 0)))))
      (restage r' (Due (data_due t)) c (due-of false t (data_due t) d.0 (data-ok t)) (
        live_at region hd a rs im k m.0 (erase 0),
        data-lies t w.tail u (bank_of r' (target a)) al
            (subst (Laid 0 sector_size t.written t.fill w.tail u.data·) (sym (bank-at region hd a rs im k m.0 (erase 0))) h)
            (eqb (t.written % sector_size) 0) refl,
      ))

  erase-next : (j : ℕ) → w.stage ≡ Due (Erase (suc j)) → Carried (erase (suc j * sector_size) ∷ []) (target w.beginning.active) region hd rs im (with_stage w (Due (write_due w.contents))) u
  erase-next j f =
      let t = w.contents in
      let a = w.beginning.active in
      let d = due-ok w.beginning.comparing t (Erase (suc j)) (stage_is (Due (Erase (suc j))) f) in
      let c = erase-mode w.beginning.comparing t (suc j) d.1 in
      let m = seen false (Due (Erase (suc j))) c f in
      let e = erase-data t j (ap (λ (x : Bool). operation_ok x t (Erase (suc j))) (sym c) ∙ d.1) in
      let b = bank_of region (target a) in
      let op = erase (suc j * sector_size) in
      let h =
      laid-erase t w.tail u.data· b (length_at region hd a rs im k m.0 op) m.1 e.0 (position-fits t own.contents) (due-fill t d.0) (suc j * sector_size)
      (omega (arith, e.0, e.1)) in
      let r' = applied (target a) op region in
      one-op (target a) region hd rs im (with_stage w (Due (write_due t))) u k op
      (λ i. kept-unmarked-at region hd a rs im k m.0 op i
      (later-unmarked 0 sector_size t.written t.fill w.tail u.data· b m.1 i op (omega arith) (omega (arith, length_at region hd a rs im k m.0 op, e.0, e.1, position-fits t own.contents, due-fill t d.0))))
      (restage r' (Due (write_due t)) c (due-of false t (write_due t) d.0 (write-ok t)) (
        live_at region hd a rs im k m.0 op,
        subst (Laid tail_size 4097 t.written t.fill w.tail u.data·) (sym (bank-at region hd a rs im k m.0 op)) h,
      ))

  write-tail : w.beginning.comparing ≡ false → w.stage ≡ Due (Write w.contents.written w.contents.fill)
      → Carried (write (sector_size + w.contents.written) (padded (take w.contents.fill w.tail)) ∷ []) (target w.beginning.active) region hd rs im (with_emptied w w.contents.different) u
  write-tail c f =
      let t = w.contents in
      let a = w.beginning.active in
      let d = due-ok w.beginning.comparing t (Write t.written t.fill) (stage_is (Due (Write t.written t.fill)) f) in
      let m = seen false (Due (Write t.written t.fill)) c f in
      let b = bank_of region (target a) in
      let ws = padded (take t.fill w.tail) in
      let op = write (sector_size + t.written) ws in
      let p = due-fill t d.0 in
      let h =
      laid-write t w.tail u.data· b (length_at region hd a rs im k m.0 op) m.1 o.tied.tailed.bytes o.tied.tailed.length· (fill-fits t own.contents) p in
      let r' = applied (target a) op region in
      one-op (target a) region hd rs im (with_emptied w t.different) u k op
      (λ i. kept-unmarked-at region hd a rs im k m.0 op i
      (later-unmarked tail_size 4097 t.written t.fill w.tail u.data· b m.1 i op (omega arith) (omega (arith, length_at region hd a rs im k m.0 op, position-fits t own.contents))))
      (empty r' t.different d.0
      (subst (λ (x : Bool). Mode x Idle r' hd a (emptied t t.different) w.tail u) (sym c) (
        live_at region hd a rs im k m.0 op,
        inr (subst (Laid 0 sector_size (t.written + t.fill) 0 w.tail u.data·) (sym (bank-at region hd a rs im k m.0 op)) h, omega arith),
      )))

  compare-tail : (i n : ℕ) (c : Bool) → w.beginning.comparing ≡ c → w.stage ≡ Due (Compare i n)
      → Carried [] (target w.beginning.active) region hd rs im (with_emptied w (w.contents.different || differs region w.beginning.active w.contents w.tail)) u
  compare-tail i n false c f = absurd (seen false (Due (Compare i n)) c f).1
  compare-tail i n true c f =
      let t = w.contents in
      let a = w.beginning.active in
      let d = t.different || differs region a t w.tail in
      let q = due-ok w.beginning.comparing t (Compare i n) (stage_is (Due (Compare i n)) f) in
      let m = seen true (Due (Compare i n)) c f in
      let g = tail-compared region a t w.tail u.data· k.size own.active (position-fits t own.contents) (omega (arith, fill-fits t own.contents, o.tied.tailed.length·)) m.1 in
      no-ops (target a) region hd rs im (with_emptied w d) u k
      (empty region d q.0 (subst (λ (x : Bool). Mode x Idle region hd a (emptied t d) w.tail u) (sym c) (m.0, g)))

  write-mode : (c : Bool) (s : Contents) (i n : ℕ) → operation_ok c s (Write i n) ≡ true → c ≡ false
  unfolding operation_ok
  write-mode true s i n e = absurd (false≢true e)
  write-mode false s i n e = refl

  operation : (p : Operation) → w.stage ≡ Due p → Carried (ops_of w.tail (Due p)) (target w.beginning.active) region hd rs im (operated region w p) u
  unfolding operated
  operation (Erase zero) f = erase-first f
  operation (Erase (suc j)) f = rw (ne_eqb (suc j) 0 (λ e. omega arith)) (erase-next j f)
  operation (Write i n) f =
      let d = due-ok w.beginning.comparing w.contents (Write i n) (stage_is (Due (Write i n)) f) in
      let c = write-mode w.beginning.comparing w.contents i n d.1 in
      let e = write-at w.contents i n (ap (λ (x : Bool). operation_ok x w.contents (Write i n)) (sym c) ∙ d.1) in
      let g : w.stage ≡ Due (Write w.contents.written w.contents.fill) = f ∙ (λ j. Due (Write (e.0 j) (e.1 j))) in
      subst (λ (ops : List Op). Carried ops (target w.beginning.active) region hd rs im (with_emptied w w.contents.different) u)
      (λ j. write (sector_size + sym e.0 j) (padded (take (sym e.1 j) w.tail)) ∷ []) (write-tail c g)
  operation (Compare i n) f = compare-tail i n w.beginning.comparing refl f

  on-stage : (st : Stage) → w.stage ≡ st → Carried (ops_of w.tail st) (target w.beginning.active) region hd rs im (step_of region w st).writer u
  on-stage Idle f = no-ops (target w.beginning.active) region hd rs im w u k o
  on-stage (Due p) f = operation p f
  on-stage HeaderWritten f = no-ops (target w.beginning.active) region hd rs im w u k o
  on-stage Committed f = no-ops (target w.beginning.active) region hd rs im w u k o

  pub due-is : due_step region w ≡ step_of region w w.stage
  unfolding due_step
  due-is = rw (eq-eqb (length region) region_size k.size, o.tied.range)

  pub due-ops-is : due_ops region w ≡ ops_of w.tail w.stage
  unfolding due_ops
  due-ops-is = rw (eq-eqb (length region) region_size k.size, o.tied.range)

  no_change : (x : Result Answer Refusal) → update_after due x u ≡ u
  unfolding update_after
  no_change (Ok Done) = refl
  no_change (Ok (Appended n)) = refl
  no_change (Ok NoneDue) = refl
  no_change (Ok Same) = refl
  no_change (Ok Different) = refl
  no_change (Err r) = refl

  pub on-due : Carried (due_ops region w) (target w.beginning.active) region hd rs im (due_step region w).writer (update_after due (due_step region w).answer u)
  on-due =
      subst (Carried (due_ops region w) (target w.beginning.active) region hd rs im (due_step region w).writer) (sym (no_change (due_step region w).answer))
      (subst (λ (ops : List Op). Carried ops (target w.beginning.active) region hd rs im (due_step region w).writer u) (sym due-ops-is)
      (subst (λ (s : Step). Carried (ops_of w.tail w.stage) (target w.beginning.active) region hd rs im s.writer u) (sym due-is) (on-stage w.stage refl)))
