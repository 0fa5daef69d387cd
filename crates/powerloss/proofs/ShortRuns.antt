-- The runs of upper calls, computed. While the tail isn't full nothing is due, so the due calls of a run change nothing, and bytes appended
-- one by one leave what one append of all of them does: by induction on the bytes. Once the tail is full, or closed, the three due calls do
-- the header sector's erase, the data sector's and the first write.
use mathlib.Core.Path.{◌≡◌, refl, sym, ap, ◌∙◌, subst}
use mathlib.Core.Bool.{Bool, true, false, ◌&&◌}
use mathlib.Core.List.{List, [], ◌∷◌, ◌++◌, append-nil}
use Prim.Native.Nat.{ℕ, suc, ◌+◌, ◌≤◌, ◌<◌}
use native.Mathlib.Omega.{arith}
use borrow.Author.Tests.{eq-eqb, ne_eqb}
use lib.Dec.{eqb}
use lib.ListN.{length, take}
use Rattle.base.specs.Number.{pick}
use Rattle.record.specs.declared.Source.{Source}
use Rattle.region.specs.Region.{region_size, capacity, sector_size}
use Rattle.flash.specs.Flash.{Op, erase, write, applied, performed}
use Rattle.flash.proofs.Laws.{length-performed}
use Rattle.writer.specs.declared.Operation.TheVariants.{Erase, Write}
use Rattle.writer.specs.declared.Stage.{Stage}
use Rattle.writer.specs.declared.Stage.TheVariants.{Idle, Due}
use Rattle.writer.specs.declared.Beginning.{Beginning}
use Rattle.writer.specs.declared.Contents.{Contents}
use Rattle.writer.specs.declared.Tables.{Tables}
use Rattle.writer.specs.declared.Writer.{Writer}
use Rattle.writer.specs.declared.Step.{Step}
use Rattle.writer.specs.declared.Answer.TheVariants.{Appended}
use Rattle.writer.specs.State.{position, is_due, data_due, stage_of, target, in_range, tail_size, did}
use Rattle.lower.specs.Lower.{more_contents, with_bytes}
use Rattle.due.specs.Due.{padded, ops_of, due_ops, operated, due_step}
use Rattle.run.specs.Run.{Lower, bytes, due, lower_step, lower_ops, ran_writer, ran_region, ran_ops}
use Rattle.run.specs.Appends.{dues, appends}
use Rattle.run.proofs.Chunk.{both_bytes}
use Rattle.run.proofs.Laws.{quiet, quiet_step}
use Rattle.upper.specs.Upper.{Upper, appended_bytes, lower_of, run_of, refusal_of, upper_run, upper_step, upper_region, upper_ops}
use Rattle.powerloss.proofs.Load.{target_fits}
use Rattle.powerloss.proofs.Keeps.{keeps-bytes, keeps-call}
use Rattle.powerloss.proofs.Answers.{Fit, byte_step, bytes-closed, bytes-position}
use Rattle.std.specs.Prelude.{Ok, None}

-- the state, the region and the operations of a run
pub record Outcome : Type 0 where
  pub writer : Writer
  pub region : List ℕ
  pub ops : List Op

abbrev pub outcome : List ℕ → Writer → List Lower → Outcome
outcome region w cs = record { writer = ran_writer region w cs; region = ran_region region w cs; ops = ran_ops region w cs }

abbrev pub after : List Op → Outcome → Outcome
after ops o = record { writer = o.writer; region = o.region; ops = ops ++ o.ops }

abbrev pub ends : Writer → List ℕ → Outcome
ends w region = record { writer = w; region = region; ops = [] }

module _ (region : List ℕ) (w : Writer) where
  pub no_call : outcome region w [] ≡ ends w region
  unfolding ran_writer ran_region ran_ops
  no_call = refl

  -- a call with these operations, then the others
  pub with_call : (c : Lower) (cs : List Lower) (s : Step) (ops : List Op) → lower_step region w c ≡ s → lower_ops region w c ≡ ops
      → outcome region w (c ∷ cs) ≡ after ops (outcome (performed (target w.beginning.active) ops region) s.writer cs)
  unfolding ran_writer ran_region ran_ops
  with_call c cs s ops e f = rw (e, f)

  -- one without
  pub quiet-call : (c : Lower) (cs : List Lower) (s : Step) → lower_step region w c ≡ s → lower_ops region w c ≡ [] → outcome region w (c ∷ cs) ≡ outcome region s.writer cs
  unfolding performed
  quiet-call c cs s e f = with_call c cs s [] e f

  idle-ops : (t : Bool) (s : Stage) → s ≡ Idle → pick t (ops_of w.tail s) [] ≡ []
  idle-ops true s e = rw e
  idle-ops false s e = refl

  pub idle-due : (cs : List Lower) → w.stage ≡ Idle → outcome region w (due ∷ cs) ≡ outcome region w cs
  unfolding lower_step lower_ops due_ops
  idle-due cs e =
      quiet-call due cs (due_step region w) refl (idle-ops (eqb (length region) region_size && in_range w) w.stage e) ∙ ap (λ (v : Writer). outcome region v cs) (quiet_step region w (ap quiet e))

  pub idle-dues : (cs : List Lower) → w.stage ≡ Idle → outcome region w (dues ++ cs) ≡ outcome region w cs
  idle-dues cs e = idle-due (due ∷ due ∷ cs) e ∙ idle-due (due ∷ cs) e ∙ idle-due cs e

-- ---- bytes

none-due : (t : Contents) → t.closed ≡ false → t.fill < tail_size → is_due t ≡ false
unfolding is_due
none-due t c h = rw (ne_eqb t.fill tail_size (λ e. omega arith), c)

module _ (w : Writer) (xs : List ℕ) (e : w.contents.closed ≡ false) (h : w.contents.fill + length xs < tail_size) where
  more-none : is_due (with_bytes w xs).contents ≡ false
  unfolding with_bytes
  more-none = none-due (more_contents w.contents xs) e h

  more-idle : (with_bytes w xs).stage ≡ Idle
  unfolding with_bytes stage_of
  more-idle = rw (none-due (more_contents w.contents xs) e h)

bytes-fill : (w : Writer) (x : ℕ) → (with_bytes w (x ∷ [])).contents.fill ≡ w.contents.fill + 1
unfolding with_bytes
bytes-fill w x = refl

-- as many bytes as the tail holds, then what is due, then the others
module _ (region zs : List ℕ) where
  pub chunk : (ys : List ℕ) (y : ℕ) (w : Writer) → Fit region w → w.contents.closed ≡ false → is_due w.contents ≡ false
      → w.contents.fill + suc (length ys) ≤ tail_size → position w.contents + suc (length ys) ≤ capacity
      → outcome region w (appends (y ∷ (ys ++ zs))) ≡ outcome region (with_bytes w (y ∷ ys)) (dues ++ appends zs)
  unfolding appends
  chunk [] y w f e d h k =
      quiet-call region w (bytes (y ∷ [])) _ (record { answer = Ok (Appended 1); writer = with_bytes w (y ∷ []) }) (unfold lower_step in (byte_step region w y f e d (omega arith))) (unfold lower_ops in refl)
  chunk (x ∷ ys) y w f e d h k =
      let w1 = with_bytes w (y ∷ []) in
      let f1 : Fit region w1 = record { size = f.size; range = keeps-bytes w f.range (y ∷ []) e (omega arith) (omega arith) } in
      quiet-call region w (bytes (y ∷ [])) _ (record { answer = Ok (Appended 1); writer = w1 }) (unfold lower_step in (byte_step region w y f e d (omega arith))) (unfold lower_ops in refl)
      ∙ idle-dues region w1 _ (more-idle w (y ∷ []) e (omega arith))
      ∙ chunk ys x w1 f1 (bytes-closed w (y ∷ []) ∙ e) (more-none w (y ∷ []) e (omega arith)) (omega (arith, bytes-fill w y)) (omega (arith, bytes-position w y))
      ∙ ap (λ (v : Writer). outcome region v (dues ++ appends zs)) (both_bytes w y (x ∷ ys))

-- fewer than that
pub short : (region : List ℕ) (w : Writer) (y : ℕ) (ys : List ℕ) → Fit region w → w.contents.closed ≡ false → is_due w.contents ≡ false
    → w.contents.fill + suc (length ys) < tail_size → position w.contents + suc (length ys) ≤ capacity
    → outcome region w (appends (y ∷ ys)) ≡ ends (with_bytes w (y ∷ ys)) region
short region w y ys f e d h k =
    ap (λ (l : List ℕ). outcome region w (appends (y ∷ l))) (sym (append-nil ys))
    ∙ chunk region [] ys y w f e d (omega arith) k
    ∙ idle-dues region (with_bytes w (y ∷ ys)) (appends []) (more-idle w (y ∷ ys) e h)
    ∙ unfold appends in (no_call region (with_bytes w (y ∷ ys)))

-- ---- the first write of an update

-- the header sector's erase is due: it, the data sector's and the write are done
module _ (b : Beginning) (n crc : ℕ) (d c : Bool) (x : Tables) (ss : List Source) (tail : List ℕ) where
  abbrev pub unwritten : Stage → Writer
  unwritten g = record { stage = g; beginning = b; contents = record { written = 0; fill = n; crc = crc; different = d; closed = c }; tables = x; sources = ss; tail = tail }

  abbrev pub flushed : Writer
  flushed = record { stage = Idle; beginning = b; contents = record { written = 0 + n; fill = 0; crc = crc; different = d; closed = c }; tables = x; sources = ss; tail = tail }

  abbrev pub first_write : Op
  first_write = write sector_size (padded (take n tail))

  abbrev Does : List ℕ → Stage → Writer → Op → Type 0
  Does region g w op = (lower_step region (unwritten g) due ≡ did w) × (lower_ops region (unwritten g) due ≡ op ∷ [])

  module _ (region : List ℕ) where
    header-erase : Fit region (unwritten (Due (Erase 0))) → Does region (Due (Erase 0)) (unwritten (Due (Erase 1))) (erase 0)
    unfolding lower_step lower_ops due_step due_ops operated data_due
    header-erase f = rw (eq-eqb (length region) region_size f.size, f.range) (refl, refl)

    data-erase : Fit region (unwritten (Due (Erase 1))) → Does region (Due (Erase 1)) (unwritten (Due (Write 0 n))) (erase sector_size)
    unfolding lower_step lower_ops due_step due_ops operated
    data-erase f = rw (eq-eqb (length region) region_size f.size, f.range) (refl, refl)

    data-write : Fit region (unwritten (Due (Write 0 n))) → Does region (Due (Write 0 n)) flushed first_write
    unfolding lower_step lower_ops due_step due_ops operated
    data-write f = rw (eq-eqb (length region) region_size f.size, f.range) (refl, refl)

  pub first-flush : (region : List ℕ) (cs : List Lower) → Fit region (unwritten (Due (Erase 0)))
      → outcome region (unwritten (Due (Erase 0))) (dues ++ cs)
      ≡ after (erase 0 ∷ erase sector_size ∷ first_write ∷ []) (outcome (performed (target b.active) (erase 0 ∷ erase sector_size ∷ first_write ∷ []) region) flushed cs)
  unfolding performed
  first-flush region cs f =
      let h = header-erase region f in
      let r1 = applied (target b.active) (erase 0) region in
      let f1 : Fit r1 (unwritten (Due (Erase 1))) = after_call region (Due (Erase 0)) (unwritten (Due (Erase 1))) (erase 0) f h in
      let s = data-erase r1 f1 in
      let r2 = applied (target b.active) (erase sector_size) r1 in
      let f2 : Fit r2 (unwritten (Due (Write 0 n))) = after_call r1 (Due (Erase 1)) (unwritten (Due (Write 0 n))) (erase sector_size) f1 s in
      let t = data-write r2 f2 in
      with_call region _ due (due ∷ due ∷ cs) _ (erase 0 ∷ []) h.0 h.1
      ∙ ap (after (erase 0 ∷ [])) (with_call r1 _ due (due ∷ cs) _ (erase sector_size ∷ []) s.0 s.1
      ∙ ap (after (erase sector_size ∷ [])) (with_call r2 _ due cs _ (first_write ∷ []) t.0 t.1))
    where
      after_call : (region : List ℕ) (g : Stage) (w : Writer) (op : Op) → Fit region (unwritten g) → Does region g w op → Fit (applied (target b.active) op region) w
      after_call region g w op f d =
          record {
            size = length-performed (target b.active) (op ∷ []) region (target_fits b.active) f.size;
            range = subst (λ (s : Step). in_range s.writer ≡ true) d.0 (keeps-call region (unwritten g) f.range due);
          }

-- ---- an upper call that isn't refused does its run

-- in order, open, and nothing is due
pub record Still (region : List ℕ) (w : Writer) : Type 0 where
  pub fit : Fit region w
  pub closed : w.contents.closed ≡ false
  pub none· : is_due w.contents ≡ false
  pub idle : w.stage ≡ Idle

module _ (region : List ℕ) (w : Writer) (c : Upper) (h : w.stage ≡ Idle) where
  abbrev Fits : Writer → List ℕ → Type 0
  Fits v ys = (v.contents.fill + suc (length ys) < tail_size) × (position v.contents + suc (length ys) ≤ capacity)

  -- the lower call of the same name, then bytes
  pub call-bytes : (x : Lower) (v : Writer) (y : ℕ) (ys : List ℕ) → lower_of c ≡ x ∷ [] → lower_step region w x ≡ did v → lower_ops region w x ≡ [] → Still region v
      → appended_bytes c ≡ y ∷ ys → Fits v ys → outcome region w (run_of c) ≡ ends (with_bytes v (y ∷ ys)) region
  unfolding run_of
  call-bytes x v y ys p e f t q k =
      idle-dues region w _ h
      ∙ (λ i. outcome region w (p i ++ (dues ++ appends (q i))))
      ∙ quiet-call region w x _ (did v) e f
      ∙ idle-dues region v _ t.idle
      ∙ short region v y ys t.fit t.closed t.none· k.0 k.1

  -- bytes alone
  pub only-bytes : (y : ℕ) (ys : List ℕ) → lower_of c ≡ [] → Still region w → appended_bytes c ≡ y ∷ ys → Fits w ys → outcome region w (run_of c) ≡ ends (with_bytes w (y ∷ ys)) region
  unfolding run_of
  only-bytes y ys p t q k =
      idle-dues region w _ h
      ∙ (λ i. outcome region w (p i ++ (dues ++ appends (q i))))
      ∙ idle-dues region w _ h
      ∙ short region w y ys t.fit t.closed t.none· k.0 k.1

  -- the lower call alone, then what is due
  pub only-call : (x : Lower) (v : Writer) → lower_of c ≡ x ∷ [] → lower_step region w x ≡ did v → lower_ops region w x ≡ [] → appended_bytes c ≡ [] → outcome region w (run_of c) ≡ outcome region v dues
  unfolding run_of
  only-call x v p e f q =
      idle-dues region w _ h
      ∙ (λ i. outcome region w (p i ++ (dues ++ appends (q i))))
      ∙ quiet-call region w x _ (did v) e f
      ∙ unfold appends in refl

pub upper-outcome : (region : List ℕ) (w : Writer) (c : Upper) (o : Outcome) → refusal_of region w c ≡ None → outcome region w (run_of c) ≡ o
    → (upper_step region w c ≡ did o.writer) × (upper_region region w c ≡ o.region) × (upper_ops region w c ≡ o.ops)
unfolding upper_step upper_region upper_ops upper_run
upper-outcome region w c o e f = rw e (ap (λ (x : Outcome). did x.writer) f, ap (λ (x : Outcome). x.region) f, ap (λ (x : Outcome). x.ops) f)
