-- A run appends all of its bytes. At most three operations are due in a row, and each due call does one, so after three nothing is due; a
-- byte is appended then, if the capacity holds it. By induction on the bytes.
use mathlib.Core.Path.{◌≡◌, refl, sym, ap, ◌∙◌, subst}
use mathlib.Core.Bool.{false}
use mathlib.Core.List.{List, [], ◌∷◌, ◌++◌, append_assoc}
use Prim.Native.Nat.{ℕ, suc, ◌+◌, ◌≤◌}
use native.Mathlib.Omega.{arith}
use lib.ListN.{length}
use Rattle.record.specs.declared.Source.{Source}
use Rattle.region.specs.Region.{capacity}
use Rattle.header.specs.Types.{Bytes}
use Rattle.flash.specs.Flash.{performed}
use Rattle.writer.specs.declared.Answer.TheVariants.{Done, Appended, NoneDue, Same, Different}
use Rattle.writer.specs.declared.Writer.{Writer}
use Rattle.writer.specs.declared.Step.{Step}
use Rattle.writer.specs.State.{position, is_due}
use Rattle.writer.proofs.Laws.{ranged}
use Rattle.lower.specs.Lower.{with_bytes, bytes_step}
use Rattle.run.specs.Run.{Lower, bytes, due, lower_step, lower_ops}
use Rattle.run.specs.Appends.{dues, appends}
use Rattle.powerloss.specs.History.{Update, with_appended, update_after}
use Rattle.powerloss.specs.Machine.{Image}
use Rattle.powerloss.proofs.Bytes.{bytes-nil, bytes-cons}
use Rattle.powerloss.proofs.Inv.{Kept, Open}
use Rattle.powerloss.proofs.Range.{idle-free}
use Rattle.powerloss.proofs.Quiet.{with_appended-nil}
use Rattle.powerloss.proofs.AppendBytes.{with-bytes}
use Rattle.powerloss.proofs.Answers.{Fit, region_after, writer_after, region_three, writer_three, AfterThree, after-three, byte_step, bytes-closed, bytes-position}
use Rattle.powerloss.proofs.Lowers.{plain-call}
use Rattle.powerloss.proofs.Runs.{ran_update}
use Rattle.std.specs.Prelude.{Ok, Err, Result, Option}
use Rattle.refusal.specs.declared.Refusal.{Refusal}
use Rattle.header.specs.declared.Bank.{Bank}
use Rattle.writer.specs.declared.Answer.{Answer}

pub record Now (hd : Result (Option Bank) Refusal) (rs : List Source) (im : Image) (region : List ℕ) (w : Writer) (u : Update) : Type 0 where
  pub kept : Kept region hd rs im
  pub open· : Open region hd w u

-- ---- due calls

due-nothing : (x : Result Answer Refusal) (u : Update) → update_after due x u ≡ u
unfolding update_after
due-nothing (Ok Done) u = refl
due-nothing (Ok (Appended n)) u = refl
due-nothing (Ok NoneDue) u = refl
due-nothing (Ok Same) u = refl
due-nothing (Ok Different) u = refl
due-nothing (Err r) u = refl

module _ (hd : Result (Option Bank) Refusal) (rs : List Source) (im : Image) where
  due-now : (region : List ℕ) (w : Writer) (u : Update) → Now hd rs im region w u → Now hd rs im (region_after region w) (writer_after region w) u
  due-now region w u h =
      let z = plain-call region hd rs im w u h.kept h.open· due tt in
      record {
        kept = z.whole;
        open· = subst (Open (region_after region w) hd (writer_after region w)) (due-nothing (lower_step region w due).answer u) z.open·;
      }

-- three of them
pub record Three (hd : Result (Option Bank) Refusal) (rs : List Source) (im : Image) (region : List ℕ) (w : Writer) (u : Update) : Type 0 where
  pub now : Now hd rs im (region_three region w) (writer_three region w) u
  pub after : AfterThree region w

pub fit-now : (hd : Result (Option Bank) Refusal) (rs : List Source) (im : Image) (region : List ℕ) (w : Writer) (u : Update) → Now hd rs im region w u → Fit region w
fit-now hd rs im region w u h = record { size = h.kept.size; range = h.open·.tied.range }

pub three : (hd : Result (Option Bank) Refusal) (rs : List Source) (im : Image) (region : List ℕ) (w : Writer) (u : Update) → Now hd rs im region w u → Three hd rs im region w u
three hd rs im region w u h =
    let h1 = due-now hd rs im region w u h in
    let h2 = due-now hd rs im (region_after region w) (writer_after region w) u h1 in
    record { now = due-now hd rs im _ _ u h2; after = after-three region w (fit-now hd rs im region w u h) }

pub dues-update : (region : List ℕ) (w : Writer) (cs : List Lower) (u : Update) → ran_update region w (dues ++ cs) u ≡ ran_update (region_three region w) (writer_three region w) cs u
unfolding ran_update
dues-update region w cs u =
    let r1 = region_after region w in
    let w1 = writer_after region w in
    let r2 = region_after r1 w1 in
    let w2 = writer_after r1 w1 in
    ap (ran_update (region_three region w) (writer_three region w) cs)
    (due-nothing (lower_step r2 w2 due).answer (update_after due (lower_step r1 w1 due).answer (update_after due (lower_step region w due).answer u))
    ∙ due-nothing (lower_step r1 w1 due).answer (update_after due (lower_step region w due).answer u)
    ∙ due-nothing (lower_step region w due).answer u)

-- ---- a byte

with_appended-more : (x : ℕ) (xs : List ℕ) (u : Update) → with_appended xs (with_appended (x ∷ []) u) ≡ with_appended (x ∷ xs) u
with_appended-more x xs u =
    ap (λ (l : List ℕ). record { number = u.number; generation = u.generation; now = u.now; data· = l; notes = u.notes; checked = u.checked }) (append_assoc u.data· (x ∷ []) xs)

byte-update : (region : List ℕ) (w : Writer) (u : Update) (x : ℕ) (cs : List Lower) → bytes_step w (x ∷ []) ≡ record { answer = Ok (Appended 1); writer = with_bytes w (x ∷ []) }
    → ran_update region w (bytes (x ∷ []) ∷ cs) u ≡ ran_update region (with_bytes w (x ∷ [])) cs (with_appended (x ∷ []) u)
unfolding ran_update lower_ops lower_step performed update_after
byte-update region w u x cs e = ap (λ (s : Step). ran_update region s.writer cs (update_after (bytes (x ∷ [])) s.answer u)) e

pub appends-update : (hd : Result (Option Bank) Refusal) (rs : List Source) (im : Image) (xs region : List ℕ) (w : Writer) (u : Update) → Now hd rs im region w u → w.contents.closed ≡ false → is_due w.contents ≡ false
    → position w.contents + length xs ≤ capacity → Bytes xs → ran_update region w (appends xs) u ≡ with_appended xs u
unfolding appends
appends-update hd rs im [] region w u h e d p b = unfold ran_update in (sym (with_appended-nil u))
appends-update hd rs im (x ∷ xs) region w u h e d p b =
    let s = byte_step region w x (fit-now hd rs im region w u h) e d (omega arith) in
    let w1 = with_bytes w (x ∷ []) in
    let u1 = with_appended (x ∷ []) u in
    let rm = idle-free w.contents d (ranged w h.open·.tied.range).contents in
    let h1 : Now hd rs im region w1 u1 =
    record { kept = h.kept; open· = with-bytes region hd w u h.open· (x ∷ []) (bytes-cons x [] (b 0) bytes-nil) e d (omega arith) (omega arith) } in
    let t = three hd rs im region w1 u1 h1 in
    let c1 = bytes-closed w (x ∷ []) ∙ e in
    byte-update region w u x (dues ++ appends xs) s
    ∙ dues-update region w1 (appends xs) u1
    ∙ appends-update hd rs im xs (region_three region w1) (writer_three region w1) u1 t.now (t.after.closed ∙ c1) t.after.still (omega (arith, t.after.position·, bytes-position w x)) (λ k. b (suc k))
    ∙ with_appended-more x xs u

-- what was due, then bytes
pub dues-appends : (hd : Result (Option Bank) Refusal) (rs : List Source) (im : Image) (xs region : List ℕ) (w : Writer) (u : Update) → Now hd rs im region w u → w.contents.closed ≡ false
    → position w.contents + length xs ≤ capacity → Bytes xs → ran_update region w (dues ++ appends xs) u ≡ with_appended xs u
dues-appends hd rs im xs region w u h e p b =
    let t = three hd rs im region w u h in
    dues-update region w (appends xs) u
    ∙ appends-update hd rs im xs (region_three region w) (writer_three region w) u t.now (t.after.closed ∙ e) t.after.still (omega (arith, t.after.position·)) b
