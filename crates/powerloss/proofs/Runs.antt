-- Runs of lower calls, none the commit word, keep the invariant, whole or cut after any byte of any operation. By induction on the run: a
-- cut is in the first call's operations or in those of the rest.
use mathlib.Core.Path.{◌≡◌, refl, sym, ◌∙◌, subst}
use mathlib.Core.List.{List, [], ◌∷◌, ◌++◌}
use Prim.Native.Nat.{ℕ, zero, suc}
use Rattle.record.specs.declared.Source.{Source}
use Rattle.flash.specs.Flash.{Op, applied, performed}
use Rattle.writer.specs.declared.Answer.TheVariants.{Done, Appended, NoneDue, Same, Different}
use Rattle.writer.specs.declared.Writer.{Writer}
use Rattle.writer.specs.State.{target}
use Rattle.run.specs.Run.{Lower, source, table, bytes, end, close, due, unchanged, commit, word, lower_step, lower_ops, lower_region, ran_writer, ran_region, ran_ops}
use Rattle.powerloss.specs.History.{Update, update_after}
use Rattle.powerloss.specs.Machine.{Image, cut_at}
use Rattle.powerloss.proofs.Cuts.{cut-none, cut_inside, cut-after}
use Rattle.powerloss.proofs.Inv.{Kept, Open}
use Rattle.powerloss.proofs.Lowers.{Plain, plain-call}
use Rattle.std.specs.Prelude.{Ok, Err, Result, Option}
use Rattle.refusal.specs.declared.Refusal.{Refusal}
use Rattle.header.specs.declared.Bank.{Bank}
use Rattle.writer.specs.declared.Answer.{Answer}

-- the open update after a run
unfoldable pub ran_update : List ℕ → Writer → List Lower → Update → Update
ran_update region w [] u = u
ran_update region w (c ∷ cs) u = ran_update (lower_region region w c) (lower_step region w c).writer cs (update_after c (lower_step region w c).answer u)

abbrev pub AllPlain : List Lower → Type 0
AllPlain [] = Unit {0}
AllPlain (c ∷ cs) = Plain c × AllPlain cs

pub record Ran (cs : List Lower) (region : List ℕ) (hd : Result (Option Bank) Refusal) (rs : List Source) (im : Image) (w : Writer) (u : Update) : Type 0 where
  pub whole : Kept (ran_region region w cs) hd rs im
  pub open· : Open (ran_region region w cs) hd (ran_writer region w cs) (ran_update region w cs u)
  pub cut : (k j : ℕ) → Kept (cut_at (target w.beginning.active) k j (ran_ops region w cs) region) hd rs im

same_number : (c : Lower) (x : Result Answer Refusal) (u : Update) → (update_after c x u).number ≡ u.number
unfolding update_after
same_number (source s) (Ok Done) u = refl
same_number (table t) (Ok Done) u = refl
same_number (bytes xs) (Ok Done) u = refl
same_number end (Ok Done) u = refl
same_number close (Ok Done) u = refl
same_number due (Ok Done) u = refl
same_number unchanged (Ok Done) u = refl
same_number (commit s c) (Ok Done) u = refl
same_number word (Ok Done) u = refl
same_number (source s) (Ok (Appended n)) u = refl
same_number (table t) (Ok (Appended n)) u = refl
same_number (bytes xs) (Ok (Appended n)) u = refl
same_number end (Ok (Appended n)) u = refl
same_number close (Ok (Appended n)) u = refl
same_number due (Ok (Appended n)) u = refl
same_number unchanged (Ok (Appended n)) u = refl
same_number (commit s c) (Ok (Appended n)) u = refl
same_number word (Ok (Appended n)) u = refl
same_number c (Ok NoneDue) u = refl
same_number c (Ok Same) u = refl
same_number c (Ok Different) u = refl
same_number c (Err r) u = refl

-- a cut in a list of operations is among the first ones or among the others
cut-run : (n : ℕ) (ops rest : List Op) (region : List ℕ) (hd : Result (Option Bank) Refusal) (rs : List Source) (im : Image) → ((k j : ℕ) → Kept (cut_at n k j ops region) hd rs im)
    → ((k j : ℕ) → Kept (cut_at n k j rest (performed n ops region)) hd rs im) → (k j : ℕ) → Kept (cut_at n k j (ops ++ rest) region) hd rs im
unfolding performed
cut-run n [] rest region hd rs im f g k j = g k j
cut-run n (op ∷ ops) rest region hd rs im f g zero j = rw (cut_inside n op (ops ++ rest) region j) (rw (cut_inside n op ops region j) at (f zero j))
cut-run n (op ∷ ops) rest region hd rs im f g (suc k) j =
    rw (cut-after n op (ops ++ rest) region k j) (cut-run n ops rest (applied n op region) hd rs im (λ i m. rw (cut-after n op ops region i m) at (f (suc i) m)) g k j)

pub ran : (cs : List Lower) (region : List ℕ) (hd : Result (Option Bank) Refusal) (rs : List Source) (im : Image) (w : Writer) (u : Update) → AllPlain cs → Kept region hd rs im → Open region hd w u → Ran cs region hd rs im w u
unfolding ran_region ran_writer ran_update ran_ops
ran [] region hd rs im w u p k o = record { whole = k; open· = o; cut = λ i j. rw (cut-none (target w.beginning.active) i j region) k }
ran (c ∷ cs) region hd rs im w u p k o =
    let z = plain-call region hd rs im w u k o c p.0 in
    let r' = lower_region region w c in
    let w' = (lower_step region w c).writer in
    let u' = update_after c (lower_step region w c).answer u in
    let y = ran cs r' hd rs im w' u' p.1 z.whole z.open· in
    let n = target w.beginning.active in
    let e : target w'.beginning.active ≡ n = sym z.open·.tied.began.number ∙ same_number c (lower_step region w c).answer u ∙ o.tied.began.number in
    record {
      whole = y.whole;
      open· = y.open·;
      cut =
          cut-run n (lower_ops region w c) (ran_ops r' w' cs) region hd rs im z.cut
          (λ i j. subst (λ (m : ℕ). Kept (cut_at m i j (ran_ops r' w' cs) r') hd rs im) e (y.cut i j));
    }
