-- A state written as numbers reads back, and numbers that mean no state are out of range. By cases on stage, flags and active bank.
use mathlib.Core.Path.{◌≡◌, refl}
use mathlib.Core.Bool.{Bool, true, false, false≢true}
use Prim.Native.Nat.{ℕ}
use lib.Dec.{leb}
use Rattle.writer.specs.declared.Operation.TheVariants.{Erase, Write, Compare}
use Rattle.writer.specs.declared.Stage.{Stage}
use Rattle.writer.specs.declared.Stage.TheVariants.{Idle, Due, HeaderWritten, Committed}
use Rattle.writer.specs.State.{in_range, active_ok}
use Rattle.cstate.specs.State.{stage_kind, stage_first, stage_second, stage_of, active_kind, bank_in, active_of, flag, is_set, saved_of, writer_of}
use Rattle.cstate.specs.Claims.{ReadsBack, NoState}
use Rattle.std.specs.Prelude.{Ok, Err, Some, None, Result, Option}
use Rattle.refusal.specs.declared.Refusal.{Refusal}
use Rattle.header.specs.declared.Bank.{Bank}

stage-back : (s : Stage) → stage_of (stage_kind s) (stage_first s) (stage_second s) ≡ s
unfolding stage_of
stage-back Idle = refl
stage-back (Due (Erase k)) = refl
stage-back (Due (Write a n)) = refl
stage-back (Due (Compare a n)) = refl
stage-back HeaderWritten = refl
stage-back Committed = refl

stage-kind : (s : Stage) → leb (stage_kind s) 5 ≡ true
stage-kind Idle = refl
stage-kind (Due (Erase k)) = refl
stage-kind (Due (Write a n)) = refl
stage-kind (Due (Compare a n)) = refl
stage-kind HeaderWritten = refl
stage-kind Committed = refl

flag-back : (b : Bool) → is_set (flag b) ≡ b
flag-back true = refl
flag-back false = refl

active-back : (k : ℕ) (a : Result (Option Bank) Refusal) → leb k 5 ≡ true → leb (active_kind a) 1 ≡ true → active_of k (active_kind a) (bank_in a) ≡ a
unfolding active_of
active-back k (Ok (Some b)) s h = rw s
active-back k (Ok None) s h = rw s
active-back k (Err r) s h = absurd (false≢true h)

pub reads-back : ReadsBack
unfolding saved_of writer_of
reads-back w h =
    λ i. record {
      stage = stage-back w.stage i;
      beginning = record { active = active-back (stage_kind w.stage) w.beginning.active (stage-kind w.stage) h i; comparing = flag-back w.beginning.comparing i; now = w.beginning.now };
      contents = record { written = w.contents.written; fill = w.contents.fill; crc = w.contents.crc; different = flag-back w.contents.different i; closed = flag-back w.contents.closed i };
      tables = w.tables;
      sources = w.sources;
      tail = w.tail;
    }

pub no-state : NoState
unfolding in_range active_ok writer_of active_of
no-state s e = rw e
