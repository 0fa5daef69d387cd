-- When an operation is due, and how many an update makes, on every state that a list of events of both layers reaches, refused calls and
-- cuts included (specs/Machine.antt: `next_all`).
use Rattle.std.specs.Prelude.{◌≡◌, true, false, List, [], ◌∷◌, ◌++◌, ℕ, ◌+◌, ◌/◌, ◌≤◌, ◌-◌, ℤ, length, Ok, Err, Result, Some, None, Option}
use Rattle.std.specs.Int.{w64}
use Rattle.std.proofs.Common.{SFits}
use Rattle.region.specs.Region.{region_size, capacity, sector_size}
use Rattle.header.specs.Types.{Bytes}
use Rattle.flash.specs.Flash.{Op}
use Rattle.writer.specs.declared.Stage.TheVariants.{Committed}
use Rattle.writer.specs.declared.Answer.TheVariants.{Done, Appended, NoneDue, Same, Different}
use Rattle.writer.specs.declared.Writer.{Writer}
use Rattle.writer.specs.State.{tail_size, position}
use Rattle.lower.specs.Lower.{begun}
use Rattle.run.specs.Run.{Lower, lower_ops, ran_writer, ran_ops}
use Rattle.upper.specs.Upper.{Upper, upper_ops, begin_step, begin_ops}
use Rattle.powerloss.specs.History.{Update}
use Rattle.powerloss.specs.Machine.{Event, begin, begin_cut, call, cut, begin_key, begin_key_cut, upper, upper_cut, Run, found, next, next_all}
use Rattle.powerloss.specs.Claim.{LowerTyped, AllTyped}
use Rattle.powerloss.specs.Ranges.{Exactly}
use Rattle.refusal.specs.declared.Refusal.{Refusal}
use Rattle.writer.specs.declared.Answer.{Answer}

-- ---- what is due

-- of reached states (proofs/Exactly.antt: reached-exactly)
abbrev pub DueExactly : Type 0
DueExactly =
    (region : List ℕ) (events : List Event) → length region ≡ region_size → Bytes region → AllTyped events → (w : Writer) → (next_all (found region) events).state ≡ Some w
    → Exactly (next_all (found region) events).region w

-- ---- how many operations

-- the sectors that n bytes need, and the writes of the tail
abbrev pub sectors : ℕ → ℕ
sectors n = (n + (sector_size - 1)) / sector_size

abbrev pub writes : ℕ → ℕ
writes n = (n + (tail_size - 1)) / tail_size

-- commit writes the header, then the commit word
abbrev pub commit_writes : ℕ
commit_writes = 2

-- an update of n bytes: the header sector's erase, those of the data's sectors, the data's writes, commit's two
abbrev pub operations_of : ℕ → ℕ
operations_of n = 1 + sectors n + writes n + commit_writes

-- the operations of the update since its beginning; a cut drops the update
abbrev pub started_by : Result Answer Refusal → List Op → List Op → List Op
started_by (Ok Done) first old = first
started_by (Ok (Appended n)) first old = old
started_by (Ok NoneDue) first old = old
started_by (Ok Same) first old = old
started_by (Ok Different) first old = old
started_by (Err r) first old = old

abbrev pub call_ops : List ℕ → Option Writer → Lower → List Op
call_ops region None c = []
call_ops region (Some w) c = lower_ops region w c

abbrev pub upper_call_ops : List ℕ → Option Writer → Upper → List Op
upper_call_ops region None c = []
upper_call_ops region (Some w) c = upper_ops region w c

unfoldable pub since : Run → Event → List Op → List Op
since r (begin comparing now) ops = started_by (begun r.region comparing now).answer [] ops
since r (begin_key comparing now identity texts lengths) ops =
    started_by (begin_step r.region comparing now identity texts lengths).answer (begin_ops r.region comparing now identity texts lengths) ops
since r (call c) ops = ops ++ call_ops r.region r.state c
since r (upper c) ops = ops ++ upper_call_ops r.region r.state c
since r (begin_cut comparing now) ops = []
since r (begin_key_cut comparing now identity texts lengths k j) ops = []
since r (cut c k j) ops = []
since r (upper_cut c k j) ops = []

unfoldable pub ops_after : Run → List Op → List Event → List Op
ops_after r ops [] = ops
ops_after r ops (e ∷ es) = ops_after (next r e) (since r e ops) es

-- A committed update of n bytes has at least one, and made `operations_of n` operations.
pub record Counted (n ops : ℕ) : Type 0 where
  pub some· : 1 ≤ n
  pub count : ops ≡ operations_of n

-- after any events, in any order, if the update is committed (proofs/Events.antt)
abbrev pub CommittedOperations : Type 0
CommittedOperations =
    (region : List ℕ) (events : List Event) → length region ≡ region_size → Bytes region → AllTyped events → (w : Writer) (u : Update)
    → (next_all (found region) events).state ≡ Some w → (next_all (found region) events).history.open· ≡ Some u → w.stage ≡ Committed
    → Counted (length u.data·) (length (ops_after (found region) [] events))

-- "Comparing mode writes nothing"
abbrev pub ComparingOperations : Type 0
ComparingOperations =
    (region : List ℕ) (events : List Event) → length region ≡ region_size → Bytes region → AllTyped events → (w : Writer)
    → (next_all (found region) events).state ≡ Some w → w.beginning.comparing ≡ true → length (ops_after (found region) [] events) ≡ 0

-- the same of a list of lower calls after a beginning in writing mode
abbrev pub AllLower : List Lower → Type 0
AllLower [] = Unit {0}
AllLower (c ∷ cs) = LowerTyped c × AllLower cs

abbrev pub LowerOperations : Type 0
LowerOperations =
    (region : List ℕ) → length region ≡ region_size → Bytes region → (now : ℤ) → SFits w64 now → (calls : List Lower) → AllLower calls
    → (ran_writer region (begun region false now).writer calls).stage ≡ Committed
    → Counted (position (ran_writer region (begun region false now).writer calls).contents) (length (ran_ops region (begun region false now).writer calls))

-- 255, 257 and 487,424 bytes
abbrev pub ThreeLengths : Type 0
ThreeLengths = (operations_of 255 ≡ 5) × (operations_of 257 ≡ 6) × (operations_of capacity ≡ 2026)

-- all of them: what `operations_hold` promises
pub record Operations : Type 0 where
  pub due_exactly : DueExactly
  pub committed : CommittedOperations
  pub comparing : ComparingOperations
  pub lower : LowerOperations
  pub lengths : ThreeLengths
