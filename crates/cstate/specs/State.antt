-- A writer's state as plain numbers. Any numbers read as some writer; if the stage is above 5 or `active` above 1, as one that every call
-- refuses with 11.
use Rattle.std.specs.Prelude.{Bool, true, false, not, ◌&&◌, ℕ, leb, eqb, pos, Ok, Err, Some, None, Result, Option}
use Rattle.base.specs.Number.{pick}
use Rattle.refusal.specs.declared.Refusal.TheVariants.{Turn}
use Rattle.header.specs.declared.Bank.{Bank}
use Rattle.writer.specs.declared.Operation.TheVariants.{Erase, Write, Compare}
use Rattle.writer.specs.declared.Stage.{Stage}
use Rattle.writer.specs.declared.Stage.TheVariants.{Idle, Due, HeaderWritten, Committed}
use Rattle.writer.specs.declared.Writer.{Writer}
use Rattle.cstate.specs.declared.State.{State}
use Rattle.cstate.specs.declared.StageNumbers.{StageNumbers}
use Rattle.refusal.specs.declared.Refusal.{Refusal}

-- the numbers of stages
abbrev pub idle_stage : ℕ
idle_stage = 0

abbrev pub erase_stage : ℕ
erase_stage = 1

abbrev pub write_stage : ℕ
write_stage = 2

abbrev pub compare_stage : ℕ
compare_stage = 3

abbrev pub header_written_stage : ℕ
header_written_stage = 4

abbrev pub committed_stage : ℕ
committed_stage = 5

-- the numbers of `active`: no active bank, one, and a beginning that was refused
abbrev pub no_active : ℕ
no_active = 0

abbrev pub some_active : ℕ
some_active = 1

abbrev pub refused_active : ℕ
refused_active = 2

-- the stage's number, and its operation's two numbers
abbrev pub stage_kind : Stage → ℕ
stage_kind Idle = idle_stage
stage_kind (Due (Erase k)) = erase_stage
stage_kind (Due (Write a n)) = write_stage
stage_kind (Due (Compare a n)) = compare_stage
stage_kind HeaderWritten = header_written_stage
stage_kind Committed = committed_stage

abbrev pub stage_first : Stage → ℕ
stage_first Idle = 0
stage_first (Due (Erase k)) = k
stage_first (Due (Write a n)) = a
stage_first (Due (Compare a n)) = a
stage_first HeaderWritten = 0
stage_first Committed = 0

abbrev pub stage_second : Stage → ℕ
stage_second Idle = 0
stage_second (Due (Erase k)) = 0
stage_second (Due (Write a n)) = n
stage_second (Due (Compare a n)) = n
stage_second HeaderWritten = 0
stage_second Committed = 0

abbrev pub stage_numbers : Stage → StageNumbers
stage_numbers s = record { kind = stage_kind s; first = stage_first s; second = stage_second s }

-- the active bank: none, a bank, or a beginning that was refused
abbrev pub active_kind : Result (Option Bank) Refusal → ℕ
active_kind (Ok None) = no_active
active_kind (Ok (Some b)) = some_active
active_kind (Err r) = refused_active

abbrev pub no_bank : Bank
no_bank = record { number = 0; version = 0; generation = 0; length = 0; crc = 0; count = 0; key = 0; checked = pos 0 }

abbrev pub bank_in : Result (Option Bank) Refusal → Bank
bank_in (Ok (Some b)) = b
bank_in (Ok None) = no_bank
bank_in (Err r) = no_bank

abbrev pub flag : Bool → ℕ
flag true = 1
flag false = 0

unfoldable pub saved_of : Writer → State
saved_of w =
    record {
      stage = stage_kind w.stage;
      first = stage_first w.stage;
      second = stage_second w.stage;
      active = active_kind w.beginning.active;
      bank = bank_in w.beginning.active;
      now = w.beginning.now;
      comparing = flag w.beginning.comparing;
      written = w.contents.written;
      fill = w.contents.fill;
      crc = w.contents.crc;
      different = flag w.contents.different;
      closed = flag w.contents.closed;
      tables = w.tables;
      sources = w.sources;
      tail = w.tail;
    }

-- ---- the numbers read back

unfoldable pub stage_of : ℕ → ℕ → ℕ → Stage
stage_of k a n =
    pick (eqb k erase_stage) (Due (Erase a))
    (pick (eqb k write_stage) (Due (Write a n))
    (pick (eqb k compare_stage) (Due (Compare a n))
    (pick (eqb k header_written_stage) HeaderWritten
    (pick (eqb k committed_stage) Committed Idle))))

abbrev pub kinds_ok : ℕ → ℕ → Bool
kinds_ok stage active = leb stage committed_stage && leb active some_active

abbrev pub is_state : State → Bool
is_state s = kinds_ok s.stage s.active

unfoldable pub active_of : ℕ → ℕ → Bank → Result (Option Bank) Refusal
active_of stage active b = pick (kinds_ok stage active) (pick (eqb active some_active) (Ok (Some b)) (Ok None)) (Err Turn)

abbrev pub is_set : ℕ → Bool
is_set n = not (eqb n 0)

unfoldable pub writer_of : State → Writer
writer_of s =
    record {
      stage = stage_of s.stage s.first s.second;
      beginning = record { active = active_of s.stage s.active s.bank; comparing = is_set s.comparing; now = s.now };
      contents = record { written = s.written; fill = s.fill; crc = s.crc; different = is_set s.different; closed = is_set s.closed };
      tables = s.tables;
      sources = s.sources;
      tail = s.tail;
    }
