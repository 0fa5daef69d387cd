-- The state of an update: what is due, and which states are within their ranges (11).
use Rattle.std.specs.Prelude.{Bool, true, false, not, ◌&&◌, ◌||◌, ℕ, ◌+◌, ◌-◌, ◌/◌, ◌%◌, ◌^◌, leb, ltb, eqb, Ok, Err, Some, None, Result, Option}
use Rattle.base.specs.Number.{pick}
use Rattle.leaf.specs.Generation.{next}
use Rattle.refusal.specs.declared.Refusal.{Refusal}
use Rattle.region.specs.Region.{capacity, sector_size, last_bank}
use Rattle.record.specs.Record.{dates_size}
use Rattle.header.specs.Header.{max_sources}
use Rattle.writer.specs.declared.Operation.{Operation}
use Rattle.writer.specs.declared.Operation.TheVariants.{Erase, Write, Compare}
use Rattle.writer.specs.declared.Stage.{Stage}
use Rattle.writer.specs.declared.Stage.TheVariants.{Idle, Due, HeaderWritten, Committed}
use Rattle.writer.specs.declared.Contents.{Contents}
use Rattle.writer.specs.declared.Tables.{Tables}
use Rattle.writer.specs.declared.Writer.{Writer}
use Rattle.writer.specs.declared.Answer.TheVariants.{Done, Appended, NoneDue, Same, Different}
use Rattle.writer.specs.declared.Step.{Step}
use Rattle.base.specs.Table.{max_tables, last_table}
use Rattle.header.specs.declared.Bank.{Bank}
use Rattle.writer.specs.declared.Answer.{Answer}

-- the tail's capacity
abbrev pub tail_size : ℕ
tail_size = 256

-- the offset of the last full write
abbrev pub last_write : ℕ
last_write = capacity - tail_size

-- the position, "tail included": the bytes written and those in the tail
abbrev pub position : Contents → ℕ
position t = t.written + t.fill

-- "One is due exactly when the tail is full, or after closing while bytes are unwritten."
unfoldable pub is_due : Contents → Bool
is_due t = eqb t.fill tail_size || (t.closed && ltb 0 t.fill)

-- the tail's write
abbrev pub write_due : Contents → Operation
write_due t = Write t.written t.fill

-- before the first write to a sector its erase, else the write; sector 0 is the header's
unfoldable pub data_due : Contents → Operation
data_due t = pick (eqb (t.written % sector_size) 0) (Erase (t.written / sector_size + 1)) (write_due t)

-- "Erases come just before the write that needs them, the header sector first of all." In comparing mode the tail is compared.
unfoldable pub first_due : Bool → Contents → Operation
first_due comparing t = pick comparing (Compare t.written t.fill) (pick (eqb t.written 0) (Erase 0) (data_due t))

-- the stage after bytes are appended or the update is closed, if nothing was due before
unfoldable pub stage_of : Bool → Contents → Stage
stage_of comparing t = pick (is_due t) (Due (first_due comparing t)) Idle

-- The bank that isn't the active one, and the generation after the active one's; 0 and 0 with no active bank.
unfoldable pub target : Result (Option Bank) Refusal → ℕ
target (Ok (Some b)) = last_bank - b.number
target (Ok None) = 0
target (Err r) = 0

unfoldable pub next_generation : Result (Option Bank) Refusal → ℕ
next_generation (Ok (Some b)) = next b.generation
next_generation (Ok None) = 0
next_generation (Err r) = 0

-- "The first source's Routes offset less 8 is the key length, or 0 if that offset is below 8."
abbrev pub key_length : ℕ → ℕ
key_length offset = offset - dates_size

-- no table is open
abbrev pub no_table : ℕ
no_table = max_tables

abbrev pub is_open : Tables → Bool
is_open s = not (eqb s.table no_table)

-- whether a table was begun in its source
unfoldable pub begun_in : ℕ → ℕ → Bool
begun_in begun table = eqb (begun / 2 ^ table % 2) 1

-- 11, by range

-- the active bank's number is 0 or 1; the state of a refused beginning never passes
unfoldable pub active_ok : Result (Option Bank) Refusal → Bool
active_ok (Ok (Some b)) = leb b.number last_bank
active_ok (Ok None) = true
active_ok (Err r) = false

-- a count of written bytes is a multiple of 256 until the last write
abbrev pub aligned : Contents → Bool
aligned t = eqb (t.written % tail_size) 0 || (t.closed && eqb t.fill 0)

-- tail fill and position
unfoldable pub contents_ok : Contents → Bool
contents_ok t = leb t.fill tail_size && (leb (position t) capacity && aligned t)

-- an open table has a source and starts at or before the position
abbrev pub open_ok : ℕ → Tables → Bool
open_ok n s = leb s.table last_table && (leb 1 s.count && leb s.start n)

-- source count and table
unfoldable pub tables_ok : ℕ → Tables → Bool
tables_ok n s = leb s.count max_sources && (eqb s.table no_table || open_ok n s)

-- a due operation is one that fits the mode, the written count and the tail
unfoldable pub operation_ok : Bool → Contents → Operation → Bool
operation_ok comparing t (Erase k) = not comparing && ((eqb t.written 0 && eqb k 0) || (eqb (t.written % sector_size) 0 && eqb k (t.written / sector_size + 1)))
operation_ok comparing t (Write a n) = not comparing && (eqb a t.written && eqb n t.fill)
operation_ok comparing t (Compare a n) = comparing && (eqb a t.written && eqb n t.fill)

unfoldable pub stage_ok : Bool → Contents → Stage → Bool
stage_ok comparing t Idle = not (is_due t)
stage_ok comparing t (Due o) = is_due t && operation_ok comparing t o
stage_ok comparing t HeaderWritten = not comparing && (t.closed && eqb t.fill 0)
stage_ok comparing t Committed = not comparing && (t.closed && eqb t.fill 0)

unfoldable pub in_range : Writer → Bool
in_range w = active_ok w.beginning.active && (contents_ok w.contents && (tables_ok (position w.contents) w.tables && stage_ok w.beginning.comparing w.contents w.stage))

abbrev pub is_done : Result Answer Refusal → Bool
is_done (Ok Done) = true
is_done (Ok (Appended n)) = false
is_done (Ok NoneDue) = false
is_done (Ok Same) = false
is_done (Ok Different) = false
is_done (Err r) = false

-- a call that is done, and one that is refused, which leaves the state unchanged
abbrev pub did : Writer → Step
did w = record { answer = (Ok Done); writer = w }

abbrev pub stays : Writer → Refusal → Step
stays w r = record { answer = Err r; writer = w }
