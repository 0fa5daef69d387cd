-- Due: "One call does exactly one erase or write, or says none is due." In comparing mode it compares the tail instead.
use Rattle.std.specs.Prelude.{Bool, true, not, ◌&&◌, ◌||◌, List, [], ◌∷◌, ◌++◌, ℕ, ◌+◌, ◌*◌, ◌-◌, ◌%◌, leb, eqb, length, take, drop, Ok, Err, Some, None, Result, Option}
use Rattle.base.specs.Number.{pick}
use Rattle.refusal.specs.declared.Refusal.TheVariants.{Region, Turn}
use Rattle.base.specs.Lists.{fill}
use Rattle.base.specs.Same.{same}
use Rattle.region.specs.Region.{region_size, sector_size, erased_byte, write_unit, bank_of}
use Rattle.flash.specs.Flash.{Op, erase, write, performed}
use Rattle.writer.specs.declared.Operation.{Operation}
use Rattle.writer.specs.declared.Operation.TheVariants.{Erase, Write, Compare}
use Rattle.writer.specs.declared.Stage.{Stage}
use Rattle.writer.specs.declared.Stage.TheVariants.{Idle, Due, HeaderWritten, Committed}
use Rattle.writer.specs.declared.Contents.{Contents}
use Rattle.writer.specs.declared.Writer.{Writer}
use Rattle.writer.specs.declared.Answer.TheVariants.{NoneDue}
use Rattle.writer.specs.declared.Step.{Step}
use Rattle.writer.specs.State.{position, write_due, data_due, target, in_range, did, stays}
use Rattle.refusal.specs.declared.Refusal.{Refusal}
use Rattle.header.specs.declared.Bank.{Bank}

-- "The last write is padded with 255 to a multiple of 4."
unfoldable pub padded : List ℕ → List ℕ
padded xs = xs ++ fill erased_byte ((write_unit - length xs % write_unit) % write_unit)

-- the flash operation that is due, on the bank that is written
abbrev pub ops_of : List ℕ → Stage → List Op
ops_of tail (Due (Erase k)) = erase (k * sector_size) ∷ []
ops_of tail (Due (Write a n)) = write (sector_size + a) (padded (take n tail)) ∷ []
ops_of tail (Due (Compare a n)) = []
ops_of tail Idle = []
ops_of tail HeaderWritten = []
ops_of tail Committed = []

unfoldable pub due_ops : List ℕ → Writer → List Op
due_ops region w = pick (eqb (length region) region_size && in_range w) (ops_of w.tail w.stage) []

unfoldable pub due_region : List ℕ → Writer → List ℕ
due_region region w = performed (target w.beginning.active) (due_ops region w) region

-- comparing: the tail's bytes differ from the active bank's at the same offset, or go past its data
unfoldable pub differs : List ℕ → Result (Option Bank) Refusal → Contents → List ℕ → Bool
differs region (Ok (Some b)) t tail =
    not (leb (position t) b.length) || not (same (take t.fill (drop (sector_size + t.written) (bank_of region b.number))) (take t.fill tail))
differs region (Ok None) t tail = true
differs region (Err r) t tail = true

-- the tail is written or compared: it is empty again
abbrev pub emptied : Contents → Bool → Contents
emptied t different = record { written = position t; fill = 0; crc = t.crc; different = different; closed = t.closed }

abbrev pub with_stage : Writer → Stage → Writer
with_stage w s = record { stage = s; beginning = w.beginning; contents = w.contents; tables = w.tables; sources = w.sources; tail = w.tail }

abbrev pub with_emptied : Writer → Bool → Writer
with_emptied w d = record { stage = Idle; beginning = w.beginning; contents = emptied w.contents d; tables = w.tables; sources = w.sources; tail = w.tail }

-- the state after the operation: after the erase of the header sector that of the first data sector is due, after another the write
unfoldable pub operated : List ℕ → Writer → Operation → Writer
operated region w (Erase k) = with_stage w (Due (pick (eqb k 0) (data_due w.contents) (write_due w.contents)))
operated region w (Write a n) = with_emptied w w.contents.different
operated region w (Compare a n) = with_emptied w (w.contents.different || differs region w.beginning.active w.contents w.tail)

abbrev pub step_of : List ℕ → Writer → Stage → Step
step_of region w (Due o) = did (operated region w o)
step_of region w Idle = record { answer = (Ok NoneDue); writer = w }
step_of region w HeaderWritten = record { answer = (Ok NoneDue); writer = w }
step_of region w Committed = record { answer = (Ok NoneDue); writer = w }

-- 1, then 11 by range
unfoldable pub due_step : List ℕ → Writer → Step
due_step region w =
    pick (eqb (length region) region_size)
    (pick (in_range w) (step_of region w w.stage) (stays w Turn))
    (stays w Region)
