-- Commit: two writes, one a call: the whole header with 255 in the commit word, then the word.
use Rattle.std.specs.Prelude.{Bool, true, false, not, ◌&&◌, List, [], ◌∷◌, ℕ, eqb, ℤ, length, take, get_or, Some, None, Option}
use Rattle.std.specs.Int.Signed.{le_z}
use Rattle.base.specs.Number.{pick}
use Rattle.refusal.specs.declared.Refusal.TheVariants.{Region, Turn, Obsolete, Unfit}
use Rattle.record.specs.declared.Source.{Source}
use Rattle.record.specs.Record.{no_block, current_version}
use Rattle.header.specs.declared.Bank.{Bank}
use Rattle.region.specs.Region.{region_size}
use Rattle.header.specs.WriteHeader.{header_bytes, blank_word, commit_bytes, is_fit}
use Rattle.flash.specs.Flash.{Op, write, performed}
use Rattle.writer.specs.declared.Stage.{Stage}
use Rattle.writer.specs.declared.Stage.TheVariants.{Idle, Due, HeaderWritten, Committed}
use Rattle.writer.specs.declared.Writer.{Writer}
use Rattle.writer.specs.declared.Step.{Step}
use Rattle.writer.specs.State.{target, next_generation, key_length, in_range, did, stays}
use Rattle.lower.specs.Lower.{past_end}
use Rattle.due.specs.Due.{with_stage}
use Rattle.header.specs.Header.{commit_offset}

-- "the checked time is the host's stamp if at least now, else now"
abbrev pub checked_time : Option ℤ → ℤ → ℤ
checked_time (Some s) now = pick (le_z now s) s now
checked_time None now = now

-- the offset of the first source's Routes
abbrev pub routes_offset : List Source → ℕ
routes_offset ss = (get_or (get_or ss 0 past_end).tables 0 no_block).offset

-- the bank to be committed, and its records
unfoldable pub bank_for : Writer → Option ℤ → Bank
bank_for w stamp =
    record {
      number = target w.beginning.active;
      version = current_version;
      generation = next_generation w.beginning.active;
      length = w.contents.written;
      crc = w.contents.crc;
      count = w.tables.count;
      key = key_length (routes_offset w.sources);
      checked = checked_time stamp w.beginning.now;
    }

abbrev pub records_for : Writer → List Source
records_for w = take w.tables.count w.sources

abbrev pub is_idle : Stage → Bool
is_idle Idle = true
is_idle (Due o) = false
is_idle HeaderWritten = false
is_idle Committed = false

abbrev pub is_header_written : Stage → Bool
is_header_written HeaderWritten = true
is_header_written Idle = false
is_header_written (Due o) = false
is_header_written Committed = false

-- the first call: 1; 11 before closing, while an operation is due, or once it was answered; 12; 13
abbrev pub may_commit : Writer → Bool
may_commit w = in_range w && (w.contents.closed && is_idle w.stage)

abbrev pub is_current : Writer → Bool → Bool
is_current w current = not w.beginning.comparing && current

unfoldable pub commit_step : List ℕ → Writer → Option ℤ → Bool → Step
commit_step region w stamp current =
    pick (eqb (length region) region_size)
    (pick (may_commit w)
    (pick (is_current w current)
    (pick (is_fit (bank_for w stamp) (records_for w)) (did (with_stage w HeaderWritten)) (stays w Unfit))
    (stays w Obsolete))
    (stays w Turn))
    (stays w Region)

unfoldable pub commit_ops : List ℕ → Writer → Option ℤ → Bool → List Op
commit_ops region w stamp current =
    pick (eqb (length region) region_size && (may_commit w && (is_current w current && is_fit (bank_for w stamp) (records_for w))))
    (write 0 (header_bytes (bank_for w stamp) (records_for w) blank_word) ∷ [])
    []

unfoldable pub commit_region : List ℕ → Writer → Option ℤ → Bool → List ℕ
commit_region region w stamp current = performed (target w.beginning.active) (commit_ops region w stamp current) region

-- the second call: 1; 11 unless the first one was answered
unfoldable pub word_step : List ℕ → Writer → Step
word_step region w =
    pick (eqb (length region) region_size)
    (pick (in_range w && is_header_written w.stage) (did (with_stage w Committed)) (stays w Turn))
    (stays w Region)

unfoldable pub word_ops : List ℕ → Writer → List Op
word_ops region w = pick (eqb (length region) region_size && (in_range w && is_header_written w.stage)) (write commit_offset commit_bytes ∷ []) []

unfoldable pub word_region : List ℕ → Writer → List ℕ
word_region region w = performed (target w.beginning.active) (word_ops region w) region
