-- The operation that comes next in an update, as numbers for C: what the due call does, else what a commit writes. Refusal 0 means none; on a
-- refusal the other numbers are 0.
use Rattle.std.specs.Prelude.{not, ◌&&◌, ℕ, ◌+◌, ◌*◌, ◌-◌, ◌%◌, Ok, Err, Some, None, Result, Option}
use Rattle.base.specs.Number.{pick}
use Rattle.leaf.specs.Bytes.{word_size}
use Rattle.refusal.specs.declared.Refusal.TheVariants.{Turn}
use Rattle.refusal.specs.Refusal.{number_of}
use Rattle.region.specs.Region.{sector_size, write_unit}
use Rattle.header.specs.Header.{commit_offset, header_size}
use Rattle.writer.specs.declared.Beginning.{Beginning}
use Rattle.writer.specs.declared.Contents.{Contents}
use Rattle.writer.specs.declared.Operation.{Operation}
use Rattle.writer.specs.declared.Operation.TheVariants.{Erase, Write, Compare}
use Rattle.writer.specs.declared.Stage.{Stage}
use Rattle.writer.specs.declared.Stage.TheVariants.{Idle, Due, HeaderWritten, Committed}
use Rattle.writer.specs.declared.Writer.{Writer}
use Rattle.writer.specs.State.{target, in_range}
use Rattle.bankcore.specs.declared.lower_calls.OperationNumbers.{OperationNumbers}
use Rattle.refusal.specs.declared.Refusal.{Refusal}
use Rattle.header.specs.declared.Bank.{Bank}

-- the numbers of operations
abbrev pub operation_none : ℕ
operation_none = 0

abbrev pub operation_erase : ℕ
operation_erase = 1

abbrev pub operation_write : ℕ
operation_write = 2

abbrev pub operation_compare : ℕ
operation_compare = 3

abbrev pub operation_header : ℕ
operation_header = 4

abbrev pub operation_commit_word : ℕ
operation_commit_word = 5

abbrev pub no_operation : ℕ → OperationNumbers
no_operation refusal = record { refusal = refusal; kind = operation_none; bank = 0; offset = 0; length = 0 }

-- an operation on a bank, from an offset of the bank on
abbrev pub operation : ℕ → ℕ → ℕ → ℕ → OperationNumbers
operation kind bank offset length = record { refusal = 0; kind = kind; bank = bank; offset = offset; length = length }

-- the bank that is compared with; 0 with no active bank
unfoldable pub compared : Result (Option Bank) Refusal → ℕ
compared (Ok (Some b)) = b.number
compared (Ok None) = 0
compared (Err r) = 0

-- "The last write is padded with 255 to a multiple of 4."
abbrev pub padded_length : ℕ → ℕ
padded_length n = n + (write_unit - n % write_unit) % write_unit

-- what the due call does: an erase and a write change the bank that isn't active, a comparison reads the active one
unfoldable pub due_operation : Result (Option Bank) Refusal → Operation → OperationNumbers
due_operation l (Erase k) = operation operation_erase (target l) (k * sector_size) sector_size
due_operation l (Write a n) = operation operation_write (target l) (sector_size + a) (padded_length n)
due_operation l (Compare a n) = operation operation_compare (compared l) (sector_size + a) n

-- with nothing due: the header, which the first commit call of a closed update writes; none before closing and in comparing mode
unfoldable pub idle_operation : Beginning → Contents → OperationNumbers
idle_operation b t = pick (t.closed && not b.comparing) (operation operation_header (target b.active) 0 header_size) (no_operation 0)

-- the second commit call's
abbrev pub word_operation : Result (Option Bank) Refusal → OperationNumbers
word_operation l = operation operation_commit_word (target l) commit_offset word_size

unfoldable pub next_operation : Beginning → Contents → Stage → OperationNumbers
next_operation b t Idle = idle_operation b t
next_operation b t (Due o) = due_operation b.active o
next_operation b t HeaderWritten = word_operation b.active
next_operation b t Committed = no_operation 0

-- 11 by range
unfoldable pub operation_of : Writer → OperationNumbers
operation_of w = pick (in_range w) (next_operation w.beginning w.contents w.stage) (no_operation (number_of Turn))
