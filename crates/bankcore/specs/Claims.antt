-- What is proved of the next operation beyond its call's promise (proofs/Told.antt).
use Rattle.std.specs.Prelude.{Bool, List, [], ◌∷◌, ◌≡◌, ℕ, length, Option, ℤ}
use Rattle.region.specs.Region.{sector_size}
use Rattle.record.specs.Types.{All}
use Rattle.header.specs.Types.{Proper}
use Rattle.flash.specs.Flash.{Op, erase, write, offset, size}
use Rattle.writer.specs.declared.Writer.{Writer}
use Rattle.writer.specs.State.{target, tail_size}
use Rattle.due.specs.Due.{due_ops}
use Rattle.commit.specs.Commit.{commit_ops, word_ops, records_for}
use Rattle.bankcore.specs.declared.lower_calls.OperationNumbers.{OperationNumbers}
use Rattle.bankcore.specs.Operation.{operation, operation_erase, operation_write, operation_header, operation_commit_word, operation_of}

-- an erase and a write of a bank, as numbers
abbrev pub of_op : ℕ → Op → OperationNumbers
of_op bank (erase at) = operation operation_erase bank at sector_size
of_op bank (write at ws) = operation operation_write bank at (length ws)

-- the erase or write that the due call does is the one that is told; a state's tail is an array of 256 bytes
abbrev pub DueIsTold : Type 0
DueIsTold =
    (region : List ℕ) (w : Writer) (op : Op)
    → length w.tail ≡ tail_size
    → due_ops region w ≡ op ∷ []
    → operation_of w ≡ of_op (target w.beginning.active) op

-- so is the header that the first commit call writes, from records that have their types
abbrev pub HeaderIsTold : Type 0
HeaderIsTold =
    (region : List ℕ) (w : Writer) (stamp : Option ℤ) (current : Bool) (op : Op)
    → All Proper (records_for w)
    → commit_ops region w stamp current ≡ op ∷ []
    → operation_of w ≡ operation operation_header (target w.beginning.active) (offset op) (size op)

-- and the commit word that the second one writes
abbrev pub WordIsTold : Type 0
WordIsTold =
    (region : List ℕ) (w : Writer) (op : Op)
    → word_ops region w ≡ op ∷ []
    → operation_of w ≡ operation operation_commit_word (target w.beginning.active) (offset op) (size op)

-- all of them: what `operations_hold` promises
pub record Claims : Type 0 where
  pub due_is_told : DueIsTold
  pub header_is_told : HeaderIsTold
  pub word_is_told : WordIsTold
