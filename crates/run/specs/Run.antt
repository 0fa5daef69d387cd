-- The lower layer's calls as one type, and runs of them.
use Rattle.std.specs.Prelude.{Bool, List, [], ◌∷◌, ◌++◌, ℕ, Option, ℤ}
use Rattle.record.specs.declared.Source.{Source}
use Rattle.flash.specs.Flash.{Op, performed}
use Rattle.writer.specs.declared.Writer.{Writer}
use Rattle.writer.specs.declared.Step.{Step}
use Rattle.writer.specs.State.{target}
use Rattle.lower.specs.Lower.{source_step, table_step, bytes_step, end_step, close_step}
use Rattle.due.specs.Due.{due_step, due_ops}
use Rattle.commit.specs.Commit.{commit_step, commit_ops, word_step, word_ops}
use Rattle.commit.specs.Unchanged.{unchanged_step}

-- a call on a state, with its arguments
pub data Lower : Type 0 where
  source : Source → Lower
  table : ℕ → Lower
  bytes : List ℕ → Lower
  end : Lower
  close : Lower
  due : Lower
  unchanged : Lower
  commit : Option ℤ → Bool → Lower
  word : Lower

-- its answer and the state after it, as the calls promise
unfoldable pub lower_step : List ℕ → Writer → Lower → Step
lower_step region w (source s) = source_step w s
lower_step region w (table t) = table_step w t
lower_step region w (bytes xs) = bytes_step w xs
lower_step region w end = end_step w
lower_step region w close = close_step w
lower_step region w due = due_step region w
lower_step region w unchanged = unchanged_step region w
lower_step region w (commit stamp current) = commit_step region w stamp current
lower_step region w word = word_step region w

-- the flash operations that it does, on the bank that is written
unfoldable pub lower_ops : List ℕ → Writer → Lower → List Op
lower_ops region w due = due_ops region w
lower_ops region w (commit stamp current) = commit_ops region w stamp current
lower_ops region w word = word_ops region w
lower_ops region w (source s) = []
lower_ops region w (table t) = []
lower_ops region w (bytes xs) = []
lower_ops region w end = []
lower_ops region w close = []
lower_ops region w unchanged = []

-- the region after it
abbrev pub lower_region : List ℕ → Writer → Lower → List ℕ
lower_region region w c = performed (target w.beginning.active) (lower_ops region w c) region

-- Runs: the state and the region after lower calls, one after the other, and all their operations.
unfoldable pub ran_writer : List ℕ → Writer → List Lower → Writer
ran_writer region w [] = w
ran_writer region w (c ∷ cs) = ran_writer (lower_region region w c) (lower_step region w c).writer cs

unfoldable pub ran_region : List ℕ → Writer → List Lower → List ℕ
ran_region region w [] = region
ran_region region w (c ∷ cs) = ran_region (lower_region region w c) (lower_step region w c).writer cs

unfoldable pub ran_ops : List ℕ → Writer → List Lower → List Op
ran_ops region w [] = []
ran_ops region w (c ∷ cs) = lower_ops region w c ++ ran_ops (lower_region region w c) (lower_step region w c).writer cs
