-- The two entries in the row `row % 5` (`entry_at`) are those of the row and of the row 5 after or before it (`first_entry`, `second-entry`).
use Rattle.std.proofs.Common.{ℕ, ◌/◌, ◌%◌, ◌^◌, arith}
use Rattle.checksum.proofs.table.digit_steps.Goals as goal
use mathlib.Core.Path.{ap, ◌∙◌}
use Rattle.checksum.proofs.Entries.{entry_at}
use Rattle.checksum.proofs.TableLaws.{first_entry, second-entry}

pub returns-then-row-lt-ROWS : goal.returns-then-row-lt-ROWS
returns-then-row-lt-ROWS c =
    let a = c.args in
    ap (λ (z : ℕ). z / 2 ^ 32) (entry_at (a.row % 5) a.d (omega arith) c.requires.1) ∙ first_entry a.row a.d c.if-row-lt-ROWS.true c.requires.1

pub returns : goal.returns
returns c =
    let a = c.args in
    ap (λ (z : ℕ). z % 2 ^ 32) (entry_at (a.row % 5) a.d (omega arith) c.requires.1) ∙ second-entry a.row a.d c.if-row-lt-ROWS.false c.requires.0 c.requires.1
