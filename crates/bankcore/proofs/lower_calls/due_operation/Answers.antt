-- One case for each operation.
use Rattle.std.proofs.Common.{ℕ, ◌+◌, ◌*◌, length}
use Rattle.bankcore.proofs.lower_calls.due_operation.Goals as goal
use mathlib.Core.Path.{sym, ap, ◌∙◌}
use Rattle.region.specs.Region.{sector_size}
use Rattle.writer.specs.State.{target}
use Rattle.bankcore.specs.Operation.{due_operation, operation, operation_erase, operation_write, operation_compare}

pub returns-in-Erase : goal.returns-in-Erase
unfolding due_operation
returns-in-Erase c =
    let l = c.args.l in
    ap (λ (n : ℕ). operation operation_erase n (c.in-Erase.sector * sector_size) sector_size) c.target.ensures ∙ sym (ap (due_operation l) c.in-Erase.is)

pub returns-in-Write : goal.returns-in-Write
unfolding due_operation
returns-in-Write c =
    let l = c.args.l in
    let a = sector_size + c.in-Write.offset in
    ap (λ (n : ℕ). operation operation_write n a c.padded_length.result) c.target-in-Write.ensures
    ∙ ap (operation operation_write (target l) a) c.padded_length.ensures
    ∙ sym (ap (due_operation l) c.in-Write.is)

pub returns-in-Compare : goal.returns-in-Compare
unfolding due_operation
returns-in-Compare c =
    let l = c.args.l in
    ap (λ (n : ℕ). operation operation_compare n (sector_size + c.in-Compare.offset) c.in-Compare.length) c.compared.ensures ∙ sym (ap (due_operation l) c.in-Compare.is)
