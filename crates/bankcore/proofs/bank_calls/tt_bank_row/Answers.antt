-- The row of the table's bytes, read by `tt_read_row`, is the bank's row (`block_row`); a refused block is a refused row (`block_refused`).
use Rattle.std.proofs.Common.{length, Result, Option}
use Rattle.bankcore.proofs.bank_calls.tt_bank_row.Goals as goal
use mathlib.Core.Path.{sym, ap, ◌∙◌}
use Rattle.rowread.specs.Stored.{joined, ends_of, after, read_answer, values_at}
use Rattle.snapshot.specs.Rows.{bank_row_answer, values_in}
use Rattle.snapshot.proofs.RowsLaws.{block_row, block_refused}
use Rattle.bankcore.specs.BankAnswers.{of_bank_row, no_bank_row, as_bank_row}
use Rattle.bankcore.specs.RowAnswers.{of_read}
use Rattle.bankcore.proofs.Laws.{as_row}
use Rattle.refusal.specs.declared.Refusal.{Refusal}
use Rattle.rowread.specs.declared.Span.{Span}

pub returns-in-Ok : goal.returns-in-Ok
returns-in-Ok c =
    let t = c.tt_read_row in
    let w = c.column_count-width.ensures in
    let e = c.bytes_of-stored.ensures in
    let a = c.args in
    let l = block_row a.region.now a.bank a.source a.table a.place (length a.out.now) (length a.ends.now) _ (sym c.table_block-a.ensures ∙ c.in-Ok.is) in
    let k = (λ j. read_answer (e j) (w j) a.place (length a.out.now) (length a.ends.now)) ∙ l.answer in
    let v = (λ j. values_at (e j) (w j) a.place) ∙ l.values in
    record {
      value = c.from.ensures ∙ ap as_bank_row (t.ensures.value ∙ ap of_read k) ∙ as_row (bank_row_answer a.region.now a.bank a.source a.table a.place (length a.out.now) (length a.ends.now));
      out_after = t.ensures.out_after ∙ (λ j. after (k j) (joined (v j)) a.out.now);
      ends_after = t.ensures.ends_after ∙ (λ j. after (k j) (ends_of 0 (v j)) a.ends.now);
    }

pub returns-in-Err : goal.returns-in-Err
returns-in-Err c =
    let a = c.args in
    let k = block_refused a.region.now a.bank a.source a.table a.place (length a.out.now) (length a.ends.now) _ (sym c.table_block-a.ensures ∙ c.in-Err.is) in
    let values = values_in a.region.now a.bank a.source a.table a.place in
    record {
      value = c.no_bank_row.ensures ∙ ap no_bank_row c.number_u32.ensures ∙ ap of_bank_row k;
      out_after = ap (λ (x : Result (Option Span) Refusal). after x (joined values) a.out.now) k;
      ends_after = ap (λ (x : Result (Option Span) Refusal). after x (ends_of 0 values) a.ends.now) k;
    }
