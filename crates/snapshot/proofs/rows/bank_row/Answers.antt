-- A table's block that is found gives the row of its bytes (`block_row`); else the refusal is the row's (`block_refused`).
use Rattle.std.proofs.Common.{length, ℕ, List, refl, sym, ap, ◌∙◌}
use Rattle.base.proofs.Passed.{passed-on}
use Rattle.rowread.specs.Stored.{read_answer, values_at, joined, ends_of, after}
use Rattle.snapshot.proofs.rows.bank_row.Goals as goal
use Rattle.snapshot.proofs.RowsLaws.{block_row, block_refused}

pub returns-in_err-b : goal.returns-in_err-b
returns-in_err-b c =
    let a = c.args in
    let e = passed-on c.from_residual.result c.from_residual.ensures.1 in
    rw e (block_refused a.region.now a.number a.source a.table a.offset (length a.out.now) (length a.ends.now) _ (sym c.in_err-b.ensures), refl, refl)

pub returns : goal.returns
returns c =
    let q = c.read_row in
    let w = c.column_count-width.ensures in
    let e = c.bytes_of-stored.ensures in
    let a = c.args in
    let l = block_row a.region.now a.number a.source a.table a.offset (length a.out.now) (length a.ends.now) _ (sym c.in_ok-b.ensures) in
    let v = (λ j. values_at (e j) (w j) a.offset) ∙ l.values in (
      q.ensures.0 ∙ (λ j. read_answer (e j) (w j) a.offset (length a.out.now) (length a.ends.now)) ∙ l.answer,
      q.ensures.1 ∙ ap (λ (vs : List (List ℕ)). after q.result (joined vs) a.out.now) v,
      q.ensures.2 ∙ ap (λ (vs : List (List ℕ)). after q.result (ends_of 0 vs) a.ends.now) v,
    )
