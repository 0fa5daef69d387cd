-- Due calls, the lower call, due calls and the names line: the run of the call (`call-writer`, `call-region`).
use Rattle.std.proofs.Common.{◌++◌, take, ℕ, List}
use Rattle.run.specs.Run.{ran_writer, ran_region}
use Rattle.upper.proofs.table.run_table.Goals as goal
use mathlib.Core.Path.{ap, ◌∙◌}
use native.Mathlib.Nat.{sub-zero}
use Rattle.run.specs.Run.{table, lower_step}
use Rattle.run.specs.Appends.{dues, appends}
use Rattle.upper.proofs.Laws.{still-table, call-writer, call-region}

pub returns : goal.returns
unfolding lower_step
returns c =
    let z = c.flush_append in
    let e = c in
    let y = e in
    let a = y.args in
    let v = y.flush-v.result in
    let r = y.flush-v.new.region in
    let cs = dues ++ appends (take a.n a.names) in
    let k = ap (λ (n : ℕ). take n a.names) (sub-zero a.n) in (
      call-writer a.region.now a.w (table a.table) (still-table a.table) cs v r y.flush-v.ensures.0 y.flush-v.ensures.1 e.table-t.result e.table-t.ensures z.result (z.ensures.0 ∙ ap (λ (l : List ℕ). ran_writer r e.table-t.result.writer (dues ++ appends l)) k),
      call-region a.region.now a.w (table a.table) (still-table a.table) cs v r y.flush-v.ensures.0 y.flush-v.ensures.1 e.table-t.result e.table-t.ensures z.new.region (z.ensures.1 ∙ ap (λ (l : List ℕ). ran_region r e.table-t.result.writer (dues ++ appends l)) k),
    )
