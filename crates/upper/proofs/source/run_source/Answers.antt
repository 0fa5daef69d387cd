-- Due calls, the lower call, due calls and the dates: the run of the call (`call-writer`, `call-region`).
use Rattle.std.proofs.Common.{◌++◌, ℕ, List}
use Rattle.leaf.specs.Bytes.{le32}
use Rattle.run.specs.Run.{ran_writer, ran_region}
use Rattle.upper.proofs.source.run_source.Goals as goal
use mathlib.Core.Path.{ap, ◌∙◌}
use Rattle.run.specs.Run.{source, lower_step}
use Rattle.run.specs.Appends.{dues, appends}
use Rattle.upper.specs.Upper.{appended_bytes, run_of}
use Rattle.upper.proofs.Laws.{still-source, call-writer, call-region}

pub returns : goal.returns
unfolding run_of appended_bytes lower_step
returns c =
    let z = c.flush_append in
    let e = c in
    let y = e in
    let d = y in
    let a = d.args in
    let v = y.flush-v.result in
    let r = y.flush-v.new.region in
    let bs = le32 a.s.start ++ le32 a.s.end in (
      call-writer a.region.now a.w (source a.s) (still-source a.s) (dues ++ appends bs) v r y.flush-v.ensures.0 y.flush-v.ensures.1 e.source-t.result e.source-t.ensures z.result (z.ensures.0 ∙ ap (λ (l : List ℕ). ran_writer r e.source-t.result.writer (dues ++ appends l)) d.dates-d.ensures),
      call-region a.region.now a.w (source a.s) (still-source a.s) (dues ++ appends bs) v r y.flush-v.ensures.0 y.flush-v.ensures.1 e.source-t.result e.source-t.ensures z.new.region (z.ensures.1 ∙ ap (λ (l : List ℕ). ran_region r e.source-t.result.writer (dues ++ appends l)) d.dates-d.ensures),
    )
