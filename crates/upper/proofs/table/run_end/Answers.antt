-- Due calls, the lower call, due calls: the run of the call (`call-writer`, `call-region`).
use Rattle.upper.proofs.table.run_end.Goals as goal
use Rattle.run.specs.Run.{end, lower_step}
use Rattle.run.specs.Appends.{dues, appends}
use Rattle.upper.specs.Upper.{appended_bytes, run_of}
use Rattle.upper.proofs.Laws.{still-end, call-writer, call-region}

pub returns : goal.returns
unfolding run_of appends appended_bytes lower_step
returns c =
    let z = c.flush in
    let e = c in
    let y = e in
    let a = y.args in
    let v = y.flush-v.result in
    let r = y.flush-v.new.region in (
      call-writer a.region.now a.w end still-end dues v r y.flush-v.ensures.0 y.flush-v.ensures.1 e.end-e.result e.end-e.ensures z.result z.ensures.0,
      call-region a.region.now a.w end still-end dues v r y.flush-v.ensures.0 y.flush-v.ensures.1 e.end-e.result e.end-e.ensures z.new.region z.ensures.1,
    )
