-- One case for each guard: region and order; then the run. No bytes are appended, so it always fits.
use Rattle.std.proofs.Common.{true, false}
use Rattle.upper.proofs.begin.close.Goals as goal
use mathlib.Core.Path.{refl, ◌∙◌}
use mathlib.Core.Bool.{not}
use native.Mathlib.Omega.{arith}
use Rattle.writer.specs.State.{is_open}
use Rattle.upper.specs.Upper.{closing, appended_bytes}
use Rattle.upper.proofs.Laws.{none-fits, upper-done, upper-turn, upper-region}
use Rattle.base.proofs.Guards.{one-fails-not, both-hold-not}

pub returns-then-region-ne-REGION_SIZE : goal.returns-then-region-ne-REGION_SIZE
returns-then-region-ne-REGION_SIZE c =
    let a = c.args in
    let d = upper-region a.region.now a.w closing (λ e. omega arith) in
    (c.stays.ensures ∙ d.0, d.1)

pub returns-then-may_append-is_open : goal.returns-then-may_append-is_open
returns-then-may_append-is_open c =
    let t = c in
    let o = t in
    let m = o in
    let a = m.args in
    let d = upper-turn a.region.now a.w closing (omega arith) refl (one-fails-not m.may_append.ensures o.is_open.ensures t.if-may_append-is_open.true) in
    (c.stays-then-may_append-is_open.ensures ∙ d.0, d.1)

pub returns : goal.returns
unfolding appended_bytes
returns c =
    let x = c in
    let t = x in
    let o = t in
    let m = o in
    let a = m.args in
    let h = both-hold-not m.may_append.ensures o.is_open.ensures t.if-may_append-is_open.false in
    let d = upper-done a.region.now a.w closing (omega arith) refl h refl (none-fits a.w (not (is_open a.w.tables)) h) x.run_close-v.result x.run_close-v.new.region x.run_close-v.ensures.0 x.run_close-v.ensures.1 in
    (c.did.ensures ∙ d.0, d.1)
