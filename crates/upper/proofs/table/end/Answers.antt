-- One case for each guard: region and order; then the run. No bytes are appended, so it always fits.
use Rattle.std.proofs.Common.{true, false}
use Rattle.upper.proofs.table.end.Goals as goal
use mathlib.Core.Path.{refl, sym, ◌∙◌}
use native.Mathlib.Omega.{arith}
use Rattle.upper.specs.Upper.{table_end, appended_bytes}
use Rattle.upper.proofs.Laws.{end_fits, upper-done, upper-turn, upper-region}

pub returns-then-region-ne-REGION_SIZE : goal.returns-then-region-ne-REGION_SIZE
returns-then-region-ne-REGION_SIZE c =
    let a = c.args in
    let d = upper-region a.region.now a.w table_end (λ e. omega arith) in
    (c.stays.ensures ∙ d.0, d.1)

pub returns-then-not-may_end : goal.returns-then-not-may_end
returns-then-not-may_end c =
    let t = c in
    let m = t in
    let a = m.args in
    let d = upper-turn a.region.now a.w table_end (omega arith) refl (sym m.may_end.ensures ∙ t.if-not-may_end.true) in
    (c.stays-then-not-may_end.ensures ∙ d.0, d.1)

pub returns : goal.returns
unfolding appended_bytes
returns c =
    let x = c in
    let t = x in
    let m = t in
    let a = m.args in
    let h = sym m.may_end.ensures ∙ t.if-not-may_end.false in
    let d = upper-done a.region.now a.w table_end (omega arith) refl h refl (end_fits a.w h) x.run_end-v.result x.run_end-v.new.region x.run_end-v.ensures.0 x.run_end-v.ensures.1 in
    (c.did.ensures ∙ d.0, d.1)
