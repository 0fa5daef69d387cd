-- One case for each guard: region, order, and full by sources or by bytes; then the run.
use Rattle.std.proofs.Common.{true, false}
use Rattle.leaf.specs.Bytes.{le32}
use Rattle.upper.proofs.source.source.Goals as goal
use mathlib.Core.Path.{refl, ◌∙◌}
use native.Mathlib.Omega.{arith}
use Rattle.upper.specs.Upper.{source_with_dates, appended_bytes}
use Rattle.upper.proofs.Laws.{source_fits, source-full, upper-done, upper-full, upper-turn, upper-region}
use Rattle.base.proofs.Guards.{one-fails-not, both-hold-not}

pub returns-then-region-ne-REGION_SIZE : goal.returns-then-region-ne-REGION_SIZE
returns-then-region-ne-REGION_SIZE c =
    let a = c.args in
    let d = upper-region a.region.now a.w (source_with_dates a.s) (λ e. omega arith) in
    (c.stays.ensures ∙ d.0, d.1)

pub returns-then-may_append-is_open : goal.returns-then-may_append-is_open
returns-then-may_append-is_open c =
    let g = c in
    let o = g in
    let m = o in
    let a = m.args in
    let d = upper-turn a.region.now a.w (source_with_dates a.s) (omega arith) refl (one-fails-not m.may_append.ensures o.is_open.ensures g.if-may_append-is_open.true) in
    (c.stays-then-may_append-is_open.ensures ∙ d.0, d.1)

pub returns-then-x-fits : goal.returns-then-x-fits
unfolding appended_bytes le32
returns-then-x-fits c =
    let t = c in
    let f = t in
    let g = f in
    let o = g in
    let m = o in
    let a = m.args in
    let d = upper-full a.region.now a.w (source_with_dates a.s) (omega arith) refl (both-hold-not m.may_append.ensures o.is_open.ensures g.if-may_append-is_open.false) refl (source-full a.w.tables.count f.fits.ensures t.if-x-fits.true) in
    (c.stays-then-x-fits.ensures ∙ d.0, d.1)

pub returns : goal.returns
unfolding appended_bytes le32
returns c =
    let x = c in
    let t = x in
    let f = t in
    let g = f in
    let o = g in
    let m = o in
    let a = m.args in
    let d =
    upper-done a.region.now a.w (source_with_dates a.s) (omega arith) refl
    (both-hold-not m.may_append.ensures o.is_open.ensures g.if-may_append-is_open.false)
    refl
    (source_fits a.w.tables.count f.fits.ensures t.if-x-fits.false)
    x.run_source-v.result
    x.run_source-v.new.region
    x.run_source-v.ensures.0
    x.run_source-v.ensures.1 in
    (c.did.ensures ∙ d.0, d.1)
