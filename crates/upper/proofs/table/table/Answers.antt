-- One case for each guard: region, table, order, capacity; then the run.
use Rattle.std.proofs.Common.{◌++◌, ◌∷◌, ℕ, ◌+◌, true, false, List}
use Rattle.run.specs.Run.{ran_writer, ran_region}
use Rattle.upper.proofs.table.table.Goals as goal
use mathlib.Core.Path.{refl, sym, ap, ◌∙◌}
use native.Mathlib.Omega.{arith}
use lib.Dec.{leb}
use borrow.Author.Tests.{le-leb, lt-leb}
use Rattle.writer.specs.State.{position}
use Rattle.run.specs.Run.{table}
use Rattle.run.specs.Appends.{dues, appends}
use Rattle.upper.specs.Upper.{table_with_names, appended_bytes, run_of}
use Rattle.upper.proofs.Laws.{upper-done, upper-full, upper-turn, upper-argument, upper-region}
use Rattle.base.proofs.Guards.{one-fails, both_hold}
use Rattle.region.specs.Region.{capacity}

pub returns-then-region-ne-REGION_SIZE : goal.returns-then-region-ne-REGION_SIZE
returns-then-region-ne-REGION_SIZE c =
    let a = c.args in
    let d = upper-region a.region.now a.w (table_with_names a.table) (λ e. omega arith) in
    (c.stays.ensures ∙ d.0, d.1)

pub returns-then-table-gt-LAST_TABLE : goal.returns-then-table-gt-LAST_TABLE
returns-then-table-gt-LAST_TABLE c =
    let a = c.args in
    let d = upper-argument a.region.now a.w (table_with_names a.table) (omega arith) (lt-leb a.table 7 (omega arith)) in
    (c.stays-then-table-gt-LAST_TABLE.ensures ∙ d.0, d.1)

pub returns-then-may_append-may_begin : goal.returns-then-may_append-may_begin
returns-then-may_append-may_begin c =
    let g = c in
    let o = g in
    let m = o in
    let a = m.args in
    let d = upper-turn a.region.now a.w (table_with_names a.table) (omega arith) (le-leb a.table 7 (omega arith)) (one-fails m.may_append.ensures o.may_begin.ensures g.if-may_append-may_begin.true) in
    (c.stays-then-may_append-may_begin.ensures ∙ d.0, d.1)

pub returns-then-not-fits : goal.returns-then-not-fits
unfolding appended_bytes
returns-then-not-fits c =
    let t = c in
    let f = t in
    let n = f in
    let g = n in
    let o = g in
    let m = o in
    let a = m.args in
    let h = le-leb a.table 7 (omega arith) in
    let d = upper-full a.region.now a.w (table_with_names a.table) (omega arith) h (both_hold m.may_append.ensures o.may_begin.ensures g.if-may_append-may_begin.false) refl (ap (λ (k : ℕ). leb (position a.w.contents + k) capacity) (sym n.names-l.ensures.1) ∙ sym f.fits.ensures ∙ t.if-not-fits.true) in
    (c.stays-then-not-fits.ensures ∙ d.0, d.1)

pub returns : goal.returns
unfolding appended_bytes run_of
returns c =
    let x = c in
    let t = x in
    let f = t in
    let n = f in
    let g = n in
    let o = g in
    let m = o in
    let a = m.args in
    let h = le-leb a.table 7 (omega arith) in
    let e = n.names-l.ensures in
    let d =
    upper-done a.region.now a.w (table_with_names a.table) (omega arith) h
    (both_hold m.may_append.ensures o.may_begin.ensures g.if-may_append-may_begin.false)
    refl
    (ap (λ (k : ℕ). leb (position a.w.contents + k) capacity) (sym e.1) ∙ sym f.fits.ensures ∙ t.if-not-fits.false)
    x.run_table-v.result
    x.run_table-v.new.region
    (x.run_table-v.ensures.0 ∙ ap (λ (l : List ℕ). ran_writer a.region.now a.w (dues ++ (table a.table ∷ (dues ++ appends l)))) e.2)
    (x.run_table-v.ensures.1 ∙ ap (λ (l : List ℕ). ran_region a.region.now a.w (dues ++ (table a.table ∷ (dues ++ appends l)))) e.2) in
    (c.did.ensures ∙ d.0, d.1)
