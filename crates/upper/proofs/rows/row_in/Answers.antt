-- A row written in the short buffer is the row; if it isn't written there, the long buffer decides. Then capacity; then the run of the
-- row's bytes.
use Rattle.std.proofs.Common.{true, List, ◌++◌, length, ℕ, ◌+◌, false}
use Rattle.writer.specs.Parts.{whole_of, step_with}
use Rattle.upper.proofs.rows.row_in.Goals as goal
use mathlib.Core.Path.{refl, sym, ap, ◌∙◌}
use native.Mathlib.Omega.{arith}
use lib.Dec.{leb}
use lib.ListN.{replicate}
use Rattle.writer.specs.declared.PartsStep.{PartsStep}
use Rattle.writer.specs.State.{position}
use Rattle.run.specs.Run.{ran_writer, ran_region}
use Rattle.run.specs.Appends.{dues, appends}
use Rattle.upper.specs.Upper.{row, appended_bytes, run_of}
use Rattle.upper.proofs.Laws.{row_written, row-length, row-there, upper-done, upper-full}
use Rattle.region.specs.Region.{capacity}

pub returns-then-not-fits : goal.returns-then-not-fits
unfolding appended_bytes
returns-then-not-fits c =
    λ ss.
    let r = c in
    let s = r in
    let y = s.args in
    let t = c in
    let f = t in
    let w = row_written y.p.tables.table y.texts.now y.lengths.now (replicate 512 0) r.row-a.new.out r.row-a.result s.requires.2 r.row-a.ensures.0 r.row-a.ensures.1 c.in-Ok.n c.in-Ok.is in
    let d = upper-full y.region.now (whole_of y.b y.p ss y.tail.now) (row y.texts.now y.lengths.now) s.requires.0 refl (s.requires.1 ss) w.0 (ap (λ (k : ℕ). leb (position y.p.contents + k) capacity) (sym w.1) ∙ sym f.fits.ensures ∙ t.if-not-fits.true) in
    (ap (λ (z : PartsStep). step_with y.b z ss y.tail.now) c.parts_stay.ensures ∙ d.0, d.1)

pub run_row-q-requires : goal.run_row-q-requires
run_row-q-requires c =
    let r = c in
    let s = r in
    let y = s.args in
    let k = row-length y.p.tables.table y.texts.now y.lengths.now (replicate 512 0) r.row-a.new.out r.row-a.result s.requires.2 r.row-a.ensures.0 r.row-a.ensures.1 c.in-Ok.n c.in-Ok.is in
    omega (arith, k)

pub returns : goal.returns
unfolding appended_bytes run_of
returns c =
    λ ss.
    let r = c in
    let s = r in
    let y = s.args in
    let x = c in
    let t = x in
    let f = t in
    let w = row_written y.p.tables.table y.texts.now y.lengths.now (replicate 512 0) r.row-a.new.out r.row-a.result s.requires.2 r.row-a.ensures.0 r.row-a.ensures.1 c.in-Ok.n c.in-Ok.is in
    let b = row-there y.p.tables.table y.texts.now y.lengths.now (replicate 512 0) r.row-a.new.out r.row-a.result s.requires.2 r.row-a.ensures.0 r.row-a.ensures.1 c.in-Ok.n c.in-Ok.is in
    let d =
    upper-done y.region.now (whole_of y.b y.p ss y.tail.now) (row y.texts.now y.lengths.now) s.requires.0 refl (s.requires.1 ss) w.0
    (ap (λ (k : ℕ). leb (position y.p.contents + k) capacity) (sym w.1) ∙ sym f.fits.ensures ∙ t.if-not-fits.false)
    (whole_of y.b x.run_row-q.result ss x.run_row-q.new.tail)
    x.run_row-q.new.region
    ((x.run_row-q.ensures ss).0 ∙ ap (λ (l : List ℕ). ran_writer y.region.now (whole_of y.b y.p ss y.tail.now) (dues ++ (dues ++ appends l))) b)
    ((x.run_row-q.ensures ss).1 ∙ ap (λ (l : List ℕ). ran_region y.region.now (whole_of y.b y.p ss y.tail.now) (dues ++ (dues ++ appends l))) b) in
    (ap (λ (z : PartsStep). step_with y.b z ss x.run_row-q.new.tail) c.parts_did.ensures ∙ d.0, d.1)
