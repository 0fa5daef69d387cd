-- The search found a row end before any quote, and one comma fewer than values: the values between the commas are the row's (`line-holds`). Where it found no
-- row end, what is read is what `short_row` reads. On every other path nothing was written.
use Rattle.std.proofs.Common.{◌≡◌, ◌+◌, ◌≤◌, length, take}
use Rattle.rowread.specs.Steps.{cuts_in}
use Rattle.rowread.proofs.line.fast_row.Goals as goal
use native.Mathlib.Omega.{arith}
use mathlib.Core.Path.{sym, ap, ◌∙◌}
use lib.ListN.{length-take}
use Rattle.rowread.specs.Steps.{line_of}
use Rattle.rowread.proofs.Lines.{line-stop, line-holds, text-size, cuts-size}
use Rattle.rowread.proofs.Laws.{end_fits}
use Rattle.rowread.proofs.Blocks.{take-sets}

pub overflow_add-commas : goal.overflow_add-commas
overflow_add-commas c =
    let t = c.args.t.now in
    let x = rw c.in-Stop.is at c.search_line-found.ensures in
    let e = c.in-Stop.end in
    let n = c.in-Stop.commas in
    let f : n ≤ e = omega (arith, x.0.many, text-size (take e t), length-take e t) in
    omega (arith, f, x.1.0)

pub overflow_sub-size : goal.overflow_sub-size
overflow_sub-size c =
    let t = c.args.t.now in
    let x = rw c.in-Stop.is at c.search_line-found.ensures in
    let e = c.in-Stop.end in
    let n = c.in-Stop.commas in
    omega (arith, x.0.many, text-size (take e t), length-take e t)

pub copy_line-requires-clause-block_size_in_bounds :
    goal.copy_line-requires-clause-block_size_in_bounds
copy_line-requires-clause-block_size_in_bounds c =
    let t = c.args.t.now in
    let x = rw c.in-Stop.is at c.search_line-found.ensures in
    let e = c.in-Stop.end in
    let n = c.in-Stop.commas in
    let w : n + 1 ≡ c.args.width = c.if-commas-width.false in
    let m : c.args.width ≤ 10 = c.if-width-gt-MAX_COLUMNS.false in
    let c' = cuts_in 0 (take e t) in
    let z : n ≡ length c' = x.0.many ∙ sym (cuts-size 0 (take e t)) in
    let k = ap (take n) (x.0.ends (omega (arith, w, m))) ∙ take-sets _ c' n z (omega (arith, w, m)) in
    (omega (arith, c.if-t-end-lt-BLOCK.false, x.0.inside), x.0.many, k)

pub overflow_add-result : goal.overflow_add-result
overflow_add-result c =
    let t = c.args.t.now in
    let e = c.in-Stop.end in
    omega (arith, end_fits t e c.in-Some.ensures.0 (λ z. omega (arith, c.in-Some.ensures.1, z)))

pub returns : goal.returns
returns c =
    let t = c.args.t.now in
    let x = rw c.in-Stop.is at c.search_line-found.ensures in
    let e = c.in-Stop.end in
    let n = c.in-Stop.commas in
    let w = c.copy_line.ensures in
    let l : e ≡ length (line_of t) = line-stop t e x.1.0 x.1.1 ∙ sym x.0.line in
    line-holds t e c.in-Some.e n c.args.width c.args.out.now c.args.ends.now _ _ l c.in-Some.ensures.0 (λ z. omega (arith, c.in-Some.ensures.1, z)) x.0.many c.if-commas-width.false (omega (arith, c.if-out-size.false)) c.if-ends-width.false w.0 w.1
