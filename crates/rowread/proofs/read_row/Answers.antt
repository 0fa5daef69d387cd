-- One case for each path: past the end, at the end, read by the fast path, no row, an output too small (either one), a row. In each the
-- answer and both outputs are those of Calls.antt.
use Rattle.std.proofs.Common.{◌≡◌, length, ◌≤◌}
use Rattle.rowread.proofs.read_row.Goals as goal
use native.Mathlib.Omega.{arith}
use mathlib.Core.Path.{refl, sym, ap, ◌∙◌}
use lib.ListN.{drop, length-take, length-drop}
use Rattle.rfc4180.specs.Csv.{max_row}
use Rattle.rowread.specs.Stored.{part_at}
use Rattle.rowread.specs.Steps.{spanned, scan_of}
use Rattle.rowread.proofs.Calls.{scan-inside, since, read_past, read-end, read-broken, is_row, row-bytes, read_short, read-few, read_whole, read-quick}

pub returns-then-table-offset : goal.returns-then-table-offset
returns-then-table-offset c =
    let a = c.args in
    let w = read_past a.table.now a.width a.offset a.out.now a.ends.now c.if-table-offset.true in
    (w.is, w.bytes, w.marks)

pub returns-then-offset-table : goal.returns-then-offset-table
returns-then-offset-table c =
    let a = c.args in
    let w = read-end a.table.now a.width a.offset a.out.now a.ends.now c.if-table-offset.false c.if-offset-table.true in
    (w.is, w.bytes, w.marks)

pub returns-in-Some : goal.returns-in-Some
returns-in-Some c =
    let a = c.args in
    let h : a.offset ≤ length a.table.now = c.if-table-offset.false in
    let n : a.offset ≡ length a.table.now → ⊥ = c.if-offset-table.false in
    let e = c.part-t.ensures in
    let x = rw e at (rw c.in-Some.is at c.fast_row-quick.ensures) in
    let w = read-quick a.table.now a.width a.offset a.out.now a.ends.now h n x in
    (w.is, w.bytes, w.marks)

pub returns-in_default-scan : goal.returns-in_default-scan
returns-in_default-scan c =
    let a = c.args in
    let h : a.offset ≤ length a.table.now = c.if-table-offset.false in
    let n : a.offset ≡ length a.table.now → ⊥ = c.if-offset-table.false in
    let e = c.part-t.ensures in
    let k = rw c.in_default.is at c.fast_row-quick.ensures in
    let d = c.row-scan.ensures in
    let m = d.1.kept refl in
    let w = since (m.0 ∙ k.0) (m.1 ∙ k.1) (read-broken a.table.now a.width a.offset _ _ h n (sym c.in_default-scan.is ∙ d.0 ∙ ap (scan_of a.width) e)) in
    (w.is, w.bytes, w.marks)

pub returns-then-out-found : goal.returns-then-out-found
returns-then-out-found c =
    let a = c.args in
    let h : a.offset ≤ length a.table.now = c.if-table-offset.false in
    let n : a.offset ≡ length a.table.now → ⊥ = c.if-offset-table.false in
    let e = c.part-t.ensures in
    let k = rw c.in_default.is at c.fast_row-quick.ensures in
    let d = c.row-scan.ensures in
    let m = d.1.kept refl in
    let q : spanned c.in-Some-scan.found.next c.in-Some-scan.found.size ≡ scan_of a.width (part_at a.table.now a.offset) = sym c.in-Some-scan.is ∙ d.0 ∙ ap (scan_of a.width) e in
    let w = since (m.0 ∙ k.0) (m.1 ∙ k.1) (read_short a.table.now a.width a.offset _ _ h n c.in-Some-scan.found.next c.in-Some-scan.found.size q c.if-out-found.true) in
    (w.is, w.bytes, w.marks)

pub returns-then-ends-width : goal.returns-then-ends-width
returns-then-ends-width c =
    let a = c.args in
    let h : a.offset ≤ length a.table.now = c.if-table-offset.false in
    let n : a.offset ≡ length a.table.now → ⊥ = c.if-offset-table.false in
    let e = c.part-t.ensures in
    let k = rw c.in_default.is at c.fast_row-quick.ensures in
    let d = c.row-scan.ensures in
    let m = d.1.kept refl in
    let q : spanned c.in-Some-scan.found.next c.in-Some-scan.found.size ≡ scan_of a.width (part_at a.table.now a.offset) = sym c.in-Some-scan.is ∙ d.0 ∙ ap (scan_of a.width) e in
    let w = since (m.0 ∙ k.0) (m.1 ∙ k.1) (read-few a.table.now a.width a.offset _ _ h n c.in-Some-scan.found.next c.in-Some-scan.found.size q c.if-out-found.false c.if-ends-width.true) in
    (w.is, w.bytes, w.marks)

pub write_row-requires : goal.write_row-requires
write_row-requires c =
    let a = c.args in
    let h : a.offset ≤ length a.table.now = c.if-table-offset.false in
    let n : a.offset ≡ length a.table.now → ⊥ = c.if-offset-table.false in
    let e = c.part-t.ensures in
    let k = rw c.in_default.is at c.fast_row-quick.ensures in
    let d = c.row-scan.ensures in
    let m = d.1.kept refl in
    let q : spanned c.in-Some-scan.found.next c.in-Some-scan.found.size ≡ scan_of a.width (part_at a.table.now a.offset) = sym c.in-Some-scan.is ∙ d.0 ∙ ap (scan_of a.width) e in
    let y = row-bytes a.table.now a.width a.offset a.out.now a.ends.now h n c.in-Some-scan.found.next c.in-Some-scan.found.size q in
    rw e (is_row a.table.now a.width a.offset a.out.now a.ends.now h n c.in-Some-scan.found.next c.in-Some-scan.found.size q, omega (arith, y), c.if-out-found.false, c.if-ends-width.false)

pub overflow_add-result-2 : goal.overflow_add-result-2
overflow_add-result-2 c =
    let a = c.args in
    let h : a.offset ≤ length a.table.now = c.if-table-offset.false in
    let n : a.offset ≡ length a.table.now → ⊥ = c.if-offset-table.false in
    let e = c.part-t.ensures in
    let k = rw c.in_default.is at c.fast_row-quick.ensures in
    let d = c.row-scan.ensures in
    let m = d.1.kept refl in
    let x = scan-inside a.width _ c.in-Some-scan.found.next c.in-Some-scan.found.size (sym c.in-Some-scan.is ∙ d.0) in
    omega (arith, x, ap length e, length-take max_row (drop a.offset a.table.now), length-drop a.offset a.table.now, h)

pub returns : goal.returns
returns c =
    let a = c.args in
    let h : a.offset ≤ length a.table.now = c.if-table-offset.false in
    let n : a.offset ≡ length a.table.now → ⊥ = c.if-offset-table.false in
    let e = c.part-t.ensures in
    let k = rw c.in_default.is at c.fast_row-quick.ensures in
    let d = c.row-scan.ensures in
    let m = d.1.kept refl in
    let q : spanned c.in-Some-scan.found.next c.in-Some-scan.found.size ≡ scan_of a.width (part_at a.table.now a.offset) = sym c.in-Some-scan.is ∙ d.0 ∙ ap (scan_of a.width) e in
    let v = c.write_row.ensures in
    let w = since (m.0 ∙ k.0) (m.1 ∙ k.1) (read_whole a.table.now a.width a.offset _ _ h n c.in-Some-scan.found.next c.in-Some-scan.found.size q c.if-out-found.false c.if-ends-width.false _ _ (v.0 ∙ rw e) (v.1 ∙ rw e)) in
    (w.is, w.bytes, w.marks)
