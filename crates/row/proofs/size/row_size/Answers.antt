-- A turn is a field and the byte after it (`size-turn`). A value over 8,192 bytes, or a total over it, makes the row longer than that whatever
-- follows (`field-less`).
use Rattle.std.proofs.Common.{◌≡◌, ◌<◌, min, List, ℕ, length, take, get_or, arith}
use mathlib.Core.Path.{ap, ◌∙◌}
use lib.Seq.{length-take-le}
use Rattle.rfc4180.specs.Write.{field_of}
use Rattle.row.proofs.Laws.{field-less, field_bound, size-turn, none-size}
use Rattle.row.proofs.size.row_size.Goals as goal

pub returns-then-value-gt-MAX_ROW : goal.returns-then-value-gt-MAX_ROW
returns-then-value-gt-MAX_ROW c =
    let a = c.args in
    let l = c.loop-n in
    let n = c.cut.result in
    let v : List ℕ = take n l.rest.now in
    let h : l.n-index < length a.lengths.now = c.loop-n-test.true in
    let e : n ≡ min (get_or a.lengths.now l.n-index 0) (length l.rest.now) = c.cut.ensures in
    let w : length v ≡ n = length-take-le n l.rest.now (omega arith) in
    let s = c.split_at.ensures.front in
    let z = size-turn a.lengths.now l.rest.now l.n-index n h e in
    omega (arith, l.invariant.1, field-less v, ap length s)

pub overflow_add-total : goal.overflow_add-total
overflow_add-total c =
    let a = c.args in
    let l = c.loop-n in
    let n = c.cut.result in
    let v : List ℕ = take n l.rest.now in
    let h : l.n-index < length a.lengths.now = c.loop-n-test.true in
    let e : n ≡ min (get_or a.lengths.now l.n-index 0) (length l.rest.now) = c.cut.ensures in
    let w : length v ≡ n = length-take-le n l.rest.now (omega arith) in
    let s = c.split_at.ensures.front in
    let z = size-turn a.lengths.now l.rest.now l.n-index n h e in
    let g : c.field_size.result ≡ length (field_of v) = c.field_size.ensures ∙ ap (λ (x : List ℕ). length (field_of x)) s in
    omega (arith, g, field_bound v, ap length s)

pub overflow_add-total-in-loop-n : goal.overflow_add-total-in-loop-n
overflow_add-total-in-loop-n c =
    let a = c.args in
    let l = c.loop-n in
    let n = c.cut.result in
    let v : List ℕ = take n l.rest.now in
    let h : l.n-index < length a.lengths.now = c.loop-n-test.true in
    let e : n ≡ min (get_or a.lengths.now l.n-index 0) (length l.rest.now) = c.cut.ensures in
    let w : length v ≡ n = length-take-le n l.rest.now (omega arith) in
    let s = c.split_at.ensures.front in
    let z = size-turn a.lengths.now l.rest.now l.n-index n h e in
    let g : c.field_size.result ≡ length (field_of v) = c.field_size.ensures ∙ ap (λ (x : List ℕ). length (field_of x)) s in
    omega (arith, g, field_bound v, ap length s)

pub returns-then-total-gt-MAX_ROW : goal.returns-then-total-gt-MAX_ROW
returns-then-total-gt-MAX_ROW c =
    let a = c.args in
    let l = c.loop-n in
    let n = c.cut.result in
    let v : List ℕ = take n l.rest.now in
    let h : l.n-index < length a.lengths.now = c.loop-n-test.true in
    let e : n ≡ min (get_or a.lengths.now l.n-index 0) (length l.rest.now) = c.cut.ensures in
    let w : length v ≡ n = length-take-le n l.rest.now (omega arith) in
    let s = c.split_at.ensures.front in
    let z = size-turn a.lengths.now l.rest.now l.n-index n h e in
    let g : c.field_size.result ≡ length (field_of v) = c.field_size.ensures ∙ ap (λ (x : List ℕ). length (field_of x)) s in
    omega (arith, l.invariant.1, g, z)

pub loop-n-preserved : goal.loop-n-preserved
loop-n-preserved c =
    let a = c.args in
    let l = c.loop-n in
    let n = c.cut.result in
    let v : List ℕ = take n l.rest.now in
    let h : l.n-index < length a.lengths.now = c.loop-n-test.true in
    let e : n ≡ min (get_or a.lengths.now l.n-index 0) (length l.rest.now) = c.cut.ensures in
    let w : length v ≡ n = length-take-le n l.rest.now (omega arith) in
    let s = c.split_at.ensures.front in
    let z = size-turn a.lengths.now l.rest.now l.n-index n h e in
    let g : c.field_size.result ≡ length (field_of v) = c.field_size.ensures ∙ ap (λ (x : List ℕ). length (field_of x)) s in
    let o = c.split_at.ensures.back in
    rw o (omega arith, omega (arith, l.invariant.1, g, z))

pub returns : goal.returns
returns c =
    let l = c.loop-n in
    omega (arith, l.invariant.1, none-size c.args.lengths.now l.rest.now l.n-index (omega arith))
