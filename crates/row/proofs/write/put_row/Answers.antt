-- A turn is a field and the byte after it (`put-turn`). If the texts have no special byte, neither has a value (`special-parts`).
use Rattle.std.proofs.Common.{◌≡◌, ◌+◌, ◌<◌, ◌≤◌, min, List, ℕ, length, take, drop, get_or, arith}
use mathlib.Core.Path.{sym, ap, ◌∙◌}
use lib.ListN.{length-set}
use lib.Seq.{length-sets}
use Rattle.std.proofs.lemmas.List.Edits.{sets}
use Rattle.rfc4180.specs.Write.{field_of, delimiter}
use Rattle.row.specs.Write.{cut_by}
use Rattle.row.proofs.Laws.{special-parts, cut-delimiter, size-turn, put-turn, none-size, none-sets}
use Rattle.row.proofs.write.put_row.Goals as goal

pub put_field-last-requires : goal.put_field-last-requires
put_field-last-requires c =
    let a = c.args in
    let l = c.loop-k in
    let n = c.cut.result in
    let v : List ℕ = take n l.rest.now in
    let h : l.k < length a.lengths.now = c.loop-k-test.true in
    let e : n ≡ min (get_or a.lengths.now l.k 0) (length l.rest.now) = c.cut.ensures in
    let s = c.split_at.ensures.front in
    let z = size-turn a.lengths.now l.rest.now l.k n h e in
    rw s (λ e. (special-parts l.rest.now n (l.invariant.plain e)).0, omega (arith, c.requires.1, l.invariant.same_length, l.invariant.size, z))

pub bounds-out-last : goal.bounds-out-last
bounds-out-last c =
    let a = c.args in
    let l = c.loop-k in
    let n = c.cut.result in
    let v : List ℕ = take n l.rest.now in
    let h : l.k < length a.lengths.now = c.loop-k-test.true in
    let e : n ≡ min (get_or a.lengths.now l.k 0) (length l.rest.now) = c.cut.ensures in
    let s = c.split_at.ensures.front in
    let z = size-turn a.lengths.now l.rest.now l.k n h e in
    let f = rw s at c.put_field-last.ensures in
    omega (arith, c.requires.1, l.invariant.same_length, l.invariant.size, z, f.0, simp length-sets at (ap length f.1))

pub overflow_add-to : goal.overflow_add-to
overflow_add-to c =
    let a = c.args in
    let l = c.loop-k in
    let n = c.cut.result in
    let v : List ℕ = take n l.rest.now in
    let h : l.k < length a.lengths.now = c.loop-k-test.true in
    let e : n ≡ min (get_or a.lengths.now l.k 0) (length l.rest.now) = c.cut.ensures in
    let s = c.split_at.ensures.front in
    let z = size-turn a.lengths.now l.rest.now l.k n h e in
    let f = rw s at c.put_field-last.ensures in
    omega (arith, c.requires.1, l.invariant.same_length, l.invariant.size, z, f.0)

pub loop-k-preserved : goal.loop-k-preserved
loop-k-preserved c =
    let a = c.args in
    let l = c.loop-k in
    let n = c.cut.result in
    let v : List ℕ = take n l.rest.now in
    let h : l.k < length a.lengths.now = c.loop-k-test.true in
    let e : n ≡ min (get_or a.lengths.now l.k 0) (length l.rest.now) = c.cut.ensures in
    let s = c.split_at.ensures.front in
    let z = size-turn a.lengths.now l.rest.now l.k n h e in
    let f = rw s at c.put_field-last.ensures in
    let o = sets l.out l.to (field_of v) in
    let d = cut-delimiter a.lengths.now (drop n l.rest.now) (l.k + 1) (omega arith) in
    let m : length o ≡ length a.out.now = length-sets l.out l.to (field_of v) ∙ l.invariant.same_length in
    let g = length-set o (l.to + length (field_of v)) (delimiter (cut_by (drop (l.k + 1) a.lengths.now) (drop n l.rest.now))) in
    rw (c.split_at.ensures.back, f.1, f.0, c.end_byte.ensures, d)
    (record {
      plain = λ e. (special-parts l.rest.now n (l.invariant.plain e)).1;
      same_length = g ∙ m;
      size = omega (arith, l.invariant.size, z);
      stored = l.invariant.stored ∙ put-turn a.lengths.now l.rest.now l.k n h e l.out l.to;
    })

pub returns : goal.returns
returns c =
    let a = c.args in
    let l = c.loop-k in
    let h : length a.lengths.now ≤ l.k = c.loop-k-test.false in
    (omega (arith, l.invariant.size, none-size a.lengths.now l.rest.now l.k h), sym (l.invariant.stored ∙ none-sets a.lengths.now l.rest.now l.k l.out l.to h))
