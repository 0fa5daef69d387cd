-- The blocks are those of v (`chunk-of`). The last block, from `length v - 16` on, overlaps them or follows them (`copy-overlap`).
use Rattle.std.proofs.Common.{◌≡◌, ◌+◌, ◌-◌, ◌*◌, ◌/◌, List, [], ℕ, length, take, drop, get_or, arith}
use lib.ListN.{length-take}
use mathlib.Core.Path.{ap, ◌∙◌}
use lib.Seq.{length-sets}
use Rattle.base.proofs.Lists.{chunk-of}
use Rattle.std.proofs.lemmas.List.{take_rest}
use Rattle.row.proofs.Laws.{copy_more, copy-overlap}
use Rattle.row.proofs.copy.copy.Goals as goal

pub loop-i-preserved : goal.loop-i-preserved
loop-i-preserved c =
    let a = c.args in
    let l = c.loop-i in
    let v = a.v.now in
    let n : length c.as_chunks.result.0.now ≡ length (take (length v - 1) v) / 16 = c.as_chunks.ensures.front_len in
    let z = length-take (length v - 1) v in
    let block : get_or c.as_chunks.result.0.now l.i [] ≡ take 16 (drop (16 * l.i) v) =
    ap (λ (b : List (List ℕ)). get_or b l.i []) c.as_chunks.ensures.front ∙ chunk-of [] 16 _ (length v - 1) l.i v (omega arith) (omega arith) in
    let e = c.copy_block.ensures in
    let next : 16 * (l.i + 1) ≡ 16 * l.i + 16 = omega arith in
    ((simp length-sets at (ap length e)) ∙ l.invariant.0, rw (next, e, block, l.invariant.1) (copy_more a.out.now v a.to (16 * l.i) 16 (omega arith)))

pub returns : goal.returns
returns c =
    let a = c.args in
    let l = c.loop-i in
    let v = a.v.now in
    let n : length c.as_chunks.result.0.now ≡ length (take (length v - 1) v) / 16 = c.as_chunks.ensures.front_len in
    let z = length-take (length v - 1) v in
    let f = rw (take_rest v (length v - 16), l.invariant.1) at c.copy_block-2.ensures in
    f ∙ copy-overlap a.out.now v a.to (length v - 16) (16 * l.i) (omega arith) (omega arith)
