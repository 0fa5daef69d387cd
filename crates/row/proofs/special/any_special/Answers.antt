-- The blocks are those of v (`chunk-of`). The last block, from `length v - 16` on, overlaps them or follows them (`special-overlap`).
use Rattle.std.proofs.Common.{◌≡◌, ◌+◌, ◌-◌, ◌*◌, ◌/◌, List, [], ℕ, length, take, drop, get_or, arith}
use lib.ListN.{length-take}
use mathlib.Core.Path.{refl, sym, ap, ◌∙◌}
use Rattle.base.proofs.Lists.{chunk-of}
use Rattle.std.proofs.lemmas.List.{take_rest}
use Rattle.rfc4180.specs.Write.{any_special}
use Rattle.row.proofs.Laws.{special-inside, special-more, special-overlap}
use Rattle.row.proofs.special.any_special.Goals as goal

pub loop-block-init : goal.loop-block-init
unfolding any_special
loop-block-init c = refl

pub returns-then-special_in_block : goal.returns-then-special_in_block
returns-then-special_in_block c =
    let l = c.loop-block in
    let v = c.args.v.now in
    let n : length c.as_chunks.result.0.now ≡ length (take (length v - 1) v) / 16 = c.as_chunks.ensures.front_len in
    let z = length-take (length v - 1) v in
    let block : get_or c.as_chunks.result.0.now l.block-index [] ≡ take 16 (drop (16 * l.block-index) v) =
    ap (λ (b : List (List ℕ)). get_or b l.block-index []) c.as_chunks.ensures.front ∙ chunk-of [] 16 _ (length v - 1) l.block-index v (omega arith) (omega arith) in
    special-inside v (16 * l.block-index) 16 (ap any_special (sym block) ∙ sym c.special_in_block.ensures ∙ c.if-special_in_block.true)

pub loop-block-preserved : goal.loop-block-preserved
loop-block-preserved c =
    let l = c.loop-block in
    let v = c.args.v.now in
    let n : length c.as_chunks.result.0.now ≡ length (take (length v - 1) v) / 16 = c.as_chunks.ensures.front_len in
    let z = length-take (length v - 1) v in
    let block : get_or c.as_chunks.result.0.now l.block-index [] ≡ take 16 (drop (16 * l.block-index) v) =
    ap (λ (b : List (List ℕ)). get_or b l.block-index []) c.as_chunks.ensures.front ∙ chunk-of [] 16 _ (length v - 1) l.block-index v (omega arith) (omega arith) in
    let next : 16 * (l.block-index + 1) ≡ 16 * l.block-index + 16 = omega arith in
    rw next (special-more v (16 * l.block-index) 16 l.invariant (ap any_special (sym block) ∙ sym c.special_in_block.ensures ∙ c.if-special_in_block.false))

pub returns : goal.returns
returns c =
    let l = c.loop-block in
    let v = c.args.v.now in
    let n : length c.as_chunks.result.0.now ≡ length (take (length v - 1) v) / 16 = c.as_chunks.ensures.front_len in
    let z = length-take (length v - 1) v in
    let f = rw (take_rest v (length v - 16)) at c.special_in_block-2.ensures in
    let g = rw l.invariant at (special-overlap v (length v - 16) (16 * l.block-index) (omega arith)) in
    f ∙ g
