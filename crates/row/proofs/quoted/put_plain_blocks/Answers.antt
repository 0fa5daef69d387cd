-- The blocks are those of v (`chunk-at`); without a quote doubling leaves them as they are (`plain_more`).
use Rattle.std.proofs.Common.{◌≡◌, ◌+◌, ◌*◌, ◌/◌, List, [], ℕ, length, take, drop, get_or, arith}
use mathlib.Core.Path.{sym, ap, ◌∙◌}
use lib.Seq.{length-sets}
use Rattle.base.proofs.Lists.{chunk-at}
use Rattle.rfc4180.specs.Csv.{quote}
use Rattle.row.specs.Steps.{has}
use Rattle.row.proofs.Laws.{copy_more, plain_more}
use Rattle.row.proofs.quoted.put_plain_blocks.Goals as goal

pub loop-i-preserved : goal.loop-i-preserved
loop-i-preserved c =
    let a = c.args in
    let l = c.loop-i in
    let v = a.v.now in
    let n : length c.as_chunks.result.0.now ≡ length v / 16 = c.as_chunks.ensures.front_len in
    let block : get_or c.as_chunks.result.0.now l.i [] ≡ take 16 (drop (16 * l.i) v) =
    ap (λ (b : List (List ℕ)). get_or b l.i []) c.as_chunks.ensures.front ∙ chunk-at [] 16 _ v l.i (omega arith) in
    let e = c.copy_block.ensures in
    let next : 16 * (l.i + 1) ≡ 16 * l.i + 16 = omega arith in
    rw next (
      (simp length-sets at (ap length e)) ∙ l.invariant.0,
      plain_more v (16 * l.i) 16 l.invariant.1 (ap (has quote) (sym block) ∙ sym c.has_byte.ensures ∙ c.if-has_byte.false),
      rw (e, block, l.invariant.2) (copy_more a.out.now v a.to (16 * l.i) 16 (omega arith)),
    )
