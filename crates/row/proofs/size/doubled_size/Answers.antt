-- A part's quotes are what its bytes grow by when doubled (`count_turn`); the bytes that are left are after the last part.
use Rattle.std.proofs.Common.{◌≡◌, ◌+◌, ◌*◌, ◌/◌, List, [], ℕ, length, take, drop, get_or, arith}
use mathlib.Core.Path.{ap, ◌∙◌}
use lib.ListN.{length-drop}
use Rattle.base.proofs.Lists.{chunk-at}
use Rattle.row.proofs.Laws.{doubled-most, count_turn}
use Rattle.row.proofs.size.doubled_size.Goals as goal

pub overflow_add-n : goal.overflow_add-n
overflow_add-n c =
    let l = c.loop-part in
    let v = c.args.v.now in
    let i : ℕ = 64 * l.part-index in
    let n : length c.as_chunks.result.0.now ≡ length v / 64 = c.as_chunks.ensures.front_len in
    let part : get_or c.as_chunks.result.0.now l.part-index [] ≡ take 64 (drop i v) =
    ap (λ (w : List (List ℕ)). get_or w l.part-index []) c.as_chunks.ensures.front ∙ chunk-at [] 64 _ v l.part-index (omega arith) in
    let q = rw part at c.quotes.ensures in
    let s = count_turn v i 64 l.n _ (omega arith) q l.invariant in
    let m = c.from-n.ensures in
    omega (arith, c.requires, doubled-most v, s, m)

pub loop-part-preserved : goal.loop-part-preserved
loop-part-preserved c =
    let l = c.loop-part in
    let v = c.args.v.now in
    let i : ℕ = 64 * l.part-index in
    let n : length c.as_chunks.result.0.now ≡ length v / 64 = c.as_chunks.ensures.front_len in
    let part : get_or c.as_chunks.result.0.now l.part-index [] ≡ take 64 (drop i v) =
    ap (λ (w : List (List ℕ)). get_or w l.part-index []) c.as_chunks.ensures.front ∙ chunk-at [] 64 _ v l.part-index (omega arith) in
    let q = rw part at c.quotes.ensures in
    let s = count_turn v i 64 l.n _ (omega arith) q l.invariant in
    let m = c.from-n.ensures in
    let next : 64 * (l.part-index + 1) ≡ i + 64 = omega arith in
    rw next (omega (arith, s, m))

pub overflow_add-result : goal.overflow_add-result
overflow_add-result c =
    let l = c.loop-part in
    let v = c.args.v.now in
    let i : ℕ = 64 * l.part-index in
    let n : length c.as_chunks.result.0.now ≡ length v / 64 = c.as_chunks.ensures.front_len in
    let e : length v / 64 * 64 ≡ i = omega arith in
    let rest : c.as_chunks.result.1.now ≡ drop i v = c.as_chunks.ensures.back ∙ ap (λ (x : ℕ). drop x v) e in
    let q = rw rest at c.quotes-2.ensures in
    omega (arith, c.requires, doubled-most v, q, l.invariant, length-drop i v, c.from.ensures)

pub returns : goal.returns
returns c =
    let l = c.loop-part in
    let v = c.args.v.now in
    let i : ℕ = 64 * l.part-index in
    let n : length c.as_chunks.result.0.now ≡ length v / 64 = c.as_chunks.ensures.front_len in
    let e : length v / 64 * 64 ≡ i = omega arith in
    let rest : c.as_chunks.result.1.now ≡ drop i v = c.as_chunks.ensures.back ∙ ap (λ (x : ℕ). drop x v) e in
    let q = rw rest at c.quotes-2.ensures in
    omega (arith, q, l.invariant, length-drop i v, c.from.ensures)
