-- The blocks without a quote are copied (`plain-left`). A word is a part of v (`chunk-in`, `part-size`, `part-sets`), and so is what is left after
-- the last one.
use Rattle.std.proofs.Common.{◌≡◌, ◌+◌, ◌-◌, ◌*◌, ◌/◌, List, [], ℕ, length, take, drop, get_or, arith}
use mathlib.Core.Path.{refl, sym, ap, ◌∙◌}
use lib.ListN.{length-take, length-drop}
use lib.Seq.{length-sets, drop-drop}
use Rattle.std.proofs.lemmas.List.{take_rest}
use Rattle.base.proofs.Lists.{chunk-in}
use Rattle.row.proofs.Laws.{doubled-less, plain-left, part-size, part-sets}
use Rattle.row.proofs.quoted.put_doubled.Goals as goal

pub put_plain_blocks-plain-requires : goal.put_plain_blocks-plain-requires
put_plain_blocks-plain-requires c = omega (arith, c.requires, doubled-less c.args.v.now)

pub put_word-n-requires : goal.put_word-n-requires
put_word-n-requires c =
    let a = c.args in
    let p = c.requires in
    let v = a.v.now in
    let b = c.put_plain_blocks-plain.ensures in
    let plain = c.put_plain_blocks-plain.result in
    let f = plain-left v a.out.now _ a.to _ b.0 b.1 b.2 in
    let k = simp length-sets at (ap length b.2) in
    let l = c.loop-word in
    let i : ℕ = plain + 8 * l.word-index in
    let t : ℕ = length v - plain in
    let n : length c.as_chunks.result.0.now ≡ length (take t (drop plain v)) / 8 = c.as_chunks.ensures.front_len in
    let z = length-take t (drop plain v) in
    let d = length-drop plain v in
    let word : get_or c.as_chunks.result.0.now l.word-index [] ≡ take 8 (drop i v) =
    ap (λ (w : List (List ℕ)). get_or w l.word-index []) c.as_chunks.ensures.front ∙ chunk-in [] 8 _ t plain l.word-index v (omega arith) (omega arith) in
    let s = part-size v l.out l.out i 8 l.n _ refl in
    rw word (omega (arith, length-take 8 (drop i v)), omega (arith, p, f.0, k, l.invariant.0, l.invariant.1, s))

pub loop-word-preserved : goal.loop-word-preserved
loop-word-preserved c =
    let a = c.args in
    let p = c.requires in
    let v = a.v.now in
    let b = c.put_plain_blocks-plain.ensures in
    let plain = c.put_plain_blocks-plain.result in
    let f = plain-left v a.out.now _ a.to _ b.0 b.1 b.2 in
    let k = simp length-sets at (ap length b.2) in
    let l = c.loop-word in
    let i : ℕ = plain + 8 * l.word-index in
    let t : ℕ = length v - plain in
    let n : length c.as_chunks.result.0.now ≡ length (take t (drop plain v)) / 8 = c.as_chunks.ensures.front_len in
    let z = length-take t (drop plain v) in
    let d = length-drop plain v in
    let word : get_or c.as_chunks.result.0.now l.word-index [] ≡ take 8 (drop i v) =
    ap (λ (w : List (List ℕ)). get_or w l.word-index []) c.as_chunks.ensures.front ∙ chunk-in [] 8 _ t plain l.word-index v (omega arith) (omega arith) in
    let w = rw word at c.put_word-n.ensures in
    let s = part-size v l.out l.out i 8 l.n _ w.0 in
    let r = part-sets v l.out _ i 8 l.n _ w.0 w.1 in
    let next : plain + 8 * (l.word-index + 1) ≡ i + 8 = omega arith in
    rw next ((simp length-sets at (ap length w.1)) ∙ l.invariant.0, omega (arith, l.invariant.1, s), l.invariant.2 ∙ r)

pub returns : goal.returns
returns c =
    let a = c.args in
    let p = c.requires in
    let v = a.v.now in
    let b = c.put_plain_blocks-plain.ensures in
    let plain = c.put_plain_blocks-plain.result in
    let f = plain-left v a.out.now _ a.to _ b.0 b.1 b.2 in
    let k = simp length-sets at (ap length b.2) in
    let l = c.loop-word in
    let i : ℕ = plain + 8 * l.word-index in
    let t : ℕ = length v - plain in
    let n : length c.as_chunks.result.0.now ≡ length (take t (drop plain v)) / 8 = c.as_chunks.ensures.front_len in
    let z = length-take t (drop plain v) in
    let d = length-drop plain v in
    let u = take_rest v plain in
    let e : plain + length (drop plain v) / 8 * 8 ≡ i = omega (arith, ap length u) in
    let rest : c.as_chunks.result.1.now ≡ drop i v =
    c.as_chunks.ensures.back ∙ ap (λ (x : List ℕ). drop (length x / 8 * 8) x) u ∙ drop-drop (length (drop plain v) / 8 * 8) plain v
    ∙ ap (λ (x : ℕ). drop x v) e in
    let w = rw rest at c.put_each.ensures in
    (omega (arith, w.0, f.0, l.invariant.1), w.1 ∙ sym l.invariant.2 ∙ f.1)
