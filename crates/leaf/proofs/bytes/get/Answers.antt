-- The four bytes from i on, each 0 past the end, make `word` (`word_of`).
use Rattle.std.proofs.Common.{◌≡◌, ◌+◌, ◌*◌, ℕ, List, ap, ◌∙◌, arith}
use Rattle.base.specs.Lists.{byte}
use Rattle.leaf.proofs.bytes.get.Goals as goal
use Rattle.leaf.proofs.Steps.{word_of}

pub returns : goal.returns
returns c =
    let p = c.rest-p.ensures in
    let a = c.get8.result in
    let b = c.get8-2.result in
    let d = c.get8-3.result in
    let e = c.get8-4.result in
    let sum : c.from_le_bytes.result ≡ a + b * 256 + d * 65536 + e * 16777216 = omega (arith, c.from_le_bytes.ensures) in
    sum
    ∙ word_of c.args.b.now c.args.i a b d e
    (c.get8.ensures ∙ ap (λ (s : List ℕ). byte s 0) p)
    (c.get8-2.ensures ∙ ap (λ (s : List ℕ). byte s 1) p)
    (c.get8-3.ensures ∙ ap (λ (s : List ℕ). byte s 2) p)
    (c.get8-4.ensures ∙ ap (λ (s : List ℕ). byte s 3) p)
