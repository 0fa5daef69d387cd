-- Two 32-bit numbers make one of 64 bits, whose signed reading is `time` (`time-of`); the result fits an i64 (`kept`).
use Rattle.std.proofs.Common.{◌+◌, ◌<◌, ℕ, ◌*◌, List, w64, ℤ, to_z, of_z, ap, ◌∙◌, arith}
use Rattle.leaf.proofs.bytes.get_time.Goals as goal
use Rattle.leaf.specs.Bytes.{word}
use Rattle.leaf.proofs.Numbers.{signed_is, kept}
use Rattle.leaf.proofs.Steps.{time-of}

pub returns : goal.returns
returns c =
    let a = c.args in
    let p = c.rest-p.ensures in
    let x = c.from.result in
    let y = c.from-2.result in
    let n : x + y * 4294967296 < 18446744073709551616 = omega arith in
    ap (λ (z : ℤ). to_z w64 (of_z w64 z)) (c.cast_signed.ensures ∙ signed_is (x + y * 4294967296))
    ∙ kept (x + y * 4294967296) n
    ∙ time-of a.b.now a.i x y
    (c.from.ensures ∙ c.get.ensures ∙ ap (λ (s : List ℕ). word s 0) p)
    (c.from-2.ensures ∙ c.get-2.ensures ∙ ap (λ (s : List ℕ). word s 4) p)
