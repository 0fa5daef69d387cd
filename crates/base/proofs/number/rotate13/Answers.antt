-- The two parts of std's rotation have no bit in common, so their `or` is their sum.
use Rattle.std.proofs.Common.{◌≡◌, ◌*◌, ◌/◌, ◌%◌, ◌<◌, ◌^◌, arith}
use Rattle.std.proofs.lemmas.Nat.{or_shifted}
use Rattle.base.proofs.number.rotate13.Goals as goal

pub returns : goal.returns
returns c =
    let x = c.args.x in
    let h : x / 2 ^ 19 < 2 ^ 13 = omega arith in
    let s = or_shifted (x % 2 ^ 19) 13 (x / 2 ^ 19) h in
    let e : (x * 2 ^ 13) % 2 ^ 32 ≡ x % 2 ^ 19 * 2 ^ 13 = omega arith in
    rw (c.rotate_left.ensures, e) s
