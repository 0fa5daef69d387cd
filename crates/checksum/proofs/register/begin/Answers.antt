-- The first 1 to 8 bytes, shifted up by the bits that a word has more, and the part of the register that is above them (`first_word`).
use Rattle.std.proofs.Common.{◌≡◌, ◌+◌, ◌-◌, ◌*◌, ◌%◌, ◌^◌, length, drop, ℕ, ◌/◌}
use Rattle.std.specs.Int.Bits.{bit_xor}
use Rattle.checksum.specs.Register.{steps, run}
use Rattle.checksum.proofs.register.begin.Goals as goal
use mathlib.Core.Path.{ap, ◌∙◌}
use native.Mathlib.Nat.{lt_of_le_of_lt}
use native.Mathlib.Omega.{arith}
use lib.Pow.{shr_le, shr-shr}
use Rattle.checksum.proofs.First.{first_word}

pub returns : goal.returns
returns c =
    let start = c in
    let s = start.args.s.now in
    let crc = c.u32_to_u64-c in
    let v = crc.result in
    let w = c.load.result in
    let n : ℕ = (length s - 1) % 8 + 1 in
    let h : ℕ = 8 * ((length s - 1) % 8 + 1) / 2 in
    let e : 8 * ((length s - 1) % 8 + 1) / 2 + 8 * ((length s - 1) % 8 + 1) / 2 ≡ 8 * ((length s - 1) % 8 + 1) = omega arith in (
      omega arith,
      omega arith,
      lt_of_le_of_lt (shr_le (v / 2 ^ h) h) (lt_of_le_of_lt (shr_le v h) crc.ensures.1),
      ap (λ (z : ℕ). run (bit_xor (steps 64 (bit_xor v w * 2 ^ (64 - 8 * ((length s - 1) % 8 + 1)) % 2 ^ 64)) z) (drop n s))
          (shr-shr v h h ∙ ap (λ (i : ℕ). v / 2 ^ i) e)
          ∙ first_word v w ((length s - 1) % 8 + 1) (64 - 8 * ((length s - 1) % 8 + 1)) s (omega arith) start.requires c.load.ensures
          ∙ ap (λ (z : ℕ). run z s) crc.ensures.0,
    )
