-- The byte's two nibbles are looked up (`after_8`, `after_4`); together with the rest they are 8 steps (`byte-steps`).
use Rattle.std.proofs.Common.{ℕ, ◌/◌, ◌%◌, ◌^◌, arith}
use Rattle.std.specs.Int.Bits.{bit_xor}
use Rattle.checksum.specs.Register.{steps}
use Rattle.checksum.proofs.register.byte.Goals as goal
use mathlib.Core.Path.{ap, ap₂, ◌∙◌}
use Rattle.checksum.proofs.Entries.{after_4, after_8}
use Rattle.checksum.proofs.TableLaws.{byte-steps}

pub returns : goal.returns
returns c =
    let crc = c.args.crc in
    let x : ℕ = bit_xor crc c.from.result in
    ap₂ bit_xor (after_8 (x % 16) (omega arith)) (ap (λ (z : ℕ). bit_xor z (x / 2 ^ 8)) (after_4 (x / 2 ^ 4 % 16) (omega arith)))
    ∙ ap (λ (b : ℕ). bit_xor (steps 8 (bit_xor crc b % 16)) (bit_xor (steps 4 (bit_xor crc b / 2 ^ 4 % 16)) (bit_xor crc b / 2 ^ 8))) c.from.ensures
    ∙ byte-steps crc c.args.b c.ranges.b.fits
