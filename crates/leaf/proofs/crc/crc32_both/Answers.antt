-- As `crc32`, for two registers at once: each is started from its complement and complemented at the end.
use Rattle.std.proofs.Common.{◌≡◌, ℕ, ◌-◌, ◌<◌, List}
use Rattle.leaf.proofs.crc.crc32_both.Goals as goal
use Rattle.std.proofs.Common.{◌^◌, sym, ap, ◌∙◌, mod-eq_of_lt}
use Rattle.checksum.specs.Register.{run}
use Rattle.leaf.specs.Crc.{crc32}
use Rattle.leaf.proofs.Shift.{crc32-run}

complemented : (start : ℕ) (s : List ℕ) → start < 2 ^ 32 → (2 ^ 32 - 1) - run ((2 ^ 32 - 1) - start) s ≡ crc32 start s
complemented start s h = ap (λ (x : ℕ). (2 ^ 32 - 1) - run ((2 ^ 32 - 1) - x) s) (sym (mod-eq_of_lt h)) ∙ sym (crc32-run start s)

pub returns : goal.returns
returns c =
    let f = c.feed_both-r.ensures in
    let s = c.args.bytes.now in
    (ap (λ (x : ℕ). (2 ^ 32 - 1) - x) f.0 ∙ complemented c.args.a s c.ranges.a.fits, ap (λ (x : ℕ). (2 ^ 32 - 1) - x) f.1 ∙ complemented c.args.b s c.ranges.b.fits)
