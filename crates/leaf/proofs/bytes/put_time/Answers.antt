-- std's eight bytes are `le64` (`le64-is`).
use Rattle.std.proofs.Common.{◌≡◌, w64, ℤ, of_z}
use Rattle.std.specs.Int.{to_le_bytes}
use Rattle.leaf.proofs.bytes.put_time.Goals as goal
use mathlib.Core.Path.{sym, ap, ◌∙◌}
use mir.ValLaws.{to_z-of_z}
use Rattle.leaf.specs.Bytes.{written}
use Rattle.leaf.proofs.Numbers.{le64-is}

pub returns : goal.returns
returns c =
    let z = c.args.z in
    let e : c.to_le_bytes.result ≡ to_le_bytes w64 (of_z w64 z) =
    c.to_le_bytes.ensures ∙ ap (λ (y : ℤ). to_le_bytes w64 (of_z w64 y)) (to_z-of_z w64 z c.ranges.z) in
    c.store.ensures ∙ ap (written c.args.b.now c.args.i) (e ∙ sym (le64-is z))
