-- Four numbers written one after the other are the first 20 bytes (`head-is`).
use Rattle.std.proofs.Common.{◌≡◌, w64, to_z, of_z}
use Rattle.std.proofs.Common.{rules}
use Rattle.record.proofs.put_head.Goals as goal
use mathlib.Core.Path.{◌∙◌}
use Rattle.record.proofs.Laws.{head-is}
use mir.ValLaws.{to_z-of_z}

pub returns : goal.returns
returns c =
    let a = c.args in
    let u : to_z w64 (of_z w64 a.s.updated) ≡ a.s.updated = to_z-of_z w64 a.s.updated (record { sfits = search rules }) in
    c.put_time.ensures ∙ rw (u, c.put-3.ensures, c.put-2.ensures, c.put.ensures) (head-is a.out.now a.at a.s c.requires)
