-- Five numbers written one after the other are bytes 16 to 39 (`crc-to-checked-written`).
use Rattle.std.proofs.Common.{rules, ◌≡◌, w64, to_z, of_z}
use Rattle.header.proofs.write.put_crc_to_checked.Goals as goal
use mathlib.Core.Path.{◌∙◌}
use mir.ValLaws.{to_z-of_z}
use Rattle.header.proofs.Writing.{crc-to-checked-written}

pub returns : goal.returns
returns c =
    let u : to_z w64 (of_z w64 c.args.b.checked) ≡ c.args.b.checked = to_z-of_z w64 c.args.b.checked (record { sfits = search rules }) in
    c.put_time.ensures ∙ rw (u, c.put-4.ensures, c.put-3.ensures, c.put-2.ensures, c.put.ensures) (crc-to-checked-written c.args.out.now c.args.b c.requires)
