-- The five tests of a source are those of the definition; the times are held as they are, since they fit an i64.
use Rattle.std.proofs.Common.{rules, ◌≡◌, w64}
use Rattle.header.specs.Header.{updated_ok, source_ok}
use Rattle.header.proofs.source_ok.Goals as goal
use mir.ValLaws.{to_z-of_z}
use mathlib.Core.Path.{◌∙◌}

pub returns : goal.returns
unfolding source_ok
returns c =
    let a = c.args in
    let x = to_z-of_z w64 a.b.checked (record { sfits = search rules }) in
    let y = to_z-of_z w64 a.s.updated (record { sfits = search rules }) in
    let t : c.updated_ok.result ≡ updated_ok a.b.checked a.s.updated = c.updated_ok.ensures ∙ rw (x, y) in
    rw (c.valid_date.ensures, c.valid_date-2.ensures, t, c.blocks_ok.ensures)
