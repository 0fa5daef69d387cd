-- The tests are those of the definition; the checked time is held as it is, since it fits an i64.
use Rattle.std.proofs.Common.{rules, w64}
use Rattle.header.specs.Header.{span_ok}
use Rattle.header.proofs.span_ok.Goals as goal
use mir.ValLaws.{to_z-of_z}

pub returns : goal.returns
unfolding span_ok
returns c =
    let x = to_z-of_z w64 c.args.b.checked (record { sfits = search rules }) in
    rw x
