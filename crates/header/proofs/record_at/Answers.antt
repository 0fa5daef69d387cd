-- The bytes from the offset to the end of the bank are all bytes from there on (`take_all`), and those are decoded.
use Rattle.std.proofs.Common.{length}
use Rattle.header.specs.Header.{record_at}
use Rattle.header.proofs.record_at.Goals as goal
use Rattle.record.specs.Record.{decoded}
use lib.Seq.{take_all}
use lib.ListN.{drop, length-drop}
use native.Mathlib.Omega.{arith}
use mathlib.Core.Path.{ap, ◌∙◌}

pub returns : goal.returns
unfolding record_at
returns c =
    let a = c.args in
    c.decode.ensures ∙ ap (decoded a.version) (c.part-rest.ensures ∙ take_all (length a.b.now) (drop a.at a.b.now) (omega (arith, length-drop a.at a.b.now)))
