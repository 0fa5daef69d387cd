-- The length byte, then the text after it, are the field (`put_first`).
use Rattle.std.proofs.Common.{length, ◌%◌}
use Rattle.key.proofs.write.put_field.Goals as goal
use mathlib.Core.Path.{◌∙◌}
use native.Mathlib.Omega.{arith}
use Rattle.key.proofs.Put.{put_first}

pub returns : goal.returns
returns c =
    let a = c.args in
    c.put_bytes.ensures ∙ put_first a.out.now a.at (length a.s.now % 256) a.s.now (omega arith)
