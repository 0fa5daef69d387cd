-- No identity, no prefix. Else the prefix is three bytes and the identity.
use Rattle.std.proofs.Common.{length}
use Rattle.key.proofs.write.prefix_length.Goals as goal
use mathlib.Core.Path.{ap}
use native.Mathlib.Omega.{arith}
use Rattle.key.proofs.Put.{prefix-none, prefix-some}

pub returns-then-n-eq0 : goal.returns-then-n-eq0
returns-then-n-eq0 c =
    let e = ap length (prefix-none c.args.identity.now (omega arith)) in
    (omega arith, omega arith)

pub returns : goal.returns
returns c =
    let e = ap length (prefix-some c.args.identity.now (omega arith)) in
    let h = c.requires in
    (omega (arith, e), omega arith)
