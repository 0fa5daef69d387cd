-- One turn is `byte_at`.
use Rattle.std.proofs.Common.{◌+◌, drop, ℕ, arith}
use Rattle.checksum.specs.Register.{run}
use Rattle.checksum.proofs.register.feed_bytes.Goals as goal
use mathlib.Core.Path.{ap, ◌∙◌}
use lib.ListN.{drop_of_length-le}
use Rattle.checksum.proofs.Fold.{byte_at}

pub loop-b-preserved : goal.loop-b-preserved
loop-b-preserved c =
    let l = c.loop-b in
    let s = c.args.s.now in
    ap (λ (z : ℕ). run z (drop (l.b-index + 1) s)) c.byte-c.ensures ∙ byte_at l.c l.b-index s (omega arith) ∙ l.invariant

pub returns : goal.returns
unfolding run
returns c =
    let l = c.loop-b in
    rw (drop_of_length-le c.args.s.now {i = l.b-index} (omega arith)) at l.invariant
