-- The texts are one after the other, so the sum of their lengths is the difference of two offsets: up to the name if there is a code, up to
-- the end if not; and five length bytes.
use native.Mathlib.Omega.{arith}
use Rattle.key.proofs.picks.Picks.entry_length.Goals as goal
use Rattle.key.proofs.Sizes.{entry-coded, entry-plain}

pub returns-then-code-stop : goal.returns-then-code-stop
returns-then-code-stop c =
    let s = c in
    entry-coded s.args.self.now.texts.now s.args.self.now.starts.now s.args.self.now.rises s.args.i (omega (arith, s.requires, s.args.self.now.long)) c.if-code-stop.true

pub returns : goal.returns
returns c =
    let s = c in
    entry-plain s.args.self.now.texts.now s.args.self.now.starts.now s.args.self.now.rises s.args.i (omega (arith, s.requires, s.args.self.now.long)) c.if-code-stop.false
