-- 8 bytes and more are the first 8 and the last 8, 4 to 7 the first 4 and the last 4; of fewer the first, the middle and the last are all
-- (`special-three`).
use Rattle.row.proofs.special.special_in_short.Goals as goal
use mathlib.Core.Path.{◌∙◌}
use native.Mathlib.Omega.{arith}
use Rattle.row.proofs.Laws.{special-none, special-three}

pub returns-then-n-eq0 : goal.returns-then-n-eq0
returns-then-n-eq0 c = special-none c.args.v.now c.if-n-eq0.true

pub returns : goal.returns
returns c = c.special_in_block.ensures ∙ special-three c.args.v.now (omega arith) (omega arith)
