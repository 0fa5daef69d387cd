-- 8 bytes and more are the first 8 and the last 8, 4 to 7 the first 4 and the last 4; of fewer the first, the middle and the last are all
-- (`copy-three`).
use Rattle.row.proofs.copy.copy_short.Goals as goal
use native.Mathlib.Omega.{arith}
use Rattle.row.proofs.Laws.{copy-three}

pub returns : goal.returns
returns c =
    let a = c.args in
    copy-three a.out.now a.v.now a.to (omega arith) (omega arith)
