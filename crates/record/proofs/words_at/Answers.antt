-- The invariant: the first j numbers are read, the others are as in the new array, that is zero (`many-set`).
use Rattle.std.proofs.Common.{◌≡◌, ◌++◌}
use Rattle.leaf.specs.Bytes.{word}
use Rattle.base.specs.Lists.{many}
use Rattle.record.proofs.words_at.Goals as goal
use mathlib.Core.Path.{refl, ap, ◌∙◌}
use native.Mathlib.Omega.{arith}
use lib.ListN.{replicate}
use Rattle.base.proofs.Lists.{many-set, drop-new}

pub loop-j-init : goal.loop-j-init
unfolding many
loop-j-init c = refl

pub loop-j-preserved : goal.loop-j-preserved
loop-j-preserved c =
    let a = c.args in
    let l = c.loop-j in
    rw l.invariant (many-set word 4 a.r.now a.at l.j (replicate 16 0) 0 c.word_at.result (omega arith) c.word_at.ensures)

pub returns : goal.returns
returns c =
    let a = c.args in
    let l = c.loop-j in
    let e : l.j ≡ a.n = omega arith in
    rw e at l.invariant ∙ ap (λ t. many word 4 a.r.now a.at a.n ++ t) (drop-new 0 16 a.n)
