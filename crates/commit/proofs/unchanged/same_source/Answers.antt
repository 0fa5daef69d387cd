-- The derived equality of blocks is the definition's, and so is that of the arrays, since both have eight (`same-pointwise`).
use Rattle.std.proofs.Common.{Bool, ◌≡◌, ◌∙◌, ap, length, rules}
use mathlib.Core.Bool.{◌&&◌}
use lib.Dec.{eqb}
use Rattle.commit.specs.Unchanged.{same_block, same_source}
use Rattle.commit.proofs.UnchangedLaws.{same-pointwise}
use Rattle.commit.proofs.unchanged.same_source.Goals as goal

pub returns : goal.returns
unfolding same_source
returns c =
    let s = c.args in
    let n : length s.a.tables ≡ length s.b.tables = search rules in
    ap (λ (t : Bool). eqb s.a.start s.b.start && (eqb s.a.end s.b.end && t)) (c.eq.ensures ∙ same-pointwise same_block s.a.tables s.b.tables n)
