-- The answer and the state follow from what load gives; the time is held as it is, since it fits an i64.
use Rattle.std.proofs.Common.{w64}
use Rattle.lower.proofs.begin.begin.Goals as goal
use mathlib.Core.Path.{ap, ◌∙◌}
use mir.ValLaws.{to_z-of_z}
use Rattle.lower.specs.Lower.{answer_of, started, begun}

pub returns : goal.returns
unfolding begun
returns c =
    let s = c in
    let a = s.args in
    let l = c.load-l.ensures in
    let z = to_z-of_z w64 a.at s.ranges.at in
    λ i. record {
      answer = (c.answer_of-answer.ensures ∙ ap answer_of l) i;
      writer = (c.started-writer.ensures ∙ (λ j. started (l j) a.comparing (z j))) i;
    }
