-- std's order of two texts is the definition's (`text-answer`).
use Rattle.std.proofs.Common.{◌∙◌}
use Rattle.key.proofs.Walk.{text-answer}
use Rattle.key.proofs.picks.rests_order.Goals as goal

pub returns : goal.returns
returns c = c.cmp.ensures ∙ text-answer c.args.a.now c.args.b.now
