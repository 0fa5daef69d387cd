-- The fields before f are equal, so the order is that of the rests.
use mathlib.Core.Path.{◌≡◌}
use lib.ListN.{drop}
use Rattle.key.specs.Order.{lex, text_order}
use Rattle.key.specs.Steps.{pick_in}
use Rattle.key.proofs.picks.Picks.order.Given as goal

abbrev pub invariant-loop-f : goal.invariant-loop-f
invariant-loop-f l = lex text_order (pick_in l.self.texts.now l.self.starts.now l.i) (pick_in l.self.texts.now l.self.starts.now l.j) ≡ lex text_order (drop l.f (pick_in l.self.texts.now l.self.starts.now l.i)) (drop l.f (pick_in l.self.texts.now l.self.starts.now l.j))
