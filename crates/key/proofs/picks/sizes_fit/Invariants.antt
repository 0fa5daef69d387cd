-- The first k texts are within their sizes.
use mathlib.Core.Path.{◌≡◌}
use mathlib.Core.Bool.{true}
use Rattle.key.specs.Layout.{every, sized}
use Rattle.key.specs.Steps.{between}
use Rattle.key.proofs.picks.sizes_fit.Given as goal

abbrev pub invariant-loop-k : goal.invariant-loop-k
invariant-loop-k l = every l.k (sized (between l.texts l.starts)) ≡ true
