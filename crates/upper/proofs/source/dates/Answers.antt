-- Two numbers written into eight zeros are the dates' bytes (`dates-are`).
use Rattle.std.proofs.Common.{ℕ, List}
use Rattle.leaf.specs.Bytes.{le32}
use Rattle.upper.proofs.source.dates.Goals as goal
use mathlib.Core.Path.{ap, ◌∙◌}
use Rattle.leaf.specs.Bytes.{written}
use Rattle.upper.proofs.Laws.{dates-are}

pub returns : goal.returns
returns c =
    let p = c in
    let s = p.args.s in
    c.put-2.ensures ∙ ap (λ (l : List ℕ). written l 4 (le32 s.end)) p.put.ensures ∙ dates-are s.start s.end
