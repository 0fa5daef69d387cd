-- If the lower call appends the line, that one call does what the run does (`line-counted`); else the tail is unchanged (`tail-kept`), and the
-- due calls come first, as in the definition.
use Rattle.std.proofs.Common.{◌++◌, ℕ, List}
use Rattle.run.proofs.append_short_line.Goals as goal
use mathlib.Core.Path.{sym, subst, ◌∙◌}
use Rattle.run.specs.Appends.{dues, appends}
use Rattle.run.specs.PartsRun.{Ran}
use Rattle.run.proofs.Chunk.{line-counted, tail-kept}

pub returns-then-count_of-ne0 : goal.returns-then-count_of-ne0
returns-then-count_of-ne0 c =
    let s = c.append_parts-s in
    let z = c in
    let a = z.args in
    line-counted a.region.now a.b a.p a.tail.now a.bytes.now s.result s.new.tail s.ensures _ c.count_of.ensures c.if-count_of-ne0.true z.requires

pub returns : goal.returns
returns c =
    let q = c.flush_append_line in
    let s = c.append_parts-s in
    let a = c.args in
    let k = tail-kept a.b a.p a.tail.now a.bytes.now s.result s.new.tail s.ensures (sym c.count_of.ensures ∙ c.if-count_of-ne0.false) in
    subst (λ (t : List ℕ). Ran a.region.now a.b a.p t (dues ++ (dues ++ appends a.bytes.now)) q.result q.new.tail q.new.region) k q.ensures
