-- The lower call answers how many bytes it appended. If any, the state was in order and they fit, so the chunk leaves what its bytes one by
-- one leave (`chunk-counted`); else the tail is unchanged (`tail-kept`), and one byte is appended, which the run may refuse as well.
use Rattle.std.proofs.Common.{ℕ, List}
use Rattle.run.proofs.append_some.Goals as goal
use mathlib.Core.Path.{sym, subst, ◌∙◌}
use Rattle.run.specs.PartsRun.{AfterAppend}
use Rattle.run.proofs.Chunk.{chunk-counted, tail-kept}

pub returns-then-n-eq0 : goal.returns-then-n-eq0
returns-then-n-eq0 c =
    let q = c.append_one in
    let s = c.append_parts-s in
    let a = c.args in
    let k = tail-kept a.b a.p a.tail.now a.bytes.now s.result s.new.tail s.ensures (sym c.count_of-n.ensures ∙ c.if-n-eq0.true) in
    subst (λ (t : List ℕ). AfterAppend a.region.now a.b a.p t a.bytes.now q.result.n q.result.parts q.new.tail q.new.region) k q.ensures

pub returns : goal.returns
returns c =
    let q = c.flush_parts-q in
    let s = c.append_parts-s in
    let a = c.args in
    chunk-counted a.region.now a.b a.p a.tail.now a.bytes.now s.result s.new.tail s.ensures _ c.count_of-n.ensures c.if-n-eq0.false q.result q.new.region q.ensures
