-- The invariant: the first i records are read, the others are as in the new array, that is zero (`many-set`).
use Rattle.std.proofs.Common.{◌≡◌, ◌++◌}
use Rattle.header.specs.Header.{records_of}
use Rattle.record.specs.Record.{no_source}
use Rattle.snapshot.proofs.source.records_at.Goals as goal
use mathlib.Core.Path.{refl, ap, ◌∙◌}
use native.Mathlib.Omega.{arith}
use Rattle.base.proofs.Lists.{many-set, drop-new}
use Rattle.base.specs.Lists.{many}
use Rattle.header.specs.Header.{record_at}
use lib.ListN.{drop, replicate}

pub loop-i-init : goal.loop-i-init
unfolding many
loop-i-init c = refl

pub loop-i-preserved : goal.loop-i-preserved
loop-i-preserved c =
    let l = c.loop-i in
    let a = c.args in
    rw l.invariant (many-set (record_at a.version) c.source_size-size.result a.l.now 48 l.i (replicate 3 c.no_source-t.result) no_source c.record_at.result (omega arith) c.record_at.ensures)

pub returns : goal.returns
returns c =
    let l = c.loop-i in
    let a = c.args in
    let e : l.i ≡ a.n = omega arith in
    rw e at l.invariant ∙ (λ i. many (record_at a.version) (c.source_size-size.ensures.0 i) a.l.now 48 a.n ++ drop a.n (replicate 3 (c.no_source-t.ensures i))) ∙ ap (λ t. records_of a.version a.l.now a.n ++ t) (drop-new no_source 3 a.n)
