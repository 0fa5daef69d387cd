-- The invariant: the first i records are written from 48 on, 384 bytes each (`puts-next`).
use Rattle.std.proofs.Common.{rules, ◌*◌, length, ◌+◌, ◌<◌, take, ◌≡◌}
use Rattle.record.specs.Record.{source_bytes}
use Rattle.base.specs.Lists.{puts}
use Rattle.header.proofs.write.put_records.Goals as goal
use mathlib.Core.Path.{refl, ap, ◌∙◌}
use native.Mathlib.Omega.{arith}
use lib.ListN.{get_or}
use lib.Seq.{length-sets, length-take-le, take-length}
use Rattle.leaf.proofs.Laws.{written-sets}
use Rattle.base.proofs.Lists.{puts-next, length-puts-next}
use Rattle.record.proofs.Laws.{length-source}
use Rattle.header.proofs.Writing.{no_source}

pub loop-i-init : goal.loop-i-init
unfolding puts
loop-i-init c = (c.requires.1, refl, refl)

pub loop-i-preserved : goal.loop-i-preserved
loop-i-preserved c =
    let l = c.loop-i in
    let a = c.args in
    let xs = take a.n a.ss in
    let k : l.i < length xs = search rules in
    let e : length xs ≡ a.n = length-take-le a.n a.ss (search rules) in
    let s = get_or xs l.i no_source in
    let m = length-source s c.is_sized.ensures in
    let w = c.encode.ensures ∙ written-sets l.out (48 + l.i * 384) (source_bytes s) (rw (m, l.invariant.0) (omega arith)) in (
      ap length w ∙ length-sets l.out (48 + l.i * 384) (source_bytes s) ∙ l.invariant.0,
      length-puts-next source_bytes xs l.i no_source k ∙ omega (arith, l.invariant.1, m),
      w ∙ rw l.invariant.2 (puts-next source_bytes xs l.i 48 (l.i * 384) no_source a.out.now k l.invariant.1),
    )

pub returns : goal.returns
returns c =
    let a = c.args in
    let xs = take a.n a.ss in
    let three : length a.ss ≡ 3 = search rules in
    let e : length xs ≡ a.n = length-take-le a.n a.ss (omega arith) in
    let k : c.loop-i.i ≡ length xs = search rules in
    let t : take c.loop-i.i xs ≡ xs = rw k (take-length xs) in
    (rw t at c.loop-i.invariant.2, rw t at c.loop-i.invariant.1 ∙ rw (k, e), three)
