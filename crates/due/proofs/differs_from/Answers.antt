-- The stored bytes at the offset are a part of the bank after its header sector; past the bank's length, or if a byte is different, it
-- differs.
use Rattle.std.proofs.Common.{List, ℕ, ◌+◌, take, Bool}
use Rattle.region.specs.Region.{sector_size}
use Rattle.due.proofs.differs_from.Goals as goal
use mathlib.Core.Path.{ap, ◌∙◌}
use mathlib.Core.Bool.{not, ◌||◌}
use native.Mathlib.Nat.{sub-zero}
use lib.Dec.{leb}
use lib.ListN.{drop}
use Rattle.base.specs.Same.{same}
use Rattle.due.specs.Due.{differs}

pub returns : goal.returns
unfolding differs
returns c =
    let b = c in
    let a = c.args in
    let x = c.part-stored.ensures ∙ ap (λ (l : List ℕ). take a.t.fill (drop (sector_size + a.t.written) l)) b.bank_of-l.ensures in
    let y = ap (λ (n : ℕ). take n a.tail.now) (sub-zero a.t.fill) in
    ap (λ (t : Bool). not (leb (a.t.written + a.t.fill) a.b.length) || not t) (c.same_bytes.ensures ∙ (λ i. same (x i) (y i)))
