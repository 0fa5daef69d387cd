-- If the bytes fit, the part is replaced by them (`written-sets`); else nothing changes (`written-not`).
use Rattle.std.proofs.Common.{◌≡◌, ◌+◌, ◌-◌, ℕ, List, length, take, drop, ◌++◌, ◌≤◌, arith, rules}
use Rattle.leaf.proofs.bytes.store.Goals as goal
use mathlib.Core.Path.{sym, ap, ◌∙◌}
use lib.Seq.{sets-eq, drop-drop}
use mathlib.Core.List.{append_assoc}
use Rattle.leaf.proofs.Laws.{written-not, written-sets}

pub returns-then-fits_at : goal.returns-then-fits_at
returns-then-fits_at g c =
    let a = c.args in
    let n : length a.bytes ≡ g.row.N = search rules in
    let h : a.i + length a.bytes ≤ length a.b.now = omega (arith, n, c.fits_at.ensures.1 c.if-fits_at.true) in
    let l = a.b.now in
    let k : ℕ = a.i + g.row.N - a.i in
    let e : a.i + k ≡ a.i + length a.bytes = omega (arith, n) in
    rw c.copy_from_slice.ensures.after
    (ap (λ (z : List ℕ). take a.i l ++ (a.bytes ++ z)) (drop-drop k a.i l ∙ ap (λ (j : ℕ). drop j l) e)
    ∙ sym (written-sets l a.i a.bytes h ∙ sets-eq a.bytes l a.i h ∙ append_assoc (take a.i l) a.bytes (drop (a.i + length a.bytes) l)))

pub returns-else-fits_at : goal.returns-else-fits_at
returns-else-fits_at g c =
    let a = c.args in
    let n : length a.bytes ≡ g.row.N = search rules in
    sym (written-not a.b.now a.i a.bytes (rw n (sym c.fits_at.ensures.0 ∙ c.if-fits_at.false)))
