-- While an operation is due none is appended (`appended-none`); else the first n that fit are (`appended-some`).
use Rattle.writer.specs.Parts.{whole_of, step_with}
use Rattle.lower.specs.Appended.{parts_appended, step_appended, tail_appended}
use Rattle.lower.proofs.append.append_some.Goals as goal
use mathlib.Core.Path.{sym, ap, ◌∙◌}
use native.Mathlib.Omega.{arith}
use Rattle.lower.proofs.Laws.{appended-none, appended-some}
use Rattle.lower.specs.declared.append.Appended.{Appended}

pub returns-then-is_due : goal.returns-then-is_due
returns-then-is_due c =
    let e = c.none_appended.ensures in
    let d = c in
    let a = d.args in
    let n = ap (λ (t : Appended). t.n) e in (
      omega (arith, n),
      omega (arith, n, ap (λ (t : Appended). t.at) e),
      λ ss tail. ap (λ (t : Appended). step_with a.b (step_appended t) ss (tail_appended t a.bytes.now tail)) e ∙ appended-none (whole_of a.b a.p ss tail) a.bytes.now (sym d.is_due.ensures ∙ c.if-is_due.true),
    )

pub returns : goal.returns
returns c =
    let f = c.first_appended in
    let r = c.accepted-n in
    let d = c in
    let a = d.args in
    let xs = a.bytes.now in (
      omega (arith, f.ensures.1, r.ensures.1),
      f.ensures.2,
      λ ss tail.
          let v = whole_of a.b (parts_appended f.result) ss (tail_appended f.result xs tail) in
          (λ i. record { answer = f.ensures.0 i; writer = v }) ∙ appended-some (whole_of a.b a.p ss tail) xs r.result v (sym d.is_due.ensures ∙ c.if-is_due.false) r.ensures.0 (f.ensures.3 ss tail),
    )
