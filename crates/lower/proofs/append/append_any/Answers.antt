-- One case for each guard: order, then capacity; else as many bytes as the tail has space for are appended. It holds of whatever sources
-- the state has.
use Rattle.std.proofs.Common.{[]}
use Rattle.writer.specs.Parts.{whole_of, step_with}
use Rattle.lower.specs.Appended.{step_appended, tail_appended}
use Rattle.lower.proofs.append.append_any.Goals as goal
use mathlib.Core.Path.{sym, ap, ◌∙◌}
use native.Mathlib.Omega.{arith}
use Rattle.lower.proofs.Laws.{takes-fits, bytes-appended, bytes-full, bytes-turn}
use Rattle.lower.specs.declared.append.Appended.{Appended}

pub returns-then-not-may_append_parts : goal.returns-then-not-may_append_parts
returns-then-not-may_append_parts c =
    let m = c in
    let e = c.none_appended.ensures in
    let a = m.args in
    let n = ap (λ (t : Appended). t.n) e in (
      omega (arith, n),
      omega (arith, n, ap (λ (t : Appended). t.at) e),
      λ ss tail. ap (λ (t : Appended). step_with a.b (step_appended t) ss (tail_appended t a.offered.now tail)) e ∙ bytes-turn (whole_of a.b a.p ss tail) a.offered.now (sym (m.may_append_parts.ensures ss tail) ∙ c.if-not-may_append_parts.true),
    )

pub overflow_add-free : goal.overflow_add-free
overflow_add-free c =
    let m = c in
    let a = m.args in
    omega (arith, (takes-fits (whole_of a.b a.p [] []) (sym (m.may_append_parts.ensures [] []) ∙ c.if-not-may_append_parts.false)).1)

pub overflow_sub-free : goal.overflow_sub-free
overflow_sub-free c =
    let m = c in
    let a = m.args in
    omega (arith, (takes-fits (whole_of a.b a.p [] []) (sym (m.may_append_parts.ensures [] []) ∙ c.if-not-may_append_parts.false)).1)

pub returns-then-free-offered : goal.returns-then-free-offered
returns-then-free-offered c =
    let m = c in
    let e = c.none_appended-then-free-offered.ensures in
    let a = m.args in
    let n = ap (λ (t : Appended). t.n) e in (
      omega (arith, n),
      omega (arith, n, ap (λ (t : Appended). t.at) e),
      λ ss tail. ap (λ (t : Appended). step_with a.b (step_appended t) ss (tail_appended t a.offered.now tail)) e ∙ bytes-full (whole_of a.b a.p ss tail) a.offered.now (sym (m.may_append_parts.ensures ss tail) ∙ c.if-not-may_append_parts.false) (omega (arith, c.if-free-offered.true)),
    )

pub append_some-requires : goal.append_some-requires
append_some-requires c =
    let m = c in
    let a = m.args in
    (takes-fits (whole_of a.b a.p [] []) (sym (m.may_append_parts.ensures [] []) ∙ c.if-not-may_append_parts.false)).0

pub returns : goal.returns
returns c =
    let m = c in
    let a = m.args in
    let t = c.append_some.ensures in
    let p = (takes-fits (whole_of a.b a.p [] []) (sym (m.may_append_parts.ensures [] []) ∙ c.if-not-may_append_parts.false)).1 in (
      t.0,
      t.1,
      λ ss tail. t.2 ss tail ∙ bytes-appended (whole_of a.b a.p ss tail) a.offered.now (sym (m.may_append_parts.ensures ss tail) ∙ c.if-not-may_append_parts.false) (omega (arith, c.if-free-offered.false, p)),
    )
