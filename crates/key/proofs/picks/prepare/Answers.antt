-- The tests are the definitions': the texts cut at the computed offsets are the texts passed. Three refusals in turn: too many texts, a
-- text too long, an identity too long.
use Rattle.std.proofs.Common.{◌*◌, ◌≤◌}
use Rattle.key.specs.Order.{field_count}
use Rattle.key.proofs.picks.prepare.Goals as goal
use mathlib.Core.Logic.{inl, inr}
use mathlib.Core.Path.{refl, ◌∙◌, sym}
use native.Mathlib.Omega.{arith}
use Rattle.key.specs.Picks.{count}
use Rattle.key.proofs.Answers.{fit-many, starts-rise, starts-length, fit-known, prepared}

pub returns-then-lengths-gt-MAX_TEXTS : goal.returns-then-lengths-gt-MAX_TEXTS
returns-then-lengths-gt-MAX_TEXTS c =
    let a = c.args in
    inl (refl, fit-many a.texts.now a.lengths.now c.if-lengths-gt-MAX_TEXTS.true)

pub sizes_fit-requires : goal.sizes_fit-requires
sizes_fit-requires c =
    let a = c.args in
    let p = c.offsets_of in
    let h = c.if-lengths-gt-MAX_TEXTS.false in
    let k = p.auto.starts ∙ c.requires in
    let w : count a.lengths.now * field_count ≤ 80 = omega (arith, h) in
    (starts-rise a.texts.now a.lengths.now _ _ k w p.ensures, starts-length a.texts.now a.lengths.now _ _ k w p.ensures)

pub returns-then-not-sizes_fit : goal.returns-then-not-sizes_fit
returns-then-not-sizes_fit c =
    let a = c.args in
    let p = c.offsets_of in
    let h = c.if-lengths-gt-MAX_TEXTS.false in
    let k = p.auto.starts ∙ c.requires in
    inl (refl, sym c.if-not-sizes_fit.true ∙ fit-known a.identity.now a.texts.now a.lengths.now _ k h p.ensures _ c.sizes_fit.ensures)

pub returns-then-identity-gt-MAX_IDENTITY : goal.returns-then-identity-gt-MAX_IDENTITY
returns-then-identity-gt-MAX_IDENTITY c =
    let a = c.args in
    let p = c.offsets_of in
    let h = c.if-lengths-gt-MAX_TEXTS.false in
    let k = p.auto.starts ∙ c.requires in
    inr (refl, sym c.if-not-sizes_fit.false ∙ fit-known a.identity.now a.texts.now a.lengths.now _ k h p.ensures _ c.sizes_fit.ensures, c.if-identity-gt-MAX_IDENTITY.true)

pub returns : goal.returns
returns c =
    let a = c.args in
    let p = c.offsets_of in
    let h = c.if-lengths-gt-MAX_TEXTS.false in
    let k = p.auto.starts ∙ c.requires in
    prepared a.identity.now a.texts.now a.lengths.now _ k h p.ensures (sym c.sizes_fit.ensures ∙ c.if-not-sizes_fit.false) c.if-identity-gt-MAX_IDENTITY.false
