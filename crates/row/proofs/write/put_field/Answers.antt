-- A value with a special byte is quoted (`field-quoted`), any other is its field (`field-same`): it was tested, or none was there to begin with.
use Rattle.std.proofs.Common.{◌≡◌, false, length}
use Rattle.std.proofs.lemmas.List.Edits.{sets}
use Rattle.rfc4180.specs.Write.{any_special}
use Rattle.row.proofs.write.put_field.Goals as goal
use mathlib.Core.Path.{sym, ap, ◌∙◌}
use Rattle.row.proofs.write.put_field.Goals.{then-test+else-any_special, else-test}
use native.Mathlib.Omega.{arith}
use Rattle.row.proofs.Laws.{field-quoted, field-same}

pub put_quoted-requires : goal.put_quoted-requires
put_quoted-requires c =
    let q = field-quoted c.args.v.now (sym c.any_special.ensures ∙ c.if-any_special.true) in
    omega (arith, c.requires.1, ap length q)

pub returns-then-any_special : goal.returns-then-any_special
returns-then-any_special c =
    let a = c.args in
    let q = field-quoted a.v.now (sym c.any_special.ensures ∙ c.if-any_special.true) in
    let e = c.put_quoted.ensures in
    (omega (arith, e.0, ap length q), e.1 ∙ ap (sets a.out.now a.to) (sym q))

pub copy-requires : goal.copy-requires
copy-requires c =
    let a = c.args in
    let s : any_special a.v.now ≡ false =
    elim c.if-test.branch [ then-test+else-any_special w ↦ sym w.any_special.ensures ∙ w.if-any_special.false | else-test w ↦ c.requires.0 w.if-test.false ]
    in
    let q = field-same a.v.now s in
    omega (arith, c.requires.1, ap length q)

pub returns : goal.returns
returns c =
    let a = c.args in
    let s : any_special a.v.now ≡ false =
    elim c.if-test.branch [ then-test+else-any_special w ↦ sym w.any_special.ensures ∙ w.if-any_special.false | else-test w ↦ c.requires.0 w.if-test.false ]
    in
    let q = field-same a.v.now s in
    (omega (arith, ap length q), c.copy.ensures ∙ ap (sets a.out.now a.to) (sym q))
