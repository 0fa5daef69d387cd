-- A value with a special byte gets its quotes doubled and two around it; any other stays as it is.
use Rattle.std.proofs.Common.{length}
use Rattle.row.proofs.size.field_size.Goals as goal
use mathlib.Core.Path.{sym, ap, ◌∙◌}
use native.Mathlib.Omega.{arith}
use Rattle.row.proofs.Laws.{quoted-size, field-same, doubled-most}

pub overflow_add-result : goal.overflow_add-result
overflow_add-result c =
    let a = c.args in
    omega (arith, c.requires, c.doubled_size.ensures, doubled-most a.v.now)

pub returns-then-any_special : goal.returns-then-any_special
returns-then-any_special c =
    let a = c.args in
    omega (arith, c.doubled_size.ensures, quoted-size a.v.now (sym c.any_special.ensures ∙ c.if-any_special.true))

pub returns : goal.returns
returns c =
    let a = c.args in
    sym (ap length (field-same a.v.now (sym c.any_special.ensures ∙ c.if-any_special.false)))
