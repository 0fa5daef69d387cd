-- Fields 0 to 3 are texts as they are; the fifth, the name, is empty if there is a code.
use Rattle.std.proofs.Common.{◌≡◌}
use Rattle.key.specs.Steps.{between}
use Rattle.key.proofs.picks.Picks.field.Goals as goal
use mathlib.Core.Path.{◌∙◌}
use native.Mathlib.Omega.{arith}
use Rattle.key.proofs.TextOffsets.{plain, with_code, no_code}

pub returns-then-f-lt-NAME_FIELD : goal.returns-then-f-lt-NAME_FIELD
returns-then-f-lt-NAME_FIELD c =
    let a = c.args in
    c.text.ensures ∙ plain (between a.self.now.texts.now a.self.now.starts.now) a.i a.f (omega arith)

pub returns-then-code-gt0 : goal.returns-then-code-gt0
returns-then-code-gt0 c =
    let a = c.args in
    let t = c.text-code in
    let e : a.f ≡ 4 = omega arith in
    rw e (with_code (between a.self.now.texts.now a.self.now.starts.now) a.i t.result.now t.ensures (omega arith))

pub returns : goal.returns
returns c =
    let a = c.args in
    let t = c.text-code in
    let e : a.f ≡ 4 = omega arith in
    c.text-2.ensures ∙ rw e (no_code (between a.self.now.texts.now a.self.now.starts.now) a.i t.result.now t.ensures (omega arith))
