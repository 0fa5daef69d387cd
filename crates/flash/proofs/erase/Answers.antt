-- Where the sector fits, filling its bytes with 255 in the region is the model's erase (`erased-is`); else the model changes nothing either
-- (`after-not`).
use Rattle.std.proofs.Common.{◌+◌, ◌-◌, ◌*◌}
use Rattle.region.specs.Region.{bank_size}
use Rattle.flash.proofs.erase.Goals as goal
use mathlib.Core.Path.{sym, ◌∙◌}
use native.Mathlib.Omega.{arith}
use Rattle.flash.specs.Flash.{erase}
use Rattle.flash.proofs.Laws.{after-not}
use Rattle.flash.proofs.Steps.{blank-all, erased-is}
use Rattle.region.specs.Region.{sector_size}

pub returns-then-lies_within : goal.returns-then-lies_within
returns-then-lies_within c =
    let t = c in
    let l = t in
    let a = l.args in
    let w = l.lies_within.ensures.1 t.if-lies_within.true in
    let i = a.bank * bank_size + a.at in
    erased-is a.region.now a.bank a.at (i + sector_size - i) c.fill.new.self w.0 w.1 w.2 (omega arith) (c.fill.ensures.after (λ y h. h) ∙ blank-all _)

pub returns-else-lies_within : goal.returns-else-lies_within
returns-else-lies_within c =
    let a = c.args in
    sym (after-not a.region.now a.bank (erase a.at) (sym c.lies_within.ensures.0 ∙ c.if-lies_within.false))
