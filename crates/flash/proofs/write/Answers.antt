-- Where the bytes fit, clearing bits in the region is the model's write (`written_is`); else the model changes nothing either
-- (`after-not`).
use Rattle.std.proofs.Common.{◌+◌, length, ◌-◌, ◌*◌}
use Rattle.region.specs.Region.{bank_size}
use Rattle.flash.proofs.write.Goals as goal
use mathlib.Core.Path.{sym, ◌∙◌}
use native.Mathlib.Omega.{arith}
use Rattle.flash.specs.Flash.{write}
use Rattle.flash.proofs.Laws.{after-not}
use Rattle.flash.proofs.Steps.{written_is}

pub returns-then-lies_within : goal.returns-then-lies_within
returns-then-lies_within c =
    let t = c in
    let l = t in
    let a = l.args in
    let w = l.lies_within.ensures.1 t.if-lies_within.true in
    let i = a.bank * bank_size + a.at in
    written_is a.region.now a.bank a.at (i + length a.bytes.now - i) a.bytes.now c.clear_bits.new.s w.0 w.1 w.2 (omega arith) c.clear_bits.ensures

pub returns-else-lies_within : goal.returns-else-lies_within
returns-else-lies_within c =
    let a = c.args in
    sym (after-not a.region.now a.bank (write a.at a.bytes.now) (sym c.lies_within.ensures.0 ∙ c.if-lies_within.false))
