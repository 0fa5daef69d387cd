-- A filter of another size is refused and unchanged; else the four positions of the id's CRC are read and set (`insert-is`, `insert-left`).
use Rattle.bloom.proofs.insert.Goals as goal
use Rattle.std.proofs.Common.{refl, sym, ◌∙◌}
use Rattle.bloom.proofs.Calls.{insert-refused, insert-kept, insert-is, insert-left}

pub returns-then-not-fits : goal.returns-then-not-fits
returns-then-not-fits c =
    let a = c.args in
    let e = sym c.fits.ensures.0 ∙ c.if-not-fits.true in
    (insert-refused a.bits.now a.id.now e, insert-kept a.bits.now a.id.now e)

pub returns : goal.returns
returns c =
    let a = c.args in
    let f = c.fits in
    let e = sym f.ensures.0 ∙ c.if-not-fits.false in
    let h = c.crc32 in
    let p = c.positions-p in
    let s = c.set_all in (
      insert-is a.bits.now a.id.now e h.result h.ensures _ p.ensures.0 _ _ s.ensures.0 refl,
      insert-left a.bits.now a.id.now e h.result h.ensures _ p.ensures.0 _ s.ensures.1,
    )
