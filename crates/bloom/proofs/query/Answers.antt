-- A filter of another size is refused; else the answer is whether the four positions of the id's CRC are all set (`query-is`).
use Rattle.bloom.proofs.query.Goals as goal
use Rattle.std.proofs.Common.{refl, sym, ◌∙◌}
use Rattle.bloom.proofs.Calls.{query-refused, query-is}

pub returns-then-not-fits : goal.returns-then-not-fits
returns-then-not-fits c =
    let a = c.args in
    query-refused a.bits.now a.id.now (sym c.fits.ensures.0 ∙ c.if-not-fits.true)

pub returns : goal.returns
returns c =
    let a = c.args in
    let f = c.fits in
    let p = c.positions-p in
    query-is a.bits.now a.id.now (sym f.ensures.0 ∙ c.if-not-fits.false) c.crc32.result c.crc32.ensures _ p.ensures.0 _ _ c.all_set.ensures refl
