use Rattle.lower.proofs.begun_in.Goals as goal
use mathlib.Core.Path.{refl}
use Rattle.writer.specs.State.{begun_in}
use Rattle.lower.proofs.Laws.{begun-past}

pub returns-then-table-lt-WORD_BITS : goal.returns-then-table-lt-WORD_BITS
unfolding begun_in
returns-then-table-lt-WORD_BITS c = refl

pub returns : goal.returns
returns c = let s = c in begun-past s.args.begun s.args.table s.ranges.begun.fits c.if-table-lt-WORD_BITS.false
