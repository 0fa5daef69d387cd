-- Fewer commas than bytes were found.
use Rattle.std.proofs.Common.{◌*◌, take, arith, length-take}
use Rattle.rowread.proofs.line.search_line.Goals as goal
use Rattle.rowread.proofs.Search.{at-start}
use Rattle.rowread.proofs.Lines.{text-size}

pub loop-k-init : goal.loop-k-init
loop-k-init c = at-start c.args.t.now c.args.marks.now

pub search_word-requires-clause-commas_le_i :
    goal.search_word-requires-clause-commas_le_i
search_word-requires-clause-commas_le_i c =
    let l = c.loop-k in
    let t = c.args.t.now in
    omega (arith, l.invariant.many, text-size (take (l.k * 8) t), length-take (l.k * 8) t)
