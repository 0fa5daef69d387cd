-- Each byte of the expression is computed from that byte of w (Words.antt).
use Rattle.std.proofs.Common.{bit_and}
use Rattle.rowread.proofs.marks.quotes_of.Goals as goal
use native.Mathlib.Omega.{arith}
use lib.Bits.{and_le_r, xor_lt}
use Rattle.rowread.proofs.Words.{quotes-told}

pub overflow_add-result : goal.overflow_add-result
overflow_add-result c = omega (arith, xor_lt 63 (bit_and c.args.w 9187201950435737471) 2459565876494606882 (omega (arith, and_le_r c.args.w 9187201950435737471)) (omega arith))

pub returns : goal.returns
returns c = λ bs e h w. rw w (quotes-told bs e h)
