-- Each byte of the expression is computed from that byte of w (Words.antt).
use Rattle.std.proofs.Common.{◌+◌, ◌<◌, ℕ, bit_and}
use Rattle.rowread.proofs.marks.delimiters_of.Goals as goal
use native.Mathlib.Omega.{arith}
use lib.Bits.{bit_xor, and_le_r, xor_lt}
use Rattle.rowread.proofs.Words.{delimiters-told}

-- no sum overflows
sum_lt : (w p : ℕ) → p < 9223372036854775808 → bit_xor (bit_and w 9187201950435737471) p + 9187201950435737471 < 18446744073709551616
sum_lt w p h = omega (arith, xor_lt 63 (bit_and w 9187201950435737471) p (omega (arith, and_le_r w 9187201950435737471)) h)

pub overflow_add-cr_or_lf : goal.overflow_add-cr_or_lf
overflow_add-cr_or_lf c = omega (arith, sum_lt c.args.w 940422246894996749 (omega arith))

pub overflow_add-cr_or_lf-2 : goal.overflow_add-cr_or_lf-2
overflow_add-cr_or_lf-2 c = omega (arith, sum_lt c.args.w 723401728380766730 (omega arith))

pub overflow_add-result : goal.overflow_add-result
overflow_add-result c = omega (arith, sum_lt c.args.w 2459565876494606882 (omega arith))

pub overflow_add-result-2 : goal.overflow_add-result-2
overflow_add-result-2 c = omega (arith, sum_lt c.args.w 3182967604875373612 (omega arith))

pub returns : goal.returns
returns c = λ bs e h w. rw w (delimiters-told bs e h)
