-- A turn appends the digit at i (`one_more`), and each exit is a case of `appended`.
use Rattle.std.proofs.Common.{sym, ◌∙◌, arith}
use Rattle.program.proofs.Digits.{without, from_zero, no_digit, too_large, one_more, all_read}
use Rattle.program.proofs.text.digits.Goals as goal

pub returns-then-s-eq0 : goal.returns-then-s-eq0
returns-then-s-eq0 c = without c.args.s.now c.if-s-eq0.true

pub loop-c-init : goal.loop-c-init
loop-c-init c = sym (from_zero c.args.s.now c.if-s-eq0.false)

pub returns-then-d-gt-LAST_DECIMAL : goal.returns-then-d-gt-LAST_DECIMAL
returns-then-d-gt-LAST_DECIMAL c =
    let d = c.digit-d in
    no_digit c.args.s.now c.loop-c.v c.loop-c.c-index d.result (omega arith) d.ensures (omega arith) ∙ c.loop-c.invariant

pub returns-then-v-gt-MOST_BEFORE : goal.returns-then-v-gt-MOST_BEFORE
returns-then-v-gt-MOST_BEFORE c =
    let d = c.digit-d in
    too_large c.args.s.now c.loop-c.v c.loop-c.c-index d.result (omega arith) d.ensures (omega arith) (omega arith) ∙ c.loop-c.invariant

pub loop-c-preserved : goal.loop-c-preserved
loop-c-preserved c =
    let d = c.digit-d in
    sym (one_more c.args.s.now c.loop-c.v c.loop-c.c-index d.result (omega arith) d.ensures (omega arith) (omega arith)) ∙ c.loop-c.invariant

pub returns : goal.returns
returns c = all_read c.args.s.now c.loop-c.v c.loop-c.c-index (omega arith) ∙ c.loop-c.invariant
