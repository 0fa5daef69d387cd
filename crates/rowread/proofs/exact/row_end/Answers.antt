-- LF, CR and LF, a CR alone, or another byte: each by its law. A CR is a byte of t, so that the offset after it doesn't overflow.
use Rattle.std.proofs.Common.{sym, ◌∙◌, arith}
use Rattle.rowread.proofs.exact.row_end.Goals as goal
use Rattle.rowread.proofs.Laws.{end-lf, end-crlf, end-no, end-lone}

pub returns-then-b-eq-LF : goal.returns-then-b-eq-LF
returns-then-b-eq-LF c =
    (end-lf c.args.t.now c.args.i (sym c.get8-b.ensures ∙ c.if-b-eq-LF.true), omega arith)

pub returns-then-b-ne-CR : goal.returns-then-b-ne-CR
returns-then-b-ne-CR c =
    sym (end-no c.args.t.now c.args.i (λ q. c.if-b-eq-LF.false (c.get8-b.ensures ∙ q)) (λ q. c.if-b-ne-CR.true (c.get8-b.ensures ∙ q)))

pub returns-then-get8-ne-LF : goal.returns-then-get8-ne-LF
returns-then-get8-ne-LF c =
    sym (end-lone c.args.t.now c.args.i (sym c.get8-b.ensures ∙ c.if-b-ne-CR.false) (λ q. c.if-get8-ne-LF.true (c.get8.ensures ∙ q)))

pub returns : goal.returns
returns c =
    (end-crlf c.args.t.now c.args.i (sym c.get8-b.ensures ∙ c.if-b-ne-CR.false) (sym c.get8.ensures ∙ c.if-get8-ne-LF.false), omega arith)
