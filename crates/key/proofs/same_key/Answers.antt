-- Preparation says that the picks are ready, or which refusal; matching the key then has its own contract.
use Rattle.std.proofs.Common.{Ok, ap, ◌∙◌}
use Rattle.key.proofs.same_key.Goals as goal
use Rattle.base.proofs.Passed.{passed-on}
use Rattle.key.proofs.Answers.{match-refused, is_same}

pub returns-in_err-n : goal.returns-in_err-n
returns-in_err-n c =
    let a = c.args in
    let e = passed-on c.from_residual.result c.from_residual.ensures.1 in
    rw e (match-refused a.stored.now a.identity.now a.texts.now a.lengths.now _ c.in_err-n.ensures)

pub returns : goal.returns
returns c =
    let a = c.args in
    let h = c.in_ok-n.ensures in
    ap Ok (rw h.picks at c.match_key.ensures) ∙ is_same a.stored.now a.identity.now a.texts.now a.lengths.now h.fits h.named
