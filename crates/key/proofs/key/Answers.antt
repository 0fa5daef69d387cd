-- Preparation says that the picks are ready, or which refusal; writing the key then has its own contract.
use Rattle.std.proofs.Common.{length, refl, ◌∙◌}
use Rattle.key.proofs.key.Goals as goal
use Rattle.base.proofs.Passed.{passed-on}
use Rattle.key.proofs.Answers.{key-refused, else-within}

pub returns-in_err-n : goal.returns-in_err-n
returns-in_err-n c =
    let a = c.args in
    let e = passed-on c.from_residual.result c.from_residual.ensures.1 in
    rw e (key-refused a.identity.now a.texts.now a.lengths.now (length a.out.now) _ c.in_err-n.ensures, refl)

pub returns : goal.returns
returns c =
    let a = c.args in
    let h = c.in_ok-n.ensures in
    let k = c.write_key in
    (rw h.picks at k.ensures.0 ∙ else-within a.identity.now a.texts.now a.lengths.now (length a.out.now) h.fits h.named, rw h.picks at k.ensures.1)
