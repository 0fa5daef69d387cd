-- Picks that don't fit are refused, then a header that fails; else the bank's key is compared by `key::same_key`.
use Rattle.std.proofs.Common.{ℕ, List, sym, ap, ◌∙◌}
use Rattle.base.proofs.Passed.{passed-on}
use Rattle.snapshot.proofs.keymatch.same_key.Goals as goal
use Rattle.snapshot.specs.Freshness.{named_if}
use Rattle.key.specs.Match.{match_answer}
use Rattle.snapshot.proofs.Matches.{match-good, match-bad}

pub returns-in_err-b : goal.returns-in_err-b
returns-in_err-b c =
    let a = c.args in
    let e = ap (λ t. named_if t a.region.now a.number) (sym c.picks_fit-fit.ensures) ∙ sym c.in_err-b.ensures in
    rw (passed-on c.from_residual.result c.from_residual.ensures.1) (match-bad a.region.now a.number a.identity.now a.texts.now a.lengths.now _ e)

pub returns : goal.returns
returns c =
    let a = c.args in
    let e = ap (λ t. named_if t a.region.now a.number) (sym c.picks_fit-fit.ensures) ∙ sym c.in_ok-b.ensures in
    c.same_key.ensures
    ∙ ap (λ (s : List ℕ). match_answer s a.identity.now a.texts.now a.lengths.now) c.key_in-stored.ensures
    ∙ match-good a.region.now a.number a.identity.now a.texts.now a.lengths.now _ e
