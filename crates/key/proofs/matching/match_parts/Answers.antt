-- Each part is compared with what the parts before it leave; where one differs, the stored key doesn't begin with all of them (`then_left`, `not_left`).
use Rattle.std.proofs.Common.{[], ◌∷◌, map, ◌%◌, length, None}
use Rattle.base.specs.Number.{byte_values}
use Rattle.key.specs.Layout.{entry, joined, prefix}
use Rattle.key.specs.Steps.{pick_in}
use Rattle.key.proofs.Left.{then_left, not_left}
use Rattle.key.proofs.matching.match_parts.Goals as goal

pub returns-in_err-rest : goal.returns-in_err-rest
returns-in_err-rest c =
    let a = c.args in
    let n = length a.sorted.now % byte_values in
    let s = joined entry (map (pick_in a.picks.now.texts.now a.picks.now.starts.now) a.sorted.now) in
    rw c.from_residual.ensures (not_left a.stored.now (prefix a.identity.now) (n ∷ s) c.in_err-rest.ensures)

pub returns-in_err-rest-2 : goal.returns-in_err-rest-2
returns-in_err-rest-2 c =
    let a = c.args in
    let n = length a.sorted.now % byte_values in
    let s = joined entry (map (pick_in a.picks.now.texts.now a.picks.now.starts.now) a.sorted.now) in
    let rest = c.in_ok-rest.rest.now in
    rw c.from_residual-in_err-rest-2.ensures (then_left a.stored.now (prefix a.identity.now) (n ∷ s) rest c.in_ok-rest.ensures None (not_left rest (n ∷ []) s c.in_err-rest-2.ensures))

pub returns : goal.returns
returns c =
    let a = c.args in
    let n = length a.sorted.now % byte_values in
    let s = joined entry (map (pick_in a.picks.now.texts.now a.picks.now.starts.now) a.sorted.now) in
    let rest = c.in_ok-rest.rest.now in
    let r = c.match_picks.result in
    then_left a.stored.now (prefix a.identity.now) (n ∷ s) rest c.in_ok-rest.ensures r (then_left rest (n ∷ []) s c.in_ok-rest-2.rest.now c.in_ok-rest-2.ensures r c.match_picks.ensures)
