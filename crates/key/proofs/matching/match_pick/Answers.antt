-- A field more is `goes_on`, one that differs `stops`.
use Rattle.std.proofs.Common.{List, ℕ, [], ◌++◌, refl, ap, ◌∙◌, arith}
use Rattle.key.proofs.matching.match_pick.Goals as goal
use Rattle.key.specs.Layout.{field, joined}
use Rattle.key.specs.Steps.{pick_in, between}
use Rattle.key.proofs.TextOffsets.{five}
use Rattle.key.proofs.Put.{joined-all}
use Rattle.key.proofs.Left.{goes_on, stops}

pub loop-f-init : goal.loop-f-init
unfolding joined
loop-f-init c = refl

pub returns-in_err-rest : goal.returns-in_err-rest
returns-in_err-rest c =
    let a = c.args in
    let l = c.loop-f in
    let w = five (between a.picks.now.texts.now a.picks.now.starts.now) a.i in
    rw c.from_residual.ensures
    (stops field [] (pick_in a.picks.now.texts.now a.picks.now.starts.now a.i) l.f (omega arith) c.field.result.now c.field.ensures a.stored.now l.rest.now l.invariant c.in_err-rest.ensures)

pub loop-f-preserved : goal.loop-f-preserved
loop-f-preserved c =
    let a = c.args in
    let l = c.loop-f in
    let w = five (between a.picks.now.texts.now a.picks.now.starts.now) a.i in
    goes_on field [] (pick_in a.picks.now.texts.now a.picks.now.starts.now a.i) l.f (omega arith) c.field.result.now c.field.ensures a.stored.now l.rest.now l.invariant
    c.in_ok-rest.rest.now c.in_ok-rest.ensures

pub returns : goal.returns
returns c =
    let a = c.args in
    let l = c.loop-f in
    let w = five (between a.picks.now.texts.now a.picks.now.starts.now) a.i in
    l.invariant ∙ ap (λ (s : List ℕ). s ++ l.rest.now) (joined-all field (pick_in a.picks.now.texts.now a.picks.now.starts.now a.i) l.f (omega arith))
