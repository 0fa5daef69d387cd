-- One case for each guard: region and order; then the comparison. The state stays in every case.
use Rattle.commit.proofs.unchanged.unchanged.Goals as goal
use mathlib.Core.Path.{sym, ◌∙◌}
use mathlib.Core.Bool.{◌&&◌}
use native.Mathlib.Omega.{arith}
use Rattle.base.proofs.Bools.{and_left}
use Rattle.writer.specs.State.{position, in_range}
use Rattle.writer.proofs.Laws.{ranged, count_fits}
use Rattle.commit.specs.Commit.{is_idle}
use Rattle.commit.proofs.UnchangedLaws.{asked, asked-turn, asked-region}

pub returns-then-region-ne-REGION_SIZE : goal.returns-then-region-ne-REGION_SIZE
returns-then-region-ne-REGION_SIZE c =
    let a = c.args in
    c.stays.ensures ∙ asked-region a.region.now a.w (λ e. omega arith)

pub returns-then-not-may_ask : goal.returns-then-not-may_ask
returns-then-not-may_ask c =
    let m = c in
    let a = m.args in
    c.stays-then-not-may_ask.ensures ∙ asked-turn a.region.now a.w (omega arith) (sym m.may_ask.ensures ∙ c.if-not-may_ask.true)

pub is_unchanged-same-requires : goal.is_unchanged-same-requires
is_unchanged-same-requires c =
    let m = c in
    let w = m.args.w in
    let r = and_left (in_range w) (w.beginning.comparing && (w.contents.closed && is_idle w.stage)) (sym m.may_ask.ensures ∙ c.if-not-may_ask.false) in
    count_fits (position w.contents) w.tables (ranged w r).tables

pub returns : goal.returns
returns c =
    let u = c in
    let m = u in
    let a = m.args in
    asked a.region.now a.w c.same_answer-answer.result u.is_unchanged-same.result (omega arith) (sym m.may_ask.ensures ∙ u.if-not-may_ask.false) u.is_unchanged-same.ensures c.same_answer-answer.ensures
