-- Three cases: begun, full after three sources, out of order. A refused call leaves the state.
use Rattle.writer.specs.Parts.{whole_of, step_with}
use Rattle.writer.specs.State.{is_done}
use Rattle.lower.proofs.source.source_parts.Goals as goal
use mathlib.Core.Path.{ap, ◌∙◌}
use Rattle.writer.specs.declared.PartsStep.{PartsStep}
use Rattle.base.proofs.Guards.{one-fails-not, both-hold-not}
use Rattle.lower.specs.Sources.{sources_with}
use Rattle.lower.proofs.Laws.{source-begun, source-done, source-full, source-turn}

pub returns-then-may_append_parts-is_open : goal.returns-then-may_append_parts-is_open
returns-then-may_append_parts-is_open c =
    λ s ss tail.
    let a = c.args in
    ap (λ (r : PartsStep). step_with a.b r (sources_with (is_done r.answer) ss a.p.tables s) tail) c.parts_stay.ensures ∙ source-turn (whole_of a.b a.p ss tail) s (one-fails-not (c.may_append_parts.ensures ss tail) c.is_open.ensures c.if-may_append_parts-is_open.true)

pub returns-then-x-ge-SOURCES_32 : goal.returns-then-x-ge-SOURCES_32
returns-then-x-ge-SOURCES_32 c =
    λ s ss tail.
    let a = c.args in
    ap (λ (r : PartsStep). step_with a.b r (sources_with (is_done r.answer) ss a.p.tables s) tail) c.parts_stay-then-x-ge-SOURCES_32.ensures ∙ source-full (whole_of a.b a.p ss tail) s (both-hold-not (c.may_append_parts.ensures ss tail) c.is_open.ensures c.if-may_append_parts-is_open.false) c.if-x-ge-SOURCES_32.true

pub returns : goal.returns
returns c =
    λ s ss tail.
    let a = c.args in
    let w = whole_of a.b a.p ss tail in
    ap (λ (r : PartsStep). step_with a.b r (sources_with (is_done r.answer) ss a.p.tables s) tail) c.parts_did.ensures ∙ source-begun w s c.if-x-ge-SOURCES_32.false ∙ source-done w s (both-hold-not (c.may_append_parts.ensures ss tail) c.is_open.ensures c.if-may_append_parts-is_open.false) c.if-x-ge-SOURCES_32.false
