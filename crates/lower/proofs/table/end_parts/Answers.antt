-- Two cases: ended, or out of order and unchanged. The ranges give the bounds that `block_of` requires.
use Rattle.std.proofs.Common.{[]}
use Rattle.base.specs.Number.{pick}
use Rattle.record.specs.Record.{no_block}
use Rattle.writer.specs.Parts.{whole_of, step_with}
use Rattle.writer.specs.State.{is_done}
use Rattle.lower.proofs.table.end_parts.Goals as goal
use mathlib.Core.Path.{sym, ap, ◌∙◌}
use Rattle.writer.specs.declared.PartsStep.{PartsStep}
use Rattle.writer.specs.State.{is_open, in_range, position}
use Rattle.writer.proofs.Laws.{ranged, open-table, position-fits}
use Rattle.base.proofs.Bools.{and_left, and_right}
use Rattle.lower.specs.Sources.{block_in, sources_ended}
use Rattle.lower.proofs.Laws.{end-within, end-ended, end-done, end-turn}

pub returns-then-not-may_end_parts : goal.returns-then-not-may_end_parts
returns-then-not-may_end_parts c =
    let a = c.args in
    let s = c.parts_stay-step.ensures in (
      λ ss tail. ap (λ (s : PartsStep). step_with a.b s (sources_ended (is_done s.answer) ss a.p.tables no_block) tail) s ∙ end-turn (whole_of a.b a.p ss tail) (sym (c.may_end_parts.ensures ss tail) ∙ c.if-not-may_end_parts.true),
      sym (ap (λ (s : PartsStep). pick (is_done s.answer) (block_in a.p) no_block) s),
    )

pub block_of-block-requires : goal.block_of-block-requires
block_of-block-requires c =
    let a = c.args in
    let w = whole_of a.b a.p [] [] in
    let e = sym (c.may_end_parts.ensures [] []) ∙ c.if-not-may_end_parts.false in
    let r = ranged w (and_left (in_range w) (is_open w.tables) e) in
    ((open-table (position w.contents) w.tables r.tables (and_right (in_range w) (is_open w.tables) e)).2, position-fits w.contents r.contents)

pub returns : goal.returns
returns c =
    let a = c.args in
    let s = c.parts_did-step.ensures in
    let k = c.block_of-block.ensures in (
      λ ss tail.
          let w = whole_of a.b a.p ss tail in
          let e = sym (c.may_end_parts.ensures ss tail) ∙ c.if-not-may_end_parts.false in
          (λ i. step_with a.b (s i) (sources_ended (is_done (s i).answer) ss a.p.tables (k i)) tail) ∙ end-ended w (end-within w e) ∙ end-done w e,
      k ∙ sym (ap (λ (s : PartsStep). pick (is_done s.answer) (block_in a.p) no_block) s),
    )
