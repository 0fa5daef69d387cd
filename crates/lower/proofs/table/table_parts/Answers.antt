-- Three cases: begun, out of order, no such table. The ranges give the bound on the position that `with_table` requires.
use Rattle.std.proofs.Common.{[]}
use Rattle.writer.specs.Parts.{whole_of, step_with}
use Rattle.lower.proofs.table.table_parts.Goals as goal
use mathlib.Core.Path.{ap, ◌∙◌}
use Rattle.writer.specs.declared.PartsStep.{PartsStep}
use mathlib.Core.Bool.{not}
use Rattle.writer.specs.State.{did, in_range}
use Rattle.writer.proofs.Laws.{position-fits, ranged}
use Rattle.base.proofs.Bools.{and_left}
use Rattle.base.proofs.Guards.{one-fails, both_hold}
use Rattle.lower.specs.Lower.{may_append, may_begin}
use Rattle.lower.proofs.Laws.{table_done, table-turn, table-argument}

pub returns-then-table-gt-LAST_TABLE : goal.returns-then-table-gt-LAST_TABLE
returns-then-table-gt-LAST_TABLE c =
    λ ss tail.
    let a = c.args in
    ap (λ (s : PartsStep). step_with a.b s ss tail) c.parts_stay.ensures ∙ table-argument (whole_of a.b a.p ss tail) a.table c.if-table-gt-LAST_TABLE.true

pub returns-then-may_append_parts-may_begin : goal.returns-then-may_append_parts-may_begin
returns-then-may_append_parts-may_begin c =
    λ ss tail.
    let a = c.args in
    ap (λ (s : PartsStep). step_with a.b s ss tail) c.parts_stay-then-may_append_parts-may_begin.ensures ∙ table-turn (whole_of a.b a.p ss tail) a.table c.if-table-gt-LAST_TABLE.false (one-fails (c.may_append_parts.ensures ss tail) c.may_begin.ensures c.if-may_append_parts-may_begin.true)

pub with_table-q-requires : goal.with_table-q-requires
with_table-q-requires c =
    let a = c.args in
    let w = whole_of a.b a.p [] [] in
    (c.if-table-gt-LAST_TABLE.false, position-fits w.contents (ranged w (and_left (in_range w) (not w.contents.closed) (and_left (may_append w) (may_begin w.tables a.table) (both_hold (c.may_append_parts.ensures [] []) c.may_begin.ensures c.if-may_append_parts-may_begin.false)))).contents)

pub returns : goal.returns
returns c =
    λ ss tail.
    let a = c.args in
    ap (λ (s : PartsStep). step_with a.b s ss tail) c.parts_did.ensures ∙ ap did (c.with_table-q.ensures a.b ss tail) ∙ table_done (whole_of a.b a.p ss tail) a.table c.if-table-gt-LAST_TABLE.false (both_hold (c.may_append_parts.ensures ss tail) c.may_begin.ensures c.if-may_append_parts-may_begin.false)
