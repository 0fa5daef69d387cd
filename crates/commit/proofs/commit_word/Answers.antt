-- One case for each guard: region and order; then the commit word is written.
use Rattle.commit.proofs.commit_word.Goals as goal
use mathlib.Core.Path.{sym, ◌∙◌}
use native.Mathlib.Omega.{arith}
use Rattle.commit.proofs.Laws.{word-done, word-turn, word-region, word-written, word_kept, word-other}

pub returns-then-region-ne-REGION_SIZE : goal.returns-then-region-ne-REGION_SIZE
returns-then-region-ne-REGION_SIZE c =
    let a = c.args in
    (c.stays.ensures ∙ word-region a.region.now a.w (λ e. omega arith), word-other a.region.now a.w (λ e. omega arith))

pub returns-then-not-may_write_word : goal.returns-then-not-may_write_word
returns-then-not-may_write_word c =
    let m = c in
    let a = m.args in
    let h = sym m.may_write_word.ensures ∙ c.if-not-may_write_word.true in
    (c.stays-then-not-may_write_word.ensures ∙ word-turn a.region.now a.w (omega arith) h, word_kept a.region.now a.w h)

pub returns : goal.returns
returns c =
    let v = c in
    let m = v in
    let a = m.args in
    let h = sym m.may_write_word.ensures ∙ v.if-not-may_write_word.false in
    (v.write_word.ensures.0 ∙ word-done a.region.now a.w (omega arith) h, v.write_word.ensures.1 ∙ word-written a.region.now a.w (omega arith) h)
