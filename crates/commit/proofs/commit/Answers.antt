-- One case for each guard: region, order, current, fit; then the header is written. The number of the bank to be committed is 0 or 1, so
-- the write is inside.
use Rattle.commit.proofs.commit.Goals as goal
use mathlib.Core.Path.{sym, ◌∙◌}
use native.Mathlib.Omega.{arith}
use Rattle.commit.proofs.Laws.{number_fits, fit_is, header_is, commit-done, commit-written, commit-unfit, kept-unfit, commit-obsolete, kept-obsolete, commit-turn, kept-turn, commit-region, kept-region}

pub returns-then-region-ne-REGION_SIZE : goal.returns-then-region-ne-REGION_SIZE
returns-then-region-ne-REGION_SIZE c =
    let a = c.args in
    (c.stays.ensures ∙ commit-region a.region.now a.w a.stamp a.current (λ e. omega arith), kept-region a.region.now a.w a.stamp a.current (λ e. omega arith))

pub returns-then-not-may_commit : goal.returns-then-not-may_commit
returns-then-not-may_commit c =
    let m = c in
    let a = m.args in
    let e = sym m.may_commit.ensures ∙ c.if-not-may_commit.true in
    (c.stays-then-not-may_commit.ensures ∙ commit-turn a.region.now a.w a.stamp a.current (omega arith) e, kept-turn a.region.now a.w a.stamp a.current (omega arith) e)

pub returns-then-not-is_current : goal.returns-then-not-is_current
returns-then-not-is_current c =
    let i = c in
    let m = i in
    let a = m.args in
    let e = sym m.may_commit.ensures ∙ i.if-not-may_commit.false in
    let d = sym i.is_current.ensures ∙ c.if-not-is_current.true in
    (c.stays-then-not-is_current.ensures ∙ commit-obsolete a.region.now a.w a.stamp a.current (omega arith) e d, kept-obsolete a.region.now a.w a.stamp a.current (omega arith) e d)

pub returns-then-not-fit : goal.returns-then-not-fit
returns-then-not-fit c =
    let f = c in
    let b = f in
    let i = b in
    let m = i in
    let a = m.args in
    let e = sym m.may_commit.ensures ∙ i.if-not-may_commit.false in
    let d = sym i.is_current.ensures ∙ b.if-not-is_current.false in
    let h = sym (f.fit.ensures ∙ fit_is a.w a.stamp b.bank_for-b.result b.bank_for-b.ensures) ∙ c.if-not-fit.true in
    (c.stays-then-not-fit.ensures ∙ commit-unfit a.region.now a.w a.stamp a.current (omega arith) e d h, kept-unfit a.region.now a.w a.stamp a.current (omega arith) e d h)

pub write_header-requires : goal.write_header-requires
write_header-requires c =
    let b = c in
    let a = b.args in
    (omega arith, number_fits a.w a.stamp b.bank_for-b.result b.bank_for-b.ensures)

pub returns : goal.returns
returns c =
    let v = c in
    let f = v in
    let b = f in
    let i = b in
    let m = i in
    let a = m.args in
    let x = b.bank_for-b.ensures in
    let r = b.bank_for-b.result in
    let e = sym m.may_commit.ensures ∙ i.if-not-may_commit.false in
    let d = sym i.is_current.ensures ∙ b.if-not-is_current.false in
    let h = sym (f.fit.ensures ∙ fit_is a.w a.stamp r x) ∙ v.if-not-fit.false in (
      v.write_header.ensures.0 ∙ commit-done a.region.now a.w a.stamp a.current (omega arith) e d h,
      v.write_header.ensures.1 ∙ header_is a.w a.stamp r x a.region.now ∙ commit-written a.region.now a.w a.stamp a.current (omega arith) e d h,
    )
