-- One write of the padded tail on the bank that isn't active (`one-op`), which is inside; the state after it is `written-tail`.
use Rattle.std.proofs.Common.{ℕ, ◌+◌, take}
use Rattle.flash.specs.Flash.{written_in}
use Rattle.writer.specs.Parts.{whole_of, step_with}
use Rattle.region.specs.Region.{sector_size}
use Rattle.due.proofs.do_write.Goals as goal
use Rattle.writer.specs.declared.PartsStep.{PartsStep}
use mathlib.Core.Path.{ap, ◌∙◌}
use native.Mathlib.Omega.{arith}
use lib.ListN.{length-take}
use Rattle.flash.specs.Flash.{write}
use Rattle.writer.specs.State.{did, target}
use Rattle.due.specs.Due.{padded}
use Rattle.due.proofs.Laws.{written-tail, target_fits, one-op, length-padded}

pub returns : goal.returns
returns c =
    let v = c in
    let t = v in
    let s = t in
    let a = s.args in
    let l = a.b.active in
    let y = length-padded (take a.n a.tail.now) (omega (arith, length-take a.n a.tail.now, s.requires.1)) in (
      λ ss. ap (λ (s : PartsStep). step_with a.b s ss a.tail.now) c.parts_did.ensures ∙ ap did (c.with_emptied-v.ensures a.b ss a.tail.now ∙ written-tail a.region.now (whole_of a.b a.p ss a.tail.now) a.offset a.n),
      v.write_tail.ensures ∙ ap (λ (n : ℕ). written_in a.region.now n (sector_size + a.offset) (padded (take a.n a.tail.now))) t.target-bank.ensures ∙ one-op a.region.now (target l) (write (sector_size + a.offset) (padded (take a.n a.tail.now))) s.requires.0 (target_fits l) (omega (arith, y, s.requires.2)),
    )
