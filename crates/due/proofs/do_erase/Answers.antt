-- One erase on the bank that isn't active (`one-op`), whose sector is inside; the state after it is `erased`.
use Rattle.std.proofs.Common.{ℕ, ◌*◌}
use Rattle.writer.specs.Parts.{whole_of, step_with}
use Rattle.region.specs.Region.{sector_size}
use Rattle.due.proofs.do_erase.Goals as goal
use Rattle.writer.specs.declared.PartsStep.{PartsStep}
use mathlib.Core.Path.{ap, ◌∙◌}
use native.Mathlib.Omega.{arith}
use Rattle.flash.specs.Flash.{erase, erased_in}
use Rattle.writer.specs.State.{did, target}
use Rattle.due.proofs.Laws.{erased, target_fits, one-op}

pub returns : goal.returns
returns c =
    let e = c in
    let t = e in
    let s = t in
    let a = s.args in
    let l = a.b.active in (
      λ ss tail. ap (λ (s : PartsStep). step_with a.b s ss tail) c.parts_did.ensures ∙ ap did (c.after_erase-v.ensures a.b ss tail ∙ erased a.region.now (whole_of a.b a.p ss tail) a.sector),
      e.erase.ensures ∙ ap (λ (n : ℕ). erased_in a.region.now n (a.sector * sector_size)) t.target-bank.ensures ∙ one-op a.region.now (target l) (erase (a.sector * sector_size)) s.requires.0 (target_fits l) (omega (arith, s.requires.1)),
    )
