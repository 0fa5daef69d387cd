-- One case for each operation. The ranges say that sector, offset and length are inside the bank (`erase-ranged`, `write-ranged`); a
-- comparison does no flash operation.
use Rattle.std.proofs.Common.{[]}
use Rattle.flash.specs.Flash.{performed}
use Rattle.writer.specs.Parts.{whole_of}
use Rattle.due.proofs.operate.Goals as goal
use mathlib.Core.Path.{sym, ap, ◌∙◌}
use Rattle.writer.specs.declared.Operation.{Operation}
use Rattle.writer.specs.declared.Stage.TheVariants.{Due}
use Rattle.writer.specs.State.{did, target}
use Rattle.writer.proofs.Laws.{ranged, fill-fits, position-fits}
use Rattle.due.specs.Due.{ops_of, operated}
use Rattle.due.proofs.Laws.{erase-ranged, write-ranged}

pub do_erase-requires : goal.do_erase-requires
do_erase-requires c =
    let o = c in
    let s = o in
    let a = s.args in
    (s.requires.0, erase-ranged (whole_of a.b a.p [] []) _ s.requires.1 (s.requires.2 ∙ ap Due o.in-Erase.is))

pub do_write-requires : goal.do_write-requires
do_write-requires c =
    let o = c in
    let s = o in
    let a = s.args in
    let f = write-ranged (whole_of a.b a.p [] []) _ _ s.requires.1 (s.requires.2 ∙ ap Due o.in-Write.is) in
    (s.requires.0, f.0, f.1, position-fits a.p.contents (ranged (whole_of a.b a.p [] []) s.requires.1).contents)

pub do_compare-requires : goal.do_compare-requires
do_compare-requires c =
    let s = c in
    let r = (ranged (whole_of s.args.b s.args.p [] []) s.requires.1).contents in
    (fill-fits s.args.p.contents r, position-fits s.args.p.contents r)

pub returns-in-Compare : goal.returns-in-Compare
unfolding performed
returns-in-Compare c =
    let o = c in
    let s = o in
    let a = s.args in
    let h = o.in-Compare.is in (
      λ ss. c.do_compare.ensures ss ∙ sym (ap (λ (x : Operation). did (operated a.region.now (whole_of a.b a.p ss a.tail.now) x)) h),
      sym (ap (λ (x : Operation). performed (target a.b.active) (ops_of a.tail.now (Due x)) a.region.now) h),
    )
