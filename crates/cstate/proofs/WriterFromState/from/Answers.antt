use Rattle.writer.specs.Parts.{whole_of}
use Rattle.cstate.proofs.WriterFromState.from.Goals as goal
use mathlib.Core.Path.{◌∙◌}
use Rattle.cstate.specs.State.{writer_of}

pub returns : goal.returns
unfolding writer_of
returns c =
    let s = c.args.s in
    c.whole.ensures ∙ (λ i. whole_of (c.from-b.ensures i) (c.from-p.ensures i) s.sources s.tail)
