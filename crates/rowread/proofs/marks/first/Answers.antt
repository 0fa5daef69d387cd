-- The lowest mark's index, computed for all eight marks (Words.antt).
use Rattle.rowread.proofs.marks.first.Goals as goal
use Rattle.rowread.proofs.Words.{lowest-told}

pub returns : goal.returns
returns c = λ ms h e. (lowest-told ms c.args.m h e c.requires.1).first
