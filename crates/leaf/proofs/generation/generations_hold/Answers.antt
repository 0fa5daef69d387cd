-- The three laws of generations are those of Laws.antt.
use Rattle.leaf.proofs.generation.generations_hold.Goals as goal
use Rattle.leaf.proofs.Laws.{newer-irrefl, newer-asym, newer-next}

pub returns : goal.returns
returns c =
    record {
      not_itself = newer-irrefl;
      not_both = newer-asym;
      next_is_newer = newer-next;
    }
