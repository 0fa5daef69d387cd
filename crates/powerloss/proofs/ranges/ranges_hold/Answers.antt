-- Each part of the contract is a theorem of the lemma files; what each says is in specs/Ranges.antt.
use Rattle.powerloss.proofs.Exactly.{due-exactly}
use Rattle.powerloss.proofs.Answers.{keeps, answers}
use Rattle.powerloss.proofs.Answered.{appends-all, two-commits}
use Rattle.powerloss.proofs.ranges.ranges_hold.Goals as goal

pub returns : goal.returns
returns c = record { due = due-exactly; keeps = keeps; answers = answers; appends· = appends-all; commits = two-commits }
