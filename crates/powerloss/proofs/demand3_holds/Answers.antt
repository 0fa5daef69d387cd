-- Each part of the contract is a theorem of the lemma files; what each says is in specs/Claim.antt.
use Rattle.powerloss.proofs.Cuts.{torn-calls, every-typed, cut-typed, dropped, between}
use Rattle.powerloss.proofs.Uppers.{demand3}
use Rattle.powerloss.proofs.States.{reached}
use Rattle.powerloss.proofs.Unchanged.{exactly}
use Rattle.powerloss.proofs.demand3_holds.Goals as goal

pub returns : goal.returns
returns c = record { survives = demand3; reached = reached; torn· = torn-calls; every_typed = every-typed; typed = cut-typed; dropped = dropped; between = between; unchanged· = exactly }
