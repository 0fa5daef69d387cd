-- With an operation due two calls are made; in the other stages they change nothing (`quiet-two`).
use Rattle.run.proofs.flush_two.Goals as goal
use mathlib.Core.Path.{refl}
use Rattle.writer.specs.Parts.{whole_of}
use Rattle.writer.specs.declared.Stage.TheVariants.{Idle, HeaderWritten, Committed}
use Rattle.run.proofs.Laws.{quiet-two}

pub returns-in-Idle : goal.returns-in-Idle
returns-in-Idle c = let a = c.args in λ ss. quiet-two a.region.now (whole_of a.b a.p ss a.tail.now) Idle c.in-Idle.is refl

pub returns-in-HeaderWritten : goal.returns-in-HeaderWritten
returns-in-HeaderWritten c = let a = c.args in λ ss. quiet-two a.region.now (whole_of a.b a.p ss a.tail.now) HeaderWritten c.in-HeaderWritten.is refl

pub returns-in-Committed : goal.returns-in-Committed
returns-in-Committed c = let a = c.args in λ ss. quiet-two a.region.now (whole_of a.b a.p ss a.tail.now) Committed c.in-Committed.is refl
