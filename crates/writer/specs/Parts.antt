-- The parts of a state that calls change at every step, the whole state again, and a step on the parts.
use Rattle.std.specs.Prelude.{List, ℕ, Ok, Err}
use Rattle.refusal.specs.declared.Refusal.{Refusal}
use Rattle.record.specs.declared.Source.{Source}
use Rattle.writer.specs.declared.Answer.TheVariants.{Done}
use Rattle.writer.specs.declared.Beginning.{Beginning}
use Rattle.writer.specs.declared.Writer.{Writer}
use Rattle.writer.specs.declared.Step.{Step}
use Rattle.writer.specs.declared.Parts.{Parts}
use Rattle.writer.specs.declared.PartsStep.{PartsStep}

abbrev pub parts_of : Writer → Parts
parts_of w = record { stage = w.stage; contents = w.contents; tables = w.tables }

abbrev pub whole_of : Beginning → Parts → List Source → List ℕ → Writer
whole_of b p ss tail = record { stage = p.stage; beginning = b; contents = p.contents; tables = p.tables; sources = ss; tail = tail }

abbrev pub step_with : Beginning → PartsStep → List Source → List ℕ → Step
step_with b s ss tail = record { answer = s.answer; writer = whole_of b s.parts ss tail }

-- a call that is done, and one that is refused, which leaves the parts unchanged
abbrev pub parts_did : Parts → PartsStep
parts_did p = record { answer = (Ok Done); parts = p }

abbrev pub parts_stay : Parts → Refusal → PartsStep
parts_stay p r = record { answer = Err r; parts = p }
