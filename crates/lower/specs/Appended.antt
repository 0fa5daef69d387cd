-- The parts and the tail after an append: the bytes appended are in the tail.
use Rattle.std.specs.Prelude.{List, ℕ, take}
use Rattle.std.proofs.lemmas.List.Edits.{sets}
use Rattle.writer.specs.declared.Parts.{Parts}
use Rattle.writer.specs.declared.PartsStep.{PartsStep}
use Rattle.lower.specs.declared.append.Appended.{Appended}

abbrev pub parts_appended : Appended → Parts
parts_appended t = record { stage = t.stage; contents = t.contents; tables = t.tables }

abbrev pub tail_appended : Appended → List ℕ → List ℕ → List ℕ
tail_appended t xs tail = sets tail t.at (take t.n xs)

abbrev pub step_appended : Appended → PartsStep
step_appended t = record { answer = t.answer; parts = parts_appended t }
