-- Runs that leave the sources unchanged, on the parts of a state and its tail: with any sources, the state and the region are those of the run.
use Rattle.std.specs.Prelude.{◌≡◌, List, ℕ, ◌≤◌, length, drop, Ok, Err, Result}
use Rattle.record.specs.declared.Source.{Source}
use Rattle.writer.specs.declared.Answer.TheVariants.{Done, Appended, NoneDue, Same, Different}
use Rattle.writer.specs.declared.Beginning.{Beginning}
use Rattle.writer.specs.declared.Parts.{Parts}
use Rattle.writer.specs.Parts.{whole_of}
use Rattle.run.specs.Run.{Lower, ran_writer, ran_region}
use Rattle.run.specs.Appends.{appends}
use Rattle.refusal.specs.declared.Refusal.{Refusal}
use Rattle.writer.specs.declared.Answer.{Answer}

-- parts q, a tail and a region after a run from parts p and their tail
abbrev pub Ran : List ℕ → Beginning → Parts → List ℕ → List Lower → Parts → List ℕ → List ℕ → Type 0
Ran region b p tail cs q tail_after after =
    (ss : List Source) → (whole_of b q ss tail_after ≡ ran_writer region (whole_of b p ss tail) cs) × (after ≡ ran_region region (whole_of b p ss tail) cs)

-- parts q, a tail and a region: appending the bytes after the first n to these ends as appending all of them to parts p does
abbrev pub AfterAppend : List ℕ → Beginning → Parts → List ℕ → List ℕ → ℕ → Parts → List ℕ → List ℕ → Type 0
AfterAppend region b p tail bs n q tail_after after =
    (1 ≤ n) × (n ≤ length bs)
    × ((ss : List Source) → (ran_writer after (whole_of b q ss tail_after) (appends (drop n bs)) ≡ ran_writer region (whole_of b p ss tail) (appends bs)) × (ran_region after (whole_of b q ss tail_after) (appends (drop n bs)) ≡ ran_region region (whole_of b p ss tail) (appends bs)))

-- how many bytes a call appended
abbrev pub count_of : Result Answer Refusal → ℕ
count_of (Ok (Appended n)) = n
count_of (Ok Done) = 0
count_of (Ok NoneDue) = 0
count_of (Ok Same) = 0
count_of (Ok Different) = 0
count_of (Err r) = 0
