-- Freshness: `Bank::fresh`, with three dates and three wanted-day flags.
use Rattle.std.specs.Prelude.{Bool, false, not, ◌&&◌, ◌||◌, List, [], ◌∷◌, ℕ, leb, eqb, ℤ, pos, negsuc, length, Ok, Err, Result}
use Rattle.std.specs.Int.Signed.{le_z}
use Rattle.base.specs.Number.{pick, max_signed}
use Rattle.leaf.specs.Date.{valid_date}
use Rattle.refusal.specs.declared.Refusal.TheVariants.{Region, Argument}
use Rattle.record.specs.declared.Source.{Source}
use Rattle.base.specs.Lists.{each}
use Rattle.header.specs.declared.Bank.{Bank}
use Rattle.region.specs.Region.{region_size, bank_of}
use Rattle.header.specs.Header.{records_of}
use Rattle.bank.specs.Bank.{named}
use Rattle.snapshot.specs.declared.freshness.Day.{Day}
use Rattle.snapshot.specs.declared.freshness.Days.{Days}
use Rattle.snapshot.specs.declared.freshness.Freshness.{Freshness}
use Rattle.refusal.specs.declared.Refusal.{Refusal}

-- `fits` says whether a call's other arguments pass 2; they are tested with the bank's number: 1, 2, then 3 to 6
unfoldable pub named_if : Bool → List ℕ → ℕ → Result Bank Refusal
named_if fits region n = pick fits (named region n) (pick (eqb (length region) region_size) (Err Argument) (Err Region))

-- the lowest signed value means unknown
abbrev pub unknown : ℤ
unknown = negsuc max_signed

abbrev pub days_of : Days → List Day
days_of d = d.first ∷ d.second ∷ d.third ∷ []

-- a source has the days from its start to its end, and gives those that are wanted
abbrev pub has_day : Source → Day → Bool
has_day s d = leb s.start d.date && leb d.date s.end

abbrev pub gives_day : Source → Day → Bool
gives_day s d = d.wanted && has_day s d

unfoldable pub gives_any : Source → List Day → Bool
gives_any s [] = false
gives_any s (d ∷ ds) = gives_day s d || gives_any s ds

-- the days still wanted after a source
abbrev pub wanted_after : Source → Day → Day
wanted_after s d = record { date = d.date; wanted = d.wanted && not (has_day s d) }

unfoldable pub all_wanted_after : Source → List Day → List Day
all_wanted_after s [] = []
all_wanted_after s (d ∷ ds) = wanted_after s d ∷ all_wanted_after s ds

-- the sources used: the first source that has a wanted day gives it
unfoldable pub used : List Day → List Source → List Source
used ds [] = []
used ds (s ∷ ss) = pick (gives_any s ds) (s ∷ used (all_wanted_after s ds) ss) (used ds ss)

-- an updated time is known if it is from 0 to now
abbrev pub known : ℤ → Source → Bool
known now s = le_z (pos 0) s.updated && le_z s.updated now

abbrev pub older : ℤ → ℤ → ℤ
older a b = pick (le_z a b) a b

-- the oldest of a time and the sources' updated times
unfoldable pub oldest : ℤ → List Source → ℤ
oldest t [] = t
oldest t (s ∷ ss) = oldest (older t s.updated) ss

-- the oldest updated time of the used sources; unknown if there are none, or if one of them has no known time
unfoldable pub updated_at : ℤ → List Source → ℤ
updated_at now [] = unknown
updated_at now (s ∷ ss) = pick (each (known now) (s ∷ ss)) (oldest s.updated ss) unknown

-- the checked time, unknown if it is after now
abbrev pub checked_at : ℤ → Bank → ℤ
checked_at now b = pick (le_z b.checked now) b.checked unknown

unfoldable pub freshness : List ℕ → Bank → Days → ℤ → Freshness
freshness region b days now =
    record {
      checked = checked_at now b;
      updated = updated_at now (used (days_of days) (records_of b.version (bank_of region b.number) b.count));
    }

abbrev pub then_fresh : List ℕ → Days → ℤ → Result Bank Refusal → Result Freshness Refusal
then_fresh region days now (Ok b) = Ok (freshness region b days now)
then_fresh region days now (Err r) = Err r

-- all three days are dates, those not wanted too
abbrev pub is_day : Day → Bool
is_day d = valid_date d.date

unfoldable pub fresh_answer : List ℕ → ℕ → Days → ℤ → Result Freshness Refusal
fresh_answer region n days now = then_fresh region days now (named_if (each is_day (days_of days)) region n)
