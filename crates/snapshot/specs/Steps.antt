-- What the private functions that read the sources one by one promise each other.
use Rattle.std.specs.Prelude.{Bool, true, ◌&&◌, List, [], ◌∷◌, ℤ, Option, Some, None}
use Rattle.base.specs.Number.{pick}
use Rattle.record.specs.declared.Source.{Source}
use Rattle.snapshot.specs.declared.freshness.Days.{Days}
use Rattle.snapshot.specs.declared.freshness.SourceTimes.{SourceTimes}
use Rattle.snapshot.specs.declared.freshness.Seen.{Seen}
use Rattle.snapshot.specs.Freshness.{unknown, days_of, wanted_after, gives_any, known, older}

-- the days still wanted, as a struct
abbrev pub three_wanted_after : Source → Days → Days
three_wanted_after s d = record { first = wanted_after s d.first; second = wanted_after s d.second; third = wanted_after s d.third }

-- the older of a time that there may be and another
abbrev pub oldest_with : Option ℤ → ℤ → ℤ
oldest_with None u = u
oldest_with (Some o) u = older o u

-- the times after one more used source
abbrev pub observed : ℤ → SourceTimes → Source → SourceTimes
observed now t s = record { complete = t.complete && known now s; oldest = Some (oldest_with t.oldest s.updated) }

-- the oldest time, if there is one and all are known
abbrev pub oldest_if : Bool → Option ℤ → ℤ
oldest_if complete None = unknown
oldest_if complete (Some o) = pick complete o unknown

abbrev pub updated_of : SourceTimes → ℤ
updated_of t = oldest_if t.complete t.oldest

abbrev pub after_source : ℤ → Seen → Source → Seen
after_source now x s = pick (gives_any s (days_of x.days)) (record { times = observed now x.times s; days = three_wanted_after s x.days }) x

-- the updated time once the rest of the sources is read
unfoldable pub seen : ℤ → Seen → List Source → ℤ
seen now x [] = updated_of x.times
seen now x (s ∷ ss) = seen now (after_source now x s) ss

-- the state before the first source
abbrev pub none_seen : Days → Seen
none_seen days = record { times = record { complete = true; oldest = None }; days = days }
