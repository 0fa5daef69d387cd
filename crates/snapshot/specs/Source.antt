-- A source of a loaded bank.
use Rattle.std.specs.Prelude.{List, ◌++◌, ℕ, ◌+◌, ◌*◌, ◌-◌, ltb, Ok, Err, Result}
use Rattle.base.specs.Number.{pick}
use Rattle.refusal.specs.declared.Refusal.{Refusal}
use Rattle.refusal.specs.declared.Refusal.TheVariants.{Source as NoSuchSource}
use Rattle.record.specs.declared.Source.{Source}
use Rattle.record.specs.Record.{source_size, no_source}
use Rattle.base.specs.Lists.{fill}
use Rattle.header.specs.declared.Bank.{Bank}
use Rattle.region.specs.Region.{bank_of}
use Rattle.header.specs.Header.{record_at, records_of, records_offset, max_sources}
use Rattle.bank.specs.Bank.{named}

-- the record at an index of a bank
unfoldable pub source_in : List ℕ → Bank → ℕ → Source
source_in region b i = record_at b.version (bank_of region b.number) (records_offset + i * source_size b.version)

abbrev pub then_source : List ℕ → ℕ → Result Bank Refusal → Result Source Refusal
then_source region i (Ok b) = pick (ltb i b.count) (Ok (source_in region b i)) (Err NoSuchSource)
then_source region i (Err r) = Err r

-- 1, 2, 3 to 6, and 6 at or past the count
unfoldable pub source_answer : List ℕ → ℕ → ℕ → Result Source Refusal
source_answer region n i = then_source region i (named region n)

-- all sources: the records below the count, and zeros after them
unfoldable pub sources_in : List ℕ → Bank → List Source
sources_in region b = records_of b.version (bank_of region b.number) b.count ++ fill no_source (max_sources - b.count)

abbrev pub then_sources : List ℕ → Result Bank Refusal → Result (List Source) Refusal
then_sources region (Ok b) = Ok (sources_in region b)
then_sources region (Err r) = Err r

-- 1, 2, 3 to 6
unfoldable pub sources_answer : List ℕ → ℕ → Result (List Source) Refusal
sources_answer region n = then_sources region (named region n)
