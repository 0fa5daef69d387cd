-- What is proved of records beyond the calls' promises (proofs/Back.antt).
use Rattle.std.specs.Prelude.{◌≡◌, List, ◌++◌, ℕ, get_or}
use Rattle.record.specs.declared.Source.{Source}
use Rattle.record.specs.Record.{decoded, source_bytes, no_block, stamp_size, id_size, validator_size, first_version, second_version, current_version}
use Rattle.base.specs.Lists.{fill}
use Rattle.record.specs.Types.{Sized, Ranged}
use Rattle.base.specs.Table.{last_table}

-- a record that was written reads back, whatever follows it
abbrev pub ReadsBack : Type 0
ReadsBack = (s : Source) → Sized s → Ranged s → (rest : List ℕ) → decoded current_version (source_bytes s ++ rest) ≡ s

-- version 1 has no stamp, id and validator: they read as zeros
pub record NoTexts (s : Source) : Type 0 where
  pub stamp : s.stamp ≡ fill 0 stamp_size
  pub idlen : s.idlen ≡ 0
  pub id : s.id ≡ fill 0 id_size
  pub validator : s.validator ≡ fill 0 validator_size

abbrev pub Version1 : Type 0
Version1 = (l : List ℕ) → NoTexts (decoded first_version l)

-- versions 1 and 2 have seven tables: table 7, Transfers, is absent
abbrev pub SevenTables : Type 0
SevenTables = (l : List ℕ) → (get_or (decoded first_version l).tables last_table no_block ≡ no_block) × (get_or (decoded second_version l).tables last_table no_block ≡ no_block)

-- all of them: what `records_hold` promises
pub record Claims : Type 0 where
  pub reads_back : ReadsBack
  pub version1 : Version1
  pub seven_tables : SevenTables
