-- Worked instances of DEMAND 3, on every region of 983,040 bytes, whatever load finds there: a small update, all its calls answered; the
-- same list with its last call, the commit word's, cut before its write, inside it and after it; one that is cut inside its first
-- operation; and two updates, the second cut.
use Rattle.std.specs.Prelude.{◌≡◌, true, false, List, [], ◌∷◌, ◌++◌, map, ℕ, ◌*◌, pos, length, drop, Ok, Some, None, Result, Option}
use Rattle.leaf.specs.Crc.{crc32}
use Rattle.record.specs.declared.Source.{Source}
use Rattle.record.specs.Record.{no_block, table_words, stamp_size, id_size, validator_size, current_version}
use Rattle.base.specs.Lists.{fill}
use Rattle.header.specs.declared.Bank.{Bank}
use Rattle.region.specs.Region.{region_size, bank_of, data_of, sector_size, erased_byte}
use Rattle.header.specs.WriteHeader.{header_bytes, commit_bytes}
use Rattle.header.specs.Types.{Bytes}
use Rattle.bank.specs.Bank.{loaded}
use Rattle.flash.specs.Flash.{erase, write, torn, with_bank}
use Rattle.writer.specs.State.{target, next_generation}
use Rattle.lower.specs.Lower.{begun, emptied, with_block}
use Rattle.run.specs.Run.{Lower, source, table, bytes, end, close, due, commit, word, ran_ops}
use Rattle.powerloss.specs.Machine.{Event, begin, call, cut, found, next_all}
use Rattle.header.specs.Header.{commit_offset}
use Rattle.base.specs.Table.{max_tables}
use Rattle.refusal.specs.declared.Refusal.{Refusal}

-- the key: one byte
abbrev pub key : List ℕ
key = 7 ∷ []

-- the dates of the source, 20240101 and 20241231, four bytes each, little-endian
abbrev pub dates : List ℕ
dates = 229 ∷ 214 ∷ 52 ∷ 1 ∷ 79 ∷ 219 ∷ 52 ∷ 1 ∷ []

-- the source's Routes
abbrev pub routes : List ℕ
routes = 97 ∷ 44 ∷ 10 ∷ []

-- the twelve data bytes
abbrev pub data· : List ℕ
data· = key ++ (dates ++ routes)

-- the source: one table is present, updated at 0, the texts zeros
abbrev pub the_source : Source
the_source =
    record {
      start = 20240101;
      end = 20241231;
      present = 1;
      updated = pos 0;
      original = fill 0 (max_tables * table_words);
      tables = fill no_block max_tables;
      stamp = fill 0 stamp_size;
      idlen = 0;
      id = fill 0 id_size;
      validator = fill 0 validator_size;
    }

-- the calls up to closing, with it; the header sector's erase is due after them
abbrev pub calls_to_closing : List Lower
calls_to_closing =
    bytes key
    ∷ source the_source
    ∷ bytes dates
    ∷ table 0
    ∷ bytes routes
    ∷ end
    ∷ close
    ∷ []

-- the calls before the commit word's
abbrev pub calls_before : List Lower
calls_before = calls_to_closing ++ (due ∷ due ∷ due ∷ commit None true ∷ [])

-- the list: a beginning in writing mode at time 0, those calls, and a last event
unfoldable pub update_with : Event → List Event
update_with last = begin false (pos 0) ∷ (map call calls_before ++ (last ∷ []))

-- the bank of that update, over what load found: the bank that isn't the found one's, the generation after it (0 and 0 if none was found),
-- twelve data bytes and their CRC, one source, a key of one byte, checked at 0
abbrev pub updated : Result (Option Bank) Refusal → Bank
updated l =
    record {
      number = target l;
      version = current_version;
      generation = next_generation l;
      length = 12;
      crc = crc32 0 data·;
      count = 1;
      key = 1;
      checked = pos 0;
    }

-- what load gives afterwards: the update's bank, or what was there before
abbrev pub the_new : Result (Option Bank) Refusal → Result (Option Bank) Refusal
the_new l = Ok (Some (updated l))

abbrev pub the_old : Result (Option Bank) Refusal → Result (Option Bank) Refusal
the_old l = l

-- after the list with this last event, G is `held` of what load found at first
abbrev pub Gives : Event → ((Result (Option Bank) Refusal) → Result (Option Bank) Refusal) → Type 0
Gives last held = (region : List ℕ) → length region ≡ region_size → (next_all (found region) (update_with last)).history.held ≡ held (loaded region)

-- the whole update commits
abbrev pub WholeUpdate : Type 0
WholeUpdate = Gives (call word) the_new

-- the power fails before the commit word's write: G is as at first
abbrev pub CutBeforeTheWord : Type 0
CutBeforeTheWord = Gives (cut word 0 0) the_old

-- the power fails after the commit word's write: the update is committed
abbrev pub CutAfterTheWord : Type 0
CutAfterTheWord = Gives (cut word 1 0) the_new

-- the power fails inside the commit word's write, after three of its four bytes: G is as at first, and the region has only these three
-- bytes more; after the fourth the write is done
abbrev pub CutInTheWord : Type 0
CutInTheWord = Gives (cut word 0 3) the_old

unfoldable pub before_the_word : List Event
before_the_word = begin false (pos 0) ∷ map call calls_before

abbrev pub ThreeBytesWritten : Type 0
ThreeBytesWritten =
    (region : List ℕ) → length region ≡ region_size
    → (next_all (found region) (update_with (cut word 0 3))).region ≡ torn (target (loaded region)) 3 (write commit_offset commit_bytes) (next_all (found region) before_the_word).region

abbrev pub CutAtTheWordsEnd : Type 0
CutAtTheWordsEnd = Gives (cut word 0 4) the_new

-- the power fails inside the header sector's erase, after 100 of its 4,096 bytes: the bank's first 100 bytes are 255, its others are as
-- they were found, and so are the other bank and G
unfoldable pub erase_cut : List Event
erase_cut = begin false (pos 0) ∷ (map call calls_to_closing ++ (cut due 0 100 ∷ []))

abbrev pub CutInTheErase : Type 0
CutInTheErase =
    (region : List ℕ) → length region ≡ region_size
    → ((next_all (found region) erase_cut).region ≡ with_bank region (target (loaded region)) (fill erased_byte 100 ++ drop 100 (bank_of region (target (loaded region)))))
    × ((next_all (found region) erase_cut).history.held ≡ loaded region)

-- load answers G, by DEMAND 3
abbrev pub Loads : Event → ((Result (Option Bank) Refusal) → Result (Option Bank) Refusal) → Type 0
Loads last held = (region : List ℕ) → length region ≡ region_size → Bytes region → loaded (next_all (found region) (update_with last)).region ≡ held (loaded region)

abbrev pub WholeUpdateLoads : Type 0
WholeUpdateLoads = Loads (call word) the_new

abbrev pub CutBeforeTheWordLoads : Type 0
CutBeforeTheWordLoads = Loads (cut word 0 0) the_old

abbrev pub CutAfterTheWordLoads : Type 0
CutAfterTheWordLoads = Loads (cut word 1 0) the_new

abbrev pub CutInTheWordLoads : Type 0
CutInTheWordLoads = Loads (cut word 0 3) the_old

abbrev pub CutAtTheWordsEndLoads : Type 0
CutAtTheWordsEndLoads = Loads (cut word 0 4) the_new

abbrev pub CutInTheEraseLoads : Type 0
CutInTheEraseLoads = (region : List ℕ) → length region ≡ region_size → Bytes region → loaded (next_all (found region) erase_cut).region ≡ loaded region

-- once the commit word is written, the bank's data are the twelve bytes
abbrev pub Data : Event → Type 0
Data last =
    (region : List ℕ) → length region ≡ region_size → Bytes region → data_of (bank_of (next_all (found region) (update_with last)).region (target (loaded region))) 12 ≡ data·

abbrev pub WholeUpdateData : Type 0
WholeUpdateData = Data (call word)

abbrev pub CutAtTheWordsEndData : Type 0
CutAtTheWordsEndData = Data (cut word 0 4)

-- E5: "A user at the stop must still get the last committed timetable, also when the cut falls in the header erase or after one, two or
-- three bytes of the commit word." After the whole update and then other events, load gives the first update's bank, or the second's.
abbrev pub AfterOne : List Event → ((Result (Option Bank) Refusal) → Result (Option Bank) Refusal) → Type 0
AfterOne events held =
    (region : List ℕ) → length region ≡ region_size → Bytes region → loaded (next_all (found region) (update_with (call word) ++ events)).region ≡ held (the_new (loaded region))

pub record LastCommitted : Type 0 where
  pub in_the_erase : AfterOne erase_cut the_old
  pub one_byte : AfterOne (update_with (cut word 0 1)) the_old
  pub two_bytes : AfterOne (update_with (cut word 0 2)) the_old
  pub three_bytes : AfterOne (update_with (cut word 0 3)) the_old
  pub four_bytes : AfterOne (update_with (cut word 0 4)) the_new

-- the record that commit writes: the source with the block of its Routes, three bytes from byte 9 on
abbrev pub written : Source
written = with_block (emptied the_source) 0 (record { offset = 9; length = 3; crc = crc32 0 routes })

-- The update's five flash operations: the erases of the header sector and of the first data sector, the data's write, the header's with
-- 255 in the commit word, and the commit word's, 0x434f4d54 little-endian.
abbrev pub FiveOperations : Type 0
FiveOperations =
    (region : List ℕ) → length region ≡ region_size
    → ran_ops region (begun region false (pos 0)).writer (calls_before ++ (word ∷ []))
    ≡ erase 0
    ∷ erase sector_size
    ∷ write sector_size data·
    ∷ write 0 (header_bytes (updated (loaded region)) (written ∷ []) (255 ∷ 255 ∷ 255 ∷ 255 ∷ []))
    ∷ write commit_offset (84 ∷ 77 ∷ 79 ∷ 67 ∷ [])
    ∷ []

-- Load finds no bank on an erased region.
abbrev pub ErasedHasNone : Type 0
ErasedHasNone = loaded (fill erased_byte region_size) ≡ Ok None

-- On it load gives bank 0 of generation 0 after the whole update; none after a cut before the commit word or after three of its bytes; the
-- bank with all four bytes written, whether the cut counts as inside that write (k = 0, j = 4) or as after it (k = 1, j = 0).
abbrev pub on_erased : Event → Result (Option Bank) Refusal
on_erased last = loaded (next_all (found (fill erased_byte region_size)) (update_with last)).region

abbrev pub ErasedUpdate : Type 0
ErasedUpdate =
    (on_erased (call word) ≡ Ok (Some (updated (Ok None))))
    × (on_erased (cut word 0 0) ≡ Ok None)
    × (on_erased (cut word 0 3) ≡ Ok None)
    × (on_erased (cut word 0 4) ≡ Ok (Some (updated (Ok None))))
    × (on_erased (cut word 1 0) ≡ Ok (Some (updated (Ok None))))

-- all of them: what `instances_hold` promises
pub record Instances : Type 0 where
  pub whole : WholeUpdate
  pub cut_before : CutBeforeTheWord
  pub cut_after : CutAfterTheWord
  pub cut_in : CutInTheWord
  pub three_bytes : ThreeBytesWritten
  pub cut_at_end : CutAtTheWordsEnd
  pub cut_in_erase : CutInTheErase
  pub whole_loads : WholeUpdateLoads
  pub cut_before_loads : CutBeforeTheWordLoads
  pub cut_after_loads : CutAfterTheWordLoads
  pub cut_in_loads : CutInTheWordLoads
  pub cut_at_end_loads : CutAtTheWordsEndLoads
  pub cut_in_erase_loads : CutInTheEraseLoads
  pub whole_data : WholeUpdateData
  pub cut_at_end_data : CutAtTheWordsEndData
  pub last_committed : LastCommitted
  pub operations : FiveOperations
  pub erased : ErasedHasNone
  pub erased_update : ErasedUpdate
