-- Worked instances of DEMAND 3 by upper calls, on every region of 983,040 bytes, whatever load finds there: an update of 53 data bytes,
-- which is no multiple of 4, with a stamp after now and one before; cut beginnings; a cut closing; and comparing mode, with the same row
-- and with another.
use Rattle.std.specs.Prelude.{◌≡◌, Bool, true, false, List, [], ◌∷◌, ◌++◌, ℕ, ℤ, pos, length, Ok, Some, Result, None, Option}
use Rattle.leaf.specs.Crc.{crc32}
use Rattle.base.specs.Lists.{fill}
use Rattle.row.specs.Columns.{route_id, route_short_name, route_type}
use Rattle.record.specs.declared.Source.{Source}
use Rattle.record.specs.Record.{current_version}
use Rattle.region.specs.Region.{region_size, bank_of, data_of, sector_size}
use Rattle.header.specs.declared.Bank.{Bank}
use Rattle.header.specs.Header.{commit_offset, records_of}
use Rattle.header.specs.WriteHeader.{header_bytes}
use Rattle.header.specs.Types.{Bytes}
use Rattle.bank.specs.Bank.{loaded}
use Rattle.flash.specs.Flash.{Op, erase, write, torn, applied}
use Rattle.writer.specs.declared.Answer.TheVariants.{Same, Different}
use Rattle.writer.specs.declared.Writer.{Writer}
use Rattle.writer.specs.State.{target, next_generation}
use Rattle.lower.specs.Lower.{emptied, with_block}
use Rattle.run.specs.Run.{Lower, unchanged, commit, word, lower_step}
use Rattle.upper.specs.Upper.{source_with_dates, table_with_names, row, table_end, closing}
use Rattle.powerloss.specs.Machine.{Event, call, begin_key, begin_key_cut, upper, upper_cut, Run, found, next_all}
use Rattle.powerloss.specs.Operations.{ops_after}
use Rattle.powerloss.specs.Instances.{dates, the_source, the_old}
use Rattle.refusal.specs.declared.Refusal.{Refusal}
use Rattle.writer.specs.declared.Answer.{Answer}

-- the key without identity and picks: one byte, how many picks
abbrev pub key : List ℕ
key = 0 ∷ []

-- the names line of Routes: route_id,route_short_name,route_type
abbrev pub names : List ℕ
names = route_id ++ (44 ∷ (route_short_name ++ (44 ∷ (route_type ++ (10 ∷ [])))))

-- the row's values as passed, 10, 7 and 3, with their lengths; another row, 10, 8 and 3
abbrev pub texts : List ℕ
texts = 49 ∷ 48 ∷ 55 ∷ 51 ∷ []

abbrev pub other_texts : List ℕ
other_texts = 49 ∷ 48 ∷ 56 ∷ 51 ∷ []

abbrev pub lengths : List ℕ
lengths = 2 ∷ 1 ∷ 1 ∷ []

-- the row's bytes: 10,7,3
abbrev pub row_bytes : List ℕ
row_bytes = 49 ∷ 48 ∷ 44 ∷ 55 ∷ 44 ∷ 51 ∷ 10 ∷ []

-- the 53 data bytes
abbrev pub data· : List ℕ
data· = key ++ (dates ++ (names ++ row_bytes))

-- the beginning's now, and two stamps of the host
abbrev pub now : ℤ
now = pos 1000

abbrev pub later : ℤ
later = pos 2000

abbrev pub earlier : ℤ
earlier = pos 500

-- the calls up to the table's end, in comparing mode or not: key, source with its dates, Routes with its names line, one row
unfoldable pub to_table_end : Bool → List ℕ → List Event
to_table_end comparing values =
    begin_key comparing now [] [] []
    ∷ upper (source_with_dates the_source)
    ∷ upper (table_with_names 0)
    ∷ upper (row values lengths)
    ∷ upper table_end
    ∷ []

-- the whole update, committed with a stamp
unfoldable pub update_at : ℤ → List Event
update_at stamp = to_table_end false texts ++ (upper closing ∷ call (commit (Some stamp) true) ∷ call word ∷ [])

-- ---- the whole update

-- its bank, over what load found: the bank that isn't the found one's, the generation after it (0 and 0 if none was found), 53 data bytes
-- and their CRC, one source, a key of one byte, checked at this time
abbrev pub updated : ℤ → Result (Option Bank) Refusal → Bank
updated checked l =
    record {
      number = target l;
      version = current_version;
      generation = next_generation l;
      length = 53;
      crc = crc32 0 data·;
      count = 1;
      key = 1;
      checked = checked;
    }

-- its record: the source with the block of its Routes, names line and row, 44 bytes from byte 9 on
abbrev pub written : Source
written = with_block (emptied the_source) 0 (record { offset = 9; length = 44; crc = crc32 0 (names ++ row_bytes) })

-- After the update with this stamp, G and load's answer are the update's bank, checked at this time, and that bank has its record and its
-- data.
pub record Gives (stamp checked : ℤ) : Type 0 where
  pub held : (region : List ℕ) → length region ≡ region_size → (next_all (found region) (update_at stamp)).history.held ≡ Ok (Some (updated checked (loaded region)))
  pub loads : (region : List ℕ) → length region ≡ region_size → Bytes region → loaded (next_all (found region) (update_at stamp)).region ≡ Ok (Some (updated checked (loaded region)))
  pub records : (region : List ℕ) → length region ≡ region_size → Bytes region
      → records_of current_version (bank_of (next_all (found region) (update_at stamp)).region (target (loaded region))) 1 ≡ written ∷ []
  pub bytes· : (region : List ℕ) → length region ≡ region_size → Bytes region → data_of (bank_of (next_all (found region) (update_at stamp)).region (target (loaded region))) 53 ≡ data·

-- "the checked time is the host's stamp if at least now, else now"
abbrev pub StampAfterNow : Type 0
StampAfterNow = Gives later later

abbrev pub StampBeforeNow : Type 0
StampBeforeNow = Gives earlier now

-- Closing's three operations, then commit's two. "The last write is padded with 255 to a multiple of 4": 53 bytes by three.
abbrev pub FiveOperations : Type 0
FiveOperations =
    (region : List ℕ) → length region ≡ region_size
    → ops_after (found region) [] (update_at later)
    ≡ erase 0
    ∷ erase sector_size
    ∷ write sector_size (data· ++ (255 ∷ 255 ∷ 255 ∷ []))
    ∷ write 0 (header_bytes (updated later (loaded region)) (written ∷ []) (255 ∷ 255 ∷ 255 ∷ 255 ∷ []))
    ∷ write commit_offset (84 ∷ 77 ∷ 79 ∷ 67 ∷ [])
    ∷ []

-- ---- cuts

-- the update's bank, over what load found; `the_old` is what load found
abbrev pub the_new : Result (Option Bank) Refusal → Result (Option Bank) Refusal
the_new l = Ok (Some (updated later l))

-- After these events G and load's answer are `held` of what load found at first. After the whole update and then these, load's answer is
-- `held` of the update's bank.
pub record After (events : List Event) (held : Result (Option Bank) Refusal → Result (Option Bank) Refusal) : Type 0 where
  pub held· : (region : List ℕ) → length region ≡ region_size → (next_all (found region) events).history.held ≡ held (loaded region)
  pub loads : (region : List ℕ) → length region ≡ region_size → Bytes region → loaded (next_all (found region) events).region ≡ held (loaded region)
  pub after_one : (region : List ℕ) → length region ≡ region_size → Bytes region → loaded (next_all (found region) (update_at later ++ events)).region ≡ held (the_new (loaded region))

-- the region that these events leave: `left` of the bank that is written, by its number, and of the region found
abbrev pub Leaves : List Event → (ℕ → List ℕ → List ℕ) → Type 0
Leaves events left = (region : List ℕ) → length region ≡ region_size → (next_all (found region) events).region ≡ left (target (loaded region)) region

-- a beginning, cut anywhere: its key of one byte needs no operation
abbrev pub beginning_cut : ℕ → ℕ → List Event
beginning_cut k j = begin_key_cut false now [] [] [] k j ∷ []

abbrev pub CutBeginning : Type 0
CutBeginning = (k j : ℕ) → After (beginning_cut k j) the_old × Leaves (beginning_cut k j) (λ n region. region)

-- A beginning with an identity of 300 bytes, all of them 65. Its key has 304 bytes: 255, the length in two bytes, the identity, 0 picks.
-- The first 256 are written. It is cut after 100 bytes of that write, its third operation.
abbrev pub identity : List ℕ
identity = fill 65 300

abbrev pub key_write : Op
key_write = write sector_size (255 ∷ 44 ∷ 1 ∷ fill 65 253)

unfoldable pub key_cut : List Event
key_cut = begin_key_cut false now identity [] [] 2 100 ∷ []

abbrev pub CutInTheKey : Type 0
CutInTheKey = After key_cut the_old × Leaves key_cut (λ n region. torn n 100 key_write (applied n (erase sector_size) (applied n (erase 0) region)))

-- closing, cut after 100 bytes of its second operation: the header sector is erased, of the first data sector the first 100 bytes
unfoldable pub closing_cut : List Event
closing_cut = to_table_end false texts ++ (upper_cut closing 1 100 ∷ [])

abbrev pub CutClosing : Type 0
CutClosing = After closing_cut the_old × Leaves closing_cut (λ n region. torn n 100 (erase sector_size) (applied n (erase 0) region))

-- ---- comparing mode

-- the answer of a lower call on the state that is reached, if there is one
abbrev pub answer_on : List ℕ → Option Writer → Lower → Option (Result Answer Refusal)
answer_on region None c = None
answer_on region (Some w) c = Some (lower_step region w c).answer

-- the whole update, then the calls in comparing mode with these values, up to closing
abbrev pub compared : List ℕ → List ℕ → Run
compared region values = next_all (found region) (update_at later ++ (to_table_end true values ++ (upper closing ∷ [])))

-- `unchanged` answers this then
abbrev pub Compares : List ℕ → Result Answer Refusal → Type 0
Compares values answer = (region : List ℕ) → length region ≡ region_size → Bytes region → answer_on (compared region values).region (compared region values).state unchanged ≡ Some answer

abbrev pub SameRow : Type 0
SameRow = Compares texts (Ok Same)

-- one byte of the row is another
abbrev pub OtherRow : Type 0
OtherRow = Compares other_texts (Ok Different)

-- all of them: what `upper_instances_hold` promises
pub record UpperInstances : Type 0 where
  pub stamp_after_now : StampAfterNow
  pub stamp_before_now : StampBeforeNow
  pub operations : FiveOperations
  pub cut_beginning : CutBeginning
  pub cut_in_the_key : CutInTheKey
  pub cut_closing : CutClosing
  pub same_row : SameRow
  pub other_row : OtherRow
