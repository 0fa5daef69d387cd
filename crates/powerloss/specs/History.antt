-- "The book of demand 3": a history of the calls, made of their arguments, their answers and how many operations each cut call did. It
-- reads no writer's state and no flash.
use Rattle.std.specs.Prelude.{Bool, true, false, List, [], ◌∷◌, ◌++◌, ℕ, zero, suc, ◌-◌, ℤ, length, take, drop, set, get_or, Ok, Err, Some, Result, None, Option}
use Rattle.leaf.specs.Crc.{crc32}
use Rattle.record.specs.declared.Block.{Block}
use Rattle.record.specs.declared.Source.{Source}
use Rattle.header.specs.declared.Bank.{Bank}
use Rattle.writer.specs.declared.Answer.TheVariants.{Done, Appended, NoneDue, Same, Different}
use Rattle.writer.specs.State.{target, next_generation, key_length}
use Rattle.lower.specs.Lower.{emptied, past_end, with_block}
use Rattle.commit.specs.Commit.{checked_time, routes_offset}
use Rattle.run.specs.Run.{Lower, source, table, bytes, end, close, due, unchanged, commit, word}
use Rattle.upper.specs.Upper.{Upper, source_with_dates, table_with_names, row, table_end, closing, appended_bytes}
use Rattle.record.specs.Record.{current_version}
use Rattle.refusal.specs.declared.Refusal.{Refusal}
use Rattle.writer.specs.declared.Answer.{Answer}

-- "Source, table and table end calls note their arguments and the count of bytes before any of their own."
pub data Note : Type 0 where
  source_note : Source → Note
  table_note : ℕ → ℕ → Note
  end_note : ℕ → Note

-- an open update: its bank and generation, the beginning's now, the bytes appended, the notes, the checked time
pub record Update : Type 0 where
  pub number : ℕ
  pub generation : ℕ
  pub now : ℤ
  pub data· : List ℕ
  pub notes : List Note
  pub checked : ℤ

-- G, with its records up to the count, and the open update, if any
pub record History : Type 0 where
  pub held : Result (Option Bank) Refusal
  pub records : List Source
  pub open· : Option Update

-- "A block is the bytes between its two counts."
unfoldable pub block_between : List ℕ → ℕ → ℕ → Block
block_between xs from to = record { offset = from; length = to - from; crc = crc32 0 (take (to - from) (drop from xs)) }

-- the records with a block set in the last of them
abbrev pub last_with : List Source → ℕ → Block → List Source
last_with rs t b = set rs (length rs - 1) (with_block (get_or rs (length rs - 1) past_end) t b)

-- the records after these notes; xs are the bytes appended, t and from the open table and the offset where it starts
unfoldable pub records_after : List ℕ → List Source → ℕ → ℕ → List Note → List Source
records_after xs rs t from [] = rs
records_after xs rs t from (source_note s ∷ ns) = records_after xs (rs ++ (emptied s ∷ [])) t from ns
records_after xs rs t from (table_note k n ∷ ns) = records_after xs rs k n ns
records_after xs rs t from (end_note n ∷ ns) = records_after xs (last_with rs t (block_between xs from n)) t from ns

abbrev pub records_of : Update → List Source
records_of u = records_after u.data· [] 0 0 u.notes

-- "Beginning opens one without bytes: the bank that isn't G's, G's generation plus one, wrapping; 0 and 0 if G is none."
unfoldable pub opened : Result (Option Bank) Refusal → ℤ → Update
opened held now = record { number = target held; generation = next_generation held; now = now; data· = []; notes = []; checked = now }

-- "G is this update's bank, with its number, generation, checked time, key length, source count, records up to that count, length and
-- CRC of its bytes."
unfoldable pub bank_of : Update → Bank
bank_of u =
    record {
      number = u.number;
      version = current_version;
      generation = u.generation;
      length = length u.data·;
      crc = crc32 0 u.data·;
      count = length (records_of u);
      key = key_length (routes_offset (records_of u));
      checked = u.checked;
    }

abbrev pub with_appended : List ℕ → Update → Update
with_appended xs u = record { number = u.number; generation = u.generation; now = u.now; data· = u.data· ++ xs; notes = u.notes; checked = u.checked }

abbrev pub notes_of : Note → Update → Update
notes_of n u = record { number = u.number; generation = u.generation; now = u.now; data· = u.data·; notes = u.notes ++ (n ∷ []); checked = u.checked }

abbrev pub checks : ℤ → Update → Update
checks t u = record { number = u.number; generation = u.generation; now = u.now; data· = u.data·; notes = u.notes; checked = t }

-- What an answered lower call changes in the open update. "Bytes: the first n offered, n as answered, are taken." "First commit call: the
-- checked time is fixed from its stamp and the beginning's now." Closing, due calls and `unchanged` change nothing.
abbrev pub noted : Lower → Update → Update
noted (source s) u = notes_of (source_note s) u
noted (table t) u = notes_of (table_note t (length u.data·)) u
noted end u = notes_of (end_note (length u.data·)) u
noted (commit stamp current) u = checks (checked_time stamp u.now) u
noted (bytes xs) u = u
noted close u = u
noted due u = u
noted unchanged u = u
noted word u = u

abbrev pub appended_some : Lower → ℕ → Update → Update
appended_some (bytes xs) n u = with_appended (take n xs) u
appended_some (source s) n u = u
appended_some (table t) n u = u
appended_some end n u = u
appended_some close n u = u
appended_some due n u = u
appended_some unchanged n u = u
appended_some (commit stamp current) n u = u
appended_some word n u = u

-- "Refused calls .. change nothing."
unfoldable pub update_after : Lower → Result Answer Refusal → Update → Update
update_after c (Ok Done) u = noted c u
update_after c (Ok (Appended n)) u = appended_some c n u
update_after c (Ok NoneDue) u = u
update_after c (Ok Same) u = u
update_after c (Ok Different) u = u
update_after c (Err r) u = u

-- "Second, answered without refusal or cut with its write done: the commit word is written and G is this update's bank."
abbrev pub is_word : Lower → Bool
is_word word = true
is_word (source s) = false
is_word (table t) = false
is_word (bytes xs) = false
is_word end = false
is_word close = false
is_word due = false
is_word unchanged = false
is_word (commit stamp current) = false

abbrev pub is_done : Result Answer Refusal → Bool
is_done (Ok Done) = true
is_done (Ok (Appended n)) = false
is_done (Ok NoneDue) = false
is_done (Ok Same) = false
is_done (Ok Different) = false
is_done (Err r) = false

-- whether a cut call did an operation whole, by how many it did
abbrev pub any_done : ℕ → Bool
any_done zero = false
any_done (suc did) = true

unfoldable pub committed : Bool → Bool → Update → History → History
committed true true u h = record { held = Ok (Some (bank_of u)); records = records_of u; open· = h.open· }
committed true false u h = h
committed false b u h = h

abbrev pub with_open : Option Update → History → History
with_open v h = record { held = h.held; records = h.records; open· = v }

-- a lower call, answered, or cut after it did some operations (`did` is their number; not the cut's k): "A cut drops the update."
unfoldable pub after_lower : Lower → Result Answer Refusal → History → Option Update → History
after_lower c a h None = h
after_lower c a h (Some u) = with_open (Some (update_after c a u)) (committed (is_word c) (is_done a) u h)

unfoldable pub after_lower_cut : Lower → ℕ → History → Option Update → History
after_lower_cut c did h None = with_open None h
after_lower_cut c did h (Some u) = with_open None (committed (is_word c) (any_done did) u h)

-- "Upper calls take all of theirs: key, dates, names line, row."
abbrev pub upper_noted : Upper → Update → Update
upper_noted (source_with_dates s) u = notes_of (source_note s) u
upper_noted (table_with_names t) u = notes_of (table_note t (length u.data·)) u
upper_noted (row texts lengths) u = u
upper_noted table_end u = notes_of (end_note (length u.data·)) u
upper_noted closing u = u

unfoldable pub upper_after : Upper → Result Answer Refusal → Update → Update
upper_after c (Ok Done) u = with_appended (appended_bytes c) (upper_noted c u)
upper_after c (Ok (Appended n)) u = u
upper_after c (Ok NoneDue) u = u
upper_after c (Ok Same) u = u
upper_after c (Ok Different) u = u
upper_after c (Err r) u = u

unfoldable pub after_upper : Upper → Result Answer Refusal → History → Option Update → History
after_upper c a h None = h
after_upper c a h (Some u) = with_open (Some (upper_after c a u)) h

-- an answered beginning opens an update; a refused one leaves what is open
unfoldable pub after_begin : ℤ → List ℕ → Result Answer Refusal → History → History
after_begin now key (Ok Done) h = with_open (Some (with_appended key (opened h.held now))) h
after_begin now key (Ok (Appended n)) h = h
after_begin now key (Ok NoneDue) h = h
after_begin now key (Ok Same) h = h
after_begin now key (Ok Different) h = h
after_begin now key (Err r) h = h
