-- DEMAND 3. After every list of update calls of both layers, refused ones included, on any region of 983,040 bytes, with cuts anywhere
-- between two flash operations and inside one, after any of its bytes:
--   load answers G, the bank of the last update whose commit word was written whole, else the one found at the start, else none;
--   G's records are those that the history noted;
--   G's 491,520 bytes are as found or as the commit word left them;
--   and its data are the bytes that the update appended, in order.
use Rattle.std.specs.Prelude.{◌≡◌, Bool, true, false, List, [], ◌∷◌, ◌++◌, map, ◌⊎◌, ℕ, ◌+◌, ◌≤◌, ◌<◌, leb, ℤ, length, take, Ok, Err, Some, None, Result, Option}
use Rattle.std.specs.Int.{w64}
use Rattle.std.proofs.Common.{SFits}
use Rattle.base.specs.Number.{pick}
use Rattle.bank.specs.Bank.{loaded}
use Rattle.region.specs.Region.{region_size, last_bank, data_of}
use Rattle.record.specs.declared.Block.{Block}
use Rattle.record.specs.declared.Source.{Source}
use Rattle.header.specs.declared.Bank.{Bank}
use Rattle.header.specs.Types.{Bytes, Proper}
use Rattle.flash.specs.Flash.{Op, size, torn, applied, performed}
use Rattle.writer.specs.declared.Writer.{Writer}
use Rattle.writer.specs.declared.Answer.TheVariants.{Same, Different}
use Rattle.writer.specs.State.{target, key_length, in_range, is_due}
use Rattle.commit.specs.Commit.{routes_offset}
use Rattle.commit.specs.Unchanged.{unchanged_step}
use Rattle.refusal.specs.declared.Refusal.TheVariants.{Turn}
use Rattle.run.specs.Run.{Lower, source, table, bytes, end, close, due, unchanged, commit, word, lower_ops}
use Rattle.upper.specs.Upper.{Upper, source_with_dates, table_with_names, row, table_end, closing, upper_ops, begin_ops}
use Rattle.powerloss.specs.History.{Update, records_of}
use Rattle.powerloss.specs.Machine.{cut_at, done_at, Event, begin, begin_cut, call, cut, begin_key, begin_key_cut, upper, upper_cut, Run, bank_in, records_in, found, next, next_all}
use Rattle.refusal.specs.declared.Refusal.{Refusal}

-- What the types of the region and the arguments say: bytes are below 256, a record's fields have their widths, times have 64 bits.
-- Nothing else is required.
abbrev pub StampTyped : Option ℤ → Type 0
StampTyped (Some t) = SFits w64 t
StampTyped None = Unit {0}

abbrev pub LowerTyped : Lower → Type 0
LowerTyped (source s) = Proper s
LowerTyped (bytes xs) = Bytes xs
LowerTyped (commit stamp current) = StampTyped stamp
LowerTyped (table t) = Unit {0}
LowerTyped end = Unit {0}
LowerTyped close = Unit {0}
LowerTyped due = Unit {0}
LowerTyped unchanged = Unit {0}
LowerTyped word = Unit {0}

abbrev pub UpperTyped : Upper → Type 0
UpperTyped (source_with_dates s) = Proper s
UpperTyped (row texts lengths) = Bytes texts
UpperTyped (table_with_names t) = Unit {0}
UpperTyped table_end = Unit {0}
UpperTyped closing = Unit {0}

abbrev pub Typed : Event → Type 0
Typed (begin comparing now) = SFits w64 now
Typed (begin_cut comparing now) = SFits w64 now
Typed (call c) = LowerTyped c
Typed (cut c k j) = LowerTyped c
Typed (begin_key comparing now identity texts lengths) = SFits w64 now × Bytes identity × Bytes texts
Typed (begin_key_cut comparing now identity texts lengths k j) = SFits w64 now × Bytes identity × Bytes texts
Typed (upper c) = UpperTyped c
Typed (upper_cut c k j) = UpperTyped c

abbrev pub AllTyped : List Event → Type 0
AllTyped [] = Unit {0}
AllTyped (e ∷ es) = Typed e × AllTyped es

-- the bank's data are these bytes, where any are given
abbrev pub Holds : List ℕ → Option (List ℕ) → Type 0
Holds bank None = Unit {0}
Holds bank (Some xs) = data_of bank (length xs) ≡ xs

-- what holds of the board and the history
pub record Survives (r : Run) : Type 0 where
  pub loads : loaded r.region ≡ r.history.held
  pub records : records_in r.region r.history.held ≡ r.history.records
  pub image : bank_in r.region r.history.held ≡ r.image.bank
  pub given : Holds r.image.bank r.image.given

-- the claim (proofs/Uppers.antt: demand3)
abbrev pub Demand3 : Type 0
Demand3 = (region : List ℕ) (events : List Event) → length region ≡ region_size → Bytes region → AllTyped events → Survives (next_all (found region) events)

-- "a state reached from a beginning is never past a range": 11 by range refuses no state that a list of calls reaches
-- (proofs/States.antt: reached)
abbrev pub Reached : Type 0
Reached =
    (region : List ℕ) (events : List Event) → length region ≡ region_size → Bytes region → AllTyped events → (w : Writer) → (next_all (found region) events).state ≡ Some w → in_range w ≡ true

-- The list has E5's cuts: of a call whose operations are `before`, then `op`, then `rest`, those before may be done whole, of op the first
-- j bytes, whatever j is, and the rest not at all. This holds of every call of both layers and of the beginning with a key. If j is
-- op's size or more, op is whole and nothing else is done; it counts as done once all its bytes are. (proofs/Cuts.antt: torn-calls)
pub record Torn : Type 0 where
  pub lower : (r : Run) (w : Writer) (c : Lower) (before rest : List Op) (op : Op) (j : ℕ) → r.state ≡ Some w → lower_ops r.region w c ≡ before ++ (op ∷ rest)
      → (next r (cut c (length before) j)).region ≡ torn (target w.beginning.active) j op (performed (target w.beginning.active) before r.region)
  pub upper : (r : Run) (w : Writer) (c : Upper) (before rest : List Op) (op : Op) (j : ℕ) → r.state ≡ Some w → upper_ops r.region w c ≡ before ++ (op ∷ rest)
      → (next r (upper_cut c (length before) j)).region ≡ torn (target w.beginning.active) j op (performed (target w.beginning.active) before r.region)
  pub beginning : (r : Run) (comparing : Bool) (now : ℤ) (identity texts lengths : List ℕ) (before rest : List Op) (op : Op) (j : ℕ)
      → begin_ops r.region comparing now identity texts lengths ≡ before ++ (op ∷ rest)
      → (next r (begin_key_cut comparing now identity texts lengths (length before) j)).region ≡ torn (target (loaded r.region)) j op (performed (target (loaded r.region)) before r.region)
  pub whole : (n j : ℕ) (op : Op) (region : List ℕ) → n ≤ last_bank → length region ≡ region_size → size op ≤ j → torn n j op region ≡ applied n op region
  pub number : (before rest : List Op) (op : Op) (j : ℕ) → done_at (length before) j (before ++ (op ∷ rest)) ≡ length before + pick (leb (size op) j) 1 0

-- `Typed` asks for what the types of the arguments say and for nothing else, so no list of calls is left out: bytes are below 256, times have
-- 64 bits, a record's fields have their widths; a table's number may be any. (proofs/Cuts.antt: every-typed)
pub record EveryTyped : Type 0 where
  pub beginning : (comparing : Bool) (now : ℤ) → SFits w64 now → Typed (begin comparing now) × Typed (begin_cut comparing now)
  pub upper_beginning : (comparing : Bool) (now : ℤ) (identity texts lengths : List ℕ) → SFits w64 now → Bytes identity → Bytes texts → Typed (begin_key comparing now identity texts lengths)
  pub source· : (s : Source) → Proper s → Typed (call (source s)) × Typed (upper (source_with_dates s))
  pub table· : (t : ℕ) → Typed (call (table t)) × Typed (upper (table_with_names t))
  pub bytes· : (xs : List ℕ) → Bytes xs → Typed (call (bytes xs))
  pub row· : (texts lengths : List ℕ) → Bytes texts → Typed (upper (row texts lengths))
  pub stamped : (stamp : ℤ) (current : Bool) → SFits w64 stamp → Typed (call (commit (Some stamp) current))
  pub unstamped : (current : Bool) → Typed (call (commit None current))
  pub lower : Typed (call end) × Typed (call close) × Typed (call due) × Typed (call unchanged) × Typed (call word)
  pub upper· : Typed (upper table_end) × Typed (upper closing)
  pub none· : AllTyped []
  pub more : (e : Event) (es : List Event) → Typed e → AllTyped es → AllTyped (e ∷ es)

-- A cut requires no more of a call's arguments than the call does, and nothing of k and j (proofs/Cuts.antt: cut-typed).
pub record CutTyped : Type 0 where
  pub lower : (c : Lower) (k j : ℕ) → Typed (call c) → Typed (cut c k j)
  pub upper : (c : Upper) (k j : ℕ) → Typed (upper c) → Typed (upper_cut c k j)
  pub beginning : (comparing : Bool) (now : ℤ) (identity texts lengths : List ℕ) (k j : ℕ) → Typed (begin_key comparing now identity texts lengths) → Typed (begin_key_cut comparing now identity texts lengths k j)

-- "A cut drops the update": no state and no open update are left (proofs/Cuts.antt: dropped).
abbrev pub NoneOpen : Run → Type 0
NoneOpen r = (r.state ≡ None) × (r.history.open· ≡ None)

pub record Dropped : Type 0 where
  pub lower : (r : Run) (w : Writer) (c : Lower) (k j : ℕ) → r.state ≡ Some w → NoneOpen (next r (cut c k j))
  pub upper : (r : Run) (w : Writer) (c : Upper) (k j : ℕ) → r.state ≡ Some w → NoneOpen (next r (upper_cut c k j))
  pub lower_beginning : (r : Run) (comparing : Bool) (now : ℤ) → NoneOpen (next r (begin_cut comparing now))
  pub beginning : (r : Run) (comparing : Bool) (now : ℤ) (identity texts lengths : List ℕ) (k j : ℕ) → NoneOpen (next r (begin_key_cut comparing now identity texts lengths k j))

-- every operation has a byte or more (an erase has 4,096, the header's write 1,200, the commit word's 4, a write of data at least 4)
abbrev pub Sized : List Op → Type 0
Sized [] = Unit {0}
Sized (op ∷ ops) = (0 < size op) × Sized ops

-- Document 01's cuts, "its first k operations whole, in order, .. the rest not at all", are those with no byte of the next operation done
-- (proofs/Cuts.antt: between)
pub record Between : Type 0 where
  pub region : (n k : ℕ) (ops : List Op) (region : List ℕ) → n ≤ last_bank → length region ≡ region_size → cut_at n k 0 ops region ≡ performed n (take k ops) region
  pub number : (k : ℕ) (ops : List Op) → Sized ops → done_at k 0 ops ≡ length (take k ops)

-- `unchanged`: "yes exactly when there is an active bank with these data, count, key length, dates and blocks".
-- "These" are the open update's, as the history has them. The active bank is the one held, and `bank` its 491,520 bytes.

-- what is compared of a record: its two dates and its eight blocks
abbrev pub dates_and_blocks : Source → ℕ × ℕ × List Block
dates_and_blocks s = (s.start, s.end, s.tables)

pub record Equals (u : Update) (b : Bank) (bank : List ℕ) (records : List Source) : Type 0 where
  pub data· : u.data· ≡ data_of bank b.length
  pub count : length (records_of u) ≡ b.count
  pub key : key_length (routes_offset (records_of u)) ≡ b.key
  pub records· : map dates_and_blocks (records_of u) ≡ map dates_and_blocks records

-- an update is open, there is an active bank, and they are equal
abbrev pub EqualsActive : Option Update → Result (Option Bank) Refusal → List ℕ → List Source → Type 0
EqualsActive (Some u) (Ok (Some b)) bank records = Equals u b bank records
EqualsActive (Some u) (Ok None) bank records = ⊥
EqualsActive (Some u) (Err r) bank records = ⊥
EqualsActive None held bank records = ⊥

abbrev pub IsEqual : Run → Type 0
IsEqual r = EqualsActive r.history.open· r.history.held r.image.bank r.history.records

-- It "meets 11 in writing mode, before closing, or while a call is due"; otherwise it answers yes or no; yes only if they are equal, and no
-- only if they aren't (proofs/Unchanged.antt: exactly).
pub record UnchangedAt (r : Run) (w : Writer) : Type 0 where
  pub writing : w.beginning.comparing ≡ false → (unchanged_step r.region w).answer ≡ Err Turn
  pub before : w.contents.closed ≡ false → (unchanged_step r.region w).answer ≡ Err Turn
  pub while_due : is_due w.contents ≡ true → (unchanged_step r.region w).answer ≡ Err Turn
  pub asked : w.beginning.comparing ≡ true → w.contents.closed ≡ true → is_due w.contents ≡ false
      → ((unchanged_step r.region w).answer ≡ Ok Same) ⊎ ((unchanged_step r.region w).answer ≡ Ok Different)
  pub yes : (unchanged_step r.region w).answer ≡ Ok Same → IsEqual r
  pub no : (unchanged_step r.region w).answer ≡ Ok Different → IsEqual r → ⊥

abbrev pub Unchanged : Type 0
Unchanged =
    (region : List ℕ) (events : List Event) → length region ≡ region_size → Bytes region → AllTyped events → (w : Writer) → (next_all (found region) events).state ≡ Some w
    → UnchangedAt (next_all (found region) events) w

-- all of them: what `demand3_holds` promises
pub record Claims : Type 0 where
  pub survives : Demand3
  pub reached : Reached
  pub torn· : Torn
  pub every_typed : EveryTyped
  pub typed : CutTyped
  pub dropped : Dropped
  pub between : Between
  pub unchanged· : Unchanged
