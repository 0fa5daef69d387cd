-- The upper layer "tests that all fits before the first byte; each of its calls is a run of lower calls that ends with nothing due".
use Rattle.std.specs.Prelude.{Bool, true, not, ◌&&◌, List, [], ◌∷◌, ◌++◌, ℕ, ◌+◌, leb, ltb, eqb, ℤ, length, Ok, Err, Some, None, Option}
use Rattle.base.specs.Number.{pick}
use Rattle.leaf.specs.Bytes.{le32}
use Rattle.refusal.specs.declared.Refusal.{Refusal}
use Rattle.refusal.specs.declared.Refusal.TheVariants.{Region, Argument, Identity, Full, Turn, Row}
use Rattle.key.specs.Layout as Key
use Rattle.key.specs.Picks as Picks
use Rattle.rfc4180.specs.Csv.{max_row}
use Rattle.rfc4180.specs.Write.{row_of}
use Rattle.row.specs.Columns.{column_count, names_line}
use Rattle.row.specs.Write.{passed_values}
use Rattle.record.specs.declared.Source.{Source}
use Rattle.region.specs.Region.{region_size, capacity}
use Rattle.bank.specs.Bank.{loaded}
use Rattle.flash.specs.Flash.{Op}
use Rattle.writer.specs.declared.Answer.TheVariants.{Done}
use Rattle.writer.specs.declared.Writer.{Writer}
use Rattle.writer.specs.declared.Step.{Step}
use Rattle.writer.specs.State.{position, is_open, stays}
use Rattle.lower.specs.Lower.{started, may_append, may_begin, may_end}
use Rattle.run.specs.Run.{Lower, source, table, end, close, ran_writer, ran_region, ran_ops}
use Rattle.run.specs.Appends.{dues, appends}
use Rattle.base.specs.Table.{last_table}
use Rattle.header.specs.Header.{max_sources}

-- the calls on a state
pub data Upper : Type 0 where
  source_with_dates : Source → Upper
  table_with_names : ℕ → Upper
  row : List ℕ → List ℕ → Upper
  table_end : Upper
  closing : Upper

-- the bytes that a call appends: "a source's dates", a table's names line, a row
unfoldable pub appended_bytes : Upper → List ℕ
appended_bytes (source_with_dates s) = le32 s.start ++ le32 s.end
appended_bytes (table_with_names t) = names_line t
appended_bytes (row texts lengths) = row_of (passed_values texts lengths)
appended_bytes table_end = []
appended_bytes closing = []

-- the lower call of the same name
abbrev pub lower_of : Upper → List Lower
lower_of (source_with_dates s) = source s ∷ []
lower_of (table_with_names t) = table t ∷ []
lower_of (row texts lengths) = []
lower_of table_end = end ∷ []
lower_of closing = close ∷ []

-- the run: what was due before is done first
unfoldable pub run_of : Upper → List Lower
run_of u = dues ++ (lower_of u ++ (dues ++ appends (appended_bytes u)))

-- refusals 2, 11, 14 and 10
abbrev pub argument_ok : Upper → Bool
argument_ok (table_with_names t) = leb t last_table
argument_ok (source_with_dates s) = true
argument_ok (row texts lengths) = true
argument_ok table_end = true
argument_ok closing = true

abbrev pub order_ok : Writer → Upper → Bool
order_ok w (source_with_dates s) = may_append w && not (is_open w.tables)
order_ok w (table_with_names t) = may_append w && may_begin w.tables t
order_ok w (row texts lengths) = may_append w && is_open w.tables
order_ok w table_end = may_end w
order_ok w closing = may_append w && not (is_open w.tables)

abbrev pub row_ok : Writer → Upper → Bool
row_ok w (row texts lengths) = eqb (length lengths) (column_count w.tables.table) && leb (length (row_of (passed_values texts lengths))) max_row
row_ok w (source_with_dates s) = true
row_ok w (table_with_names t) = true
row_ok w table_end = true
row_ok w closing = true

abbrev pub source_fits : Writer → Upper → Bool
source_fits w (source_with_dates s) = ltb w.tables.count max_sources
source_fits w (table_with_names t) = true
source_fits w (row texts lengths) = true
source_fits w table_end = true
source_fits w closing = true

abbrev pub all_fits : Writer → Upper → Bool
all_fits w u = source_fits w u && leb (position w.contents + length (appended_bytes u)) capacity

-- the refusal, if any
unfoldable pub refusal_of : List ℕ → Writer → Upper → Option Refusal
refusal_of region w u =
    pick (eqb (length region) region_size)
    (pick (argument_ok u)
    (pick (order_ok w u)
    (pick (row_ok w u) (pick (all_fits w u) None (Some Full)) (Some Row))
    (Some Turn))
    (Some Argument))
    (Some Region)

-- "A refused call's run is empty."
abbrev pub run_if : Option Refusal → List Lower → List Lower
run_if None cs = cs
run_if (Some r) cs = []

unfoldable pub upper_run : List ℕ → Writer → Upper → List Lower
upper_run region w u = run_if (refusal_of region w u) (run_of u)

abbrev pub answered : Option Refusal → Writer → Step
answered None w = record { answer = (Ok Done); writer = w }
answered (Some r) w = stays w r

-- the answer and the state that the run ends with, the region that it leaves, its operations
unfoldable pub upper_step : List ℕ → Writer → Upper → Step
upper_step region w u = answered (refusal_of region w u) (ran_writer region w (upper_run region w u))

unfoldable pub upper_region : List ℕ → Writer → Upper → List ℕ
upper_region region w u = ran_region region w (upper_run region w u)

unfoldable pub upper_ops : List ℕ → Writer → Upper → List Op
upper_ops region w u = ran_ops region w (upper_run region w u)

-- Begin with identity and picks: 1, 2, 8; the lower beginning, then the key's bytes.
unfoldable pub begin_refusal : List ℕ → List ℕ → List ℕ → List ℕ → Option Refusal
begin_refusal region identity texts lengths =
    pick (eqb (length region) region_size)
    (pick (Key.fit texts lengths) (pick (leb (length identity) Key.max_identity) None (Some Identity)) (Some Argument))
    (Some Region)

abbrev pub key_bytes : List ℕ → List ℕ → List ℕ → List ℕ
key_bytes identity texts lengths = Key.key_of identity (Picks.passed_picks texts lengths)

unfoldable pub begin_run : List ℕ → List ℕ → List ℕ → List ℕ → List Lower
begin_run region identity texts lengths = run_if (begin_refusal region identity texts lengths) (appends (key_bytes identity texts lengths))

-- a refused beginning gives a state that every call refuses with 11
abbrev pub began_with : Option Refusal → Writer → Bool → ℤ → Step
began_with None w comparing now = record { answer = (Ok Done); writer = w }
began_with (Some r) w comparing now = record { answer = Err r; writer = started (Err r) comparing now }

unfoldable pub begin_step : List ℕ → Bool → ℤ → List ℕ → List ℕ → List ℕ → Step
begin_step region comparing now identity texts lengths =
    began_with (begin_refusal region identity texts lengths)
    (ran_writer region (started (loaded region) comparing now) (begin_run region identity texts lengths))
    comparing
    now

unfoldable pub begin_region : List ℕ → Bool → ℤ → List ℕ → List ℕ → List ℕ → List ℕ
begin_region region comparing now identity texts lengths =
    ran_region region (started (loaded region) comparing now) (begin_run region identity texts lengths)

unfoldable pub begin_ops : List ℕ → Bool → ℤ → List ℕ → List ℕ → List ℕ → List Op
begin_ops region comparing now identity texts lengths =
    ran_ops region (started (loaded region) comparing now) (begin_run region identity texts lengths)
