-- Each answer as numbers for C. Refusal 0 means none; on a refusal the other numbers are 0, but freshness has unknown times, and a turn
-- the state after it.
use Rattle.std.specs.Prelude.{List, ℕ, leb, pos, length, Ok, Err, Some, None, Result, Option, true, false, Bool}
use Rattle.base.specs.Number.{pick}
use Rattle.leaf.specs.Bytes.{written}
use Rattle.refusal.specs.declared.Refusal.TheVariants.{Small}
use Rattle.refusal.specs.Refusal.{number_of}
use Rattle.record.specs.Record.{source_bytes, record_size}
use Rattle.header.specs.declared.Bank.{Bank}
use Rattle.bank.specs.declared.turns.Progress.TheVariants.{Hashed, Yes}
use Rattle.bank.specs.declared.turns.Turn.{Turn}
use Rattle.record.specs.declared.Source.{Source}
use Rattle.snapshot.specs.Freshness.{unknown}
use Rattle.bankcore.specs.declared.bank_calls.BankNumbers.{BankNumbers}
use Rattle.bankcore.specs.declared.bank_calls.BankRowNumbers.{BankRowNumbers}
use Rattle.bankcore.specs.declared.row_calls.ReadNumbers.{ReadNumbers}
use Rattle.bankcore.specs.declared.bank_calls.FreshNumbers.{FreshNumbers}
use Rattle.bankcore.specs.declared.bank_calls.KeyNumbers.{KeyNumbers}
use Rattle.bankcore.specs.declared.bank_calls.MatchNumbers.{MatchNumbers}
use Rattle.bankcore.specs.declared.bank_calls.TurnNumbers.{TurnNumbers}
use Rattle.refusal.specs.declared.Refusal.{Refusal}
use Rattle.snapshot.specs.declared.freshness.Freshness.{Freshness}
use Rattle.rowread.specs.declared.Span.{Span}
use Rattle.bank.specs.declared.turns.Progress.{Progress}

abbrev pub of_bank : Bank → BankNumbers
of_bank b =
    record {
      refusal = 0;
      found = 1;
      number = b.number;
      version = b.version;
      generation = b.generation;
      length = b.length;
      crc = b.crc;
      count = b.count;
      key = b.key;
      checked = b.checked;
    }

abbrev pub no_bank : ℕ → BankNumbers
no_bank r = record { refusal = r; found = 0; number = 0; version = 0; generation = 0; length = 0; crc = 0; count = 0; key = 0; checked = pos 0 }

abbrev pub of_validated : Result Bank Refusal → BankNumbers
of_validated (Ok b) = of_bank b
of_validated (Err r) = no_bank (number_of r)

abbrev pub of_loaded : Result (Option Bank) Refusal → BankNumbers
of_loaded (Ok (Some b)) = of_bank b
of_loaded (Ok None) = no_bank 0
of_loaded (Err r) = no_bank (number_of r)

abbrev pub of_fresh : Result Freshness Refusal → FreshNumbers
of_fresh (Ok f) = record { refusal = 0; checked = f.checked; updated = f.updated }
of_fresh (Err r) = record { refusal = number_of r; checked = unknown; updated = unknown }

abbrev pub of_key : Result ℕ Refusal → KeyNumbers
of_key (Ok n) = record { refusal = 0; length = n }
of_key (Err r) = record { refusal = number_of r; length = 0 }

abbrev pub of_match : Result Bool Refusal → MatchNumbers
of_match (Ok true) = record { refusal = 0; same = 1 }
of_match (Ok false) = record { refusal = 0; same = 0 }
of_match (Err r) = record { refusal = number_of r; same = 0 }

-- a turn's progress: refusal, verdict, count
abbrev pub refusal_in : Result Progress Refusal → ℕ
refusal_in (Ok (Hashed n)) = 0
refusal_in (Ok Yes) = 0
refusal_in (Err r) = number_of r

abbrev pub verdict_in : Result Progress Refusal → ℕ
verdict_in (Ok (Hashed n)) = 0
verdict_in (Ok Yes) = 1
verdict_in (Err r) = 0

abbrev pub count_in : Result Progress Refusal → ℕ
count_in (Ok (Hashed n)) = n
count_in (Ok Yes) = 0
count_in (Err r) = 0

abbrev pub of_turn : Turn → TurnNumbers
of_turn t =
    record {
      refusal = refusal_in t.progress;
      verdict = verdict_in t.progress;
      count = count_in t.progress;
      bank = t.next.bank;
      position = t.next.position;
      crc = t.next.crc;
    }

-- a source is given as its record of version 3 in a lent output; 9 if that is shorter
abbrev pub refusal_of : ℕ → Result Source Refusal → ℕ
refusal_of capacity (Ok s) = pick (leb record_size capacity) 0 (number_of Small)
refusal_of capacity (Err r) = number_of r

abbrev pub output_of : List ℕ → Result Source Refusal → List ℕ
output_of out (Ok s) = written out 0 (source_bytes s)
output_of out (Err r) = out

-- a row of a bank: found is 1 if one was read; at the table's end all are 0
abbrev pub no_bank_row : ℕ → BankRowNumbers
no_bank_row r = record { refusal = r; found = 0; next = 0; size = 0 }

abbrev pub of_bank_row : Result (Option Span) Refusal → BankRowNumbers
of_bank_row (Ok (Some s)) = record { refusal = 0; found = 1; next = s.next; size = s.size }
of_bank_row (Ok None) = no_bank_row 0
of_bank_row (Err r) = no_bank_row (number_of r)

-- the same numbers as those of a row that is read
abbrev pub as_bank_row : ReadNumbers → BankRowNumbers
as_bank_row x = record { refusal = x.refusal; found = x.found; next = x.next; size = x.size }
