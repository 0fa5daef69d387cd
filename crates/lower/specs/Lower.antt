-- The lower layer's calls that do no flash operation: begin, source, table, bytes, table end, close.
use Rattle.std.specs.Prelude.{Bool, true, false, not, ◌&&◌, ◌||◌, List, [], ℕ, ◌+◌, ◌-◌, ◌^◌, min, leb, ltb, eqb, ℤ, pos, length, take, set, get_or, Ok, Err, Some, None, Result, Option}
use Rattle.std.specs.Int.Bits.{bit_or}
use Rattle.std.proofs.lemmas.List.Edits.{sets}
use Rattle.base.specs.Number.{pick}
use Rattle.leaf.specs.Crc.{crc32}
use Rattle.refusal.specs.declared.Refusal.TheVariants.{Argument, Full, Turn}
use Rattle.record.specs.declared.Block.{Block}
use Rattle.record.specs.declared.Source.{Source}
use Rattle.record.specs.Record.{no_block, no_source}
use Rattle.header.specs.Header.{max_sources}
use Rattle.base.specs.Lists.{fill}
use Rattle.region.specs.Region.{capacity}
use Rattle.bank.specs.Bank.{loaded}
use Rattle.writer.specs.declared.Stage.TheVariants.{Idle}
use Rattle.writer.specs.declared.Contents.{Contents}
use Rattle.writer.specs.declared.Tables.{Tables}
use Rattle.writer.specs.declared.Writer.{Writer}
use Rattle.writer.specs.declared.Answer.TheVariants.{Done, Appended}
use Rattle.writer.specs.declared.Step.{Step}
use Rattle.writer.specs.State.{did, stays, tail_size, position, is_due, stage_of, no_table, is_open, begun_in, in_range}
use Rattle.base.specs.Table.{max_tables, last_table}
use Rattle.refusal.specs.declared.Refusal.{Refusal}
use Rattle.header.specs.declared.Bank.{Bank}
use Rattle.writer.specs.declared.Answer.{Answer}

-- Begin loads the region. The only refusal is 1, and then every call on the state meets 11.
abbrev pub answer_of : Result (Option Bank) Refusal → Result Answer Refusal
answer_of (Ok (Some b)) = Ok Done
answer_of (Ok None) = Ok Done
answer_of (Err r) = Err r

unfoldable pub started : Result (Option Bank) Refusal → Bool → ℤ → Writer
started active comparing now =
    record {
      stage = Idle;
      beginning = record { active = active; comparing = comparing; now = now };
      contents = record { written = 0; fill = 0; crc = 0; different = false; closed = false };
      tables = record { count = 0; table = no_table; start = 0; crc = 0; begun = 0 };
      sources = fill no_source max_sources;
      tail = fill 0 tail_size;
    }

unfoldable pub begun : List ℕ → Bool → ℤ → Step
begun region comparing now = record { answer = answer_of (loaded region); writer = started (loaded region) comparing now }

-- Source: notes its record; the blocks start as zero. Out of order after closing and while a table is open; a fourth meets 10.
abbrev pub may_append : Writer → Bool
may_append w = in_range w && not w.contents.closed

abbrev pub emptied : Source → Source
emptied s =
    record {
      start = s.start;
      end = s.end;
      present = s.present;
      updated = s.updated;
      original = s.original;
      tables = fill no_block max_tables;
      stamp = s.stamp;
      idlen = s.idlen;
      id = s.id;
      validator = s.validator;
    }

unfoldable pub with_source : Writer → Source → Writer
with_source w s =
    record {
      stage = w.stage;
      beginning = w.beginning;
      contents = w.contents;
      tables = record { count = w.tables.count + 1; table = no_table; start = w.tables.start; crc = w.tables.crc; begun = 0 };
      sources = set w.sources w.tables.count (emptied s);
      tail = w.tail;
    }

unfoldable pub source_step : Writer → Source → Step
source_step w s =
    pick (may_append w && not (is_open w.tables))
    (pick (ltb w.tables.count max_sources) (did (with_source w s)) (stays w Full))
    (stays w Turn)

-- Table: 2 above 7. Out of order without a source, another than Routes first in the first source, begun twice in its source, while
-- another is open, after closing.
abbrev pub may_begin : Tables → ℕ → Bool
may_begin s t = not (is_open s) && (leb 1 s.count && (not (begun_in s.begun t) && (eqb t 0 || not (eqb s.count 1 && eqb s.begun 0))))

unfoldable pub with_table : Writer → ℕ → Writer
with_table w t =
    record {
      stage = w.stage;
      beginning = w.beginning;
      contents = w.contents;
      tables = record { count = w.tables.count; table = t; start = position w.contents; crc = 0; begun = bit_or w.tables.begun (2 ^ t) };
      sources = w.sources;
      tail = w.tail;
    }

unfoldable pub table_step : Writer → ℕ → Step
table_step w t =
    pick (leb t last_table)
    (pick (may_append w && may_begin w.tables t) (did (with_table w t)) (stays w Turn))
    (stays w Argument)

-- Bytes: "takes bytes until its 256-byte tail is full and says how many; while an operation is due it takes none". All the bytes
-- offered count for 10.
abbrev pub accepted : Contents → ℕ → ℕ
accepted t n = min n (tail_size - t.fill)

abbrev pub more_contents : Contents → List ℕ → Contents
more_contents t xs = record { written = t.written; fill = t.fill + length xs; crc = crc32 t.crc xs; different = t.different; closed = t.closed }

unfoldable pub with_bytes : Writer → List ℕ → Writer
with_bytes w xs =
    record {
      stage = stage_of w.beginning.comparing (more_contents w.contents xs);
      beginning = w.beginning;
      contents = more_contents w.contents xs;
      tables = record { count = w.tables.count; table = w.tables.table; start = w.tables.start; crc = crc32 w.tables.crc xs; begun = w.tables.begun };
      sources = w.sources;
      tail = sets w.tail w.contents.fill xs;
    }

unfoldable pub appended : Writer → List ℕ → Step
appended w xs =
    pick (is_due w.contents)
    (record { answer = Ok (Appended 0); writer = w })
    (record { answer = Ok (Appended (accepted w.contents (length xs))); writer = with_bytes w (take (accepted w.contents (length xs)) xs) })

unfoldable pub bytes_step : Writer → List ℕ → Step
bytes_step w xs =
    pick (may_append w)
    (pick (leb (position w.contents + length xs) capacity) (appended w xs) (stays w Full))
    (stays w Turn)

-- Table end: fixes offset, length and CRC of the open table's block. Out of order with no table open.
abbrev pub may_end : Writer → Bool
may_end w = in_range w && is_open w.tables

abbrev pub block_of : Writer → Block
block_of w = record { offset = w.tables.start; length = position w.contents - w.tables.start; crc = w.tables.crc }

-- what a read past the end of an array of sources gives
abbrev pub past_end : Source
past_end =
    record {
      start = 0;
      end = 0;
      present = 0;
      updated = pos 0;
      original = [];
      tables = [];
      stamp = [];
      idlen = 0;
      id = [];
      validator = [];
    }

abbrev pub with_block : Source → ℕ → Block → Source
with_block s t b =
    record {
      start = s.start;
      end = s.end;
      present = s.present;
      updated = s.updated;
      original = s.original;
      tables = set s.tables t b;
      stamp = s.stamp;
      idlen = s.idlen;
      id = s.id;
      validator = s.validator;
    }

unfoldable pub with_end : Writer → Writer
with_end w =
    record {
      stage = w.stage;
      beginning = w.beginning;
      contents = w.contents;
      tables = record { count = w.tables.count; table = no_table; start = w.tables.start; crc = w.tables.crc; begun = w.tables.begun };
      sources = set w.sources (w.tables.count - 1) (with_block (get_or w.sources (w.tables.count - 1) past_end) w.tables.table (block_of w));
      tail = w.tail;
    }

unfoldable pub end_step : Writer → Step
end_step w = pick (may_end w) (did (with_end w)) (stays w Turn)

-- Close: the bytes in the tail are then due. Out of order if closed already, and while a table is open.
abbrev pub closed_contents : Contents → Contents
closed_contents t = record { written = t.written; fill = t.fill; crc = t.crc; different = t.different; closed = true }

unfoldable pub with_closed : Writer → Writer
with_closed w =
    record {
      stage = pick (is_due w.contents) w.stage (stage_of w.beginning.comparing (closed_contents w.contents));
      beginning = w.beginning;
      contents = closed_contents w.contents;
      tables = w.tables;
      sources = w.sources;
      tail = w.tail;
    }

unfoldable pub close_step : Writer → Step
close_step w = pick (may_append w && not (is_open w.tables)) (did (with_closed w)) (stays w Turn)
