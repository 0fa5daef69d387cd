-- The new table starts at the position with CRC 0, and its bit is set: the shift is a power of two (`shifted`).
use Rattle.std.proofs.Common.{ℕ, ◌+◌, bit_or}
use Rattle.lower.proofs.table.with_table.Goals as goal
use mathlib.Core.Path.{ap}
use Rattle.lower.specs.Lower.{with_table}
use Rattle.lower.proofs.Laws.{shifted}

pub returns : goal.returns
unfolding with_table
returns c =
    λ b ss tail.
    let s = c in
    let a = s.args in
    ap
    (λ (n : ℕ). record {
      stage = a.p.stage;
      beginning = b;
      contents = a.p.contents;
      tables = record { count = a.p.tables.count; table = a.table; start = a.p.contents.written + a.p.contents.fill; crc = 0; begun = bit_or a.p.tables.begun n };
      sources = ss;
      tail = tail;
    })
    (shifted a.table s.requires.0)
