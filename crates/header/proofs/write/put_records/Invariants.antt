-- The first i records are written from 48 on, 384 bytes each.
use Rattle.std.proofs.Common.{◌≡◌, ◌*◌, length, take}
use lib.Seq.{sets}
use Rattle.record.specs.Record.{source_bytes}
use Rattle.base.specs.Lists.{puts}
use Rattle.header.specs.Header.{header_size}
use Rattle.header.proofs.write.put_records.Given as goal

abbrev pub invariant-loop-i : goal.invariant-loop-i
invariant-loop-i l = (length l.out ≡ header_size) × (length (puts source_bytes (take l.i l.s-items)) ≡ l.i * 384) × (l.out ≡ sets l.initial.out 48 (puts source_bytes (take l.i l.s-items)))
