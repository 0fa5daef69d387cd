-- The register so far, run over the bytes that are left, gives what crc gives on all bytes.
use Rattle.std.proofs.Common.{◌≡◌, drop}
use Rattle.checksum.specs.Register.{run}
use Rattle.checksum.proofs.register.feed_bytes.Given as goal

abbrev pub invariant-loop-b : goal.invariant-loop-b
invariant-loop-b l = run l.c (drop l.b-index l.s) ≡ run l.crc l.s
