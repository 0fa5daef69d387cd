-- The words that are left are the data's last. The word so far and the register, with what is added to them, run over them give what the first
-- word gives. The measure is how many words are left.
use Rattle.std.proofs.Common.{◌≡◌, ◌-◌, ◌*◌, ◌^◌, ◌<◌, ◌≤◌, length, drop}
use Rattle.std.specs.Int.Bits.{bit_xor}
use Rattle.std.specs.Simd.{first_chunks}
use Rattle.checksum.specs.Register.{run}
use Rattle.checksum.specs.Pending.{after}
use Rattle.checksum.proofs.register.finish.Given as goal

abbrev pub invariant-loop-next : goal.invariant-loop-next
invariant-loop-next l =
    let n = length l.left.rest.now in
    let rest = drop (length l.s - 8 * n) l.s in
    record {
      inside : 8 * n ≤ length l.s;
      words : l.left.rest.now ≡ first_chunks 8 n rest;
      small : n ≡ 0 → l.added < 2 ^ 32;
      same : run (after (bit_xor l.word l.c) l.added) rest ≡ run (after l.fn.b.word l.fn.b.added) (drop l.fn.b.at l.s);
    }

abbrev pub decreases-loop-next : goal.decreases-loop-next
decreases-loop-next l = length l.left.rest.now
