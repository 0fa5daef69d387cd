-- What the positions left answer and leave, from the filter so far, is what all of them do from the filter at the start.
use Rattle.std.proofs.Common.{◌≡◌, ◌&&◌, length, drop}
use Rattle.bloom.specs.Bloom.{seen, set_all}
use Rattle.bloom.proofs.set_all.Given as goal

abbrev pub invariant-loop-p : goal.invariant-loop-p
invariant-loop-p l =
    let left = drop l.p-index l.positions in
    record {
      same_length : length l.bits ≡ length l.initial.bits;
      answer : l.all && seen l.bits left ≡ seen l.initial.bits l.positions;
      filter : set_all l.bits left ≡ set_all l.initial.bits l.positions;
    }
