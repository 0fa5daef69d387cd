-- Storing the doubled rest from n on gives what storing it after the blocks without a quote gives, which is all of v doubled.
use Rattle.std.proofs.Common.{◌≡◌, ◌+◌, ◌*◌, length, drop}
use Rattle.std.proofs.lemmas.List.Edits.{sets}
use Rattle.rfc4180.specs.Write.{doubled}
use Rattle.row.proofs.quoted.put_doubled.Given as goal

abbrev pub invariant-loop-word : goal.invariant-loop-word
invariant-loop-word l =
    let rest = drop (l.plain + 8 * l.word-index) l.v in
    (length l.out ≡ length l.initial.out)
    × (l.n + length (doubled rest) ≡ l.initial.n + length (doubled (drop l.plain l.v)))
    × (sets l.initial.out l.initial.n (doubled (drop l.plain l.v)) ≡ sets l.out l.n (doubled rest))
