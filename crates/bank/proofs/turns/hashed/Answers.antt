-- The next bytes, at most n, are a part of the data; hashing them continues the CRC, and the position goes on by as many.
use Rattle.std.proofs.Common.{◌≡◌, ◌+◌, Ok, rules}
use Rattle.bank.proofs.turns.hashed.Goals as goal
use Rattle.bank.specs.Turns.{count_of, hashed}
use Rattle.bank.specs.Bank.{data_in}
use Rattle.bank.specs.declared.turns.Progress.TheVariants.{Hashed}
use Rattle.leaf.specs.Crc.{crc32}
use lib.ListN.{take, drop}
use mathlib.Core.Path.{ap, ◌∙◌}

pub returns : goal.returns
unfolding hashed
returns c =
    let a = c.args in
    let k : c.min-count.result ≡ count_of c.args.b c.args.s c.args.n = search rules in
    let s = a.s in
    let e : c.crc32-crc.result ≡ crc32 s.crc (take (count_of a.b s a.n) (drop s.position (data_in a.region.now a.b))) =
    c.crc32-crc.ensures ∙ ap (crc32 s.crc) (c.part-p.ensures ∙ (λ i. take (k i) (drop s.position (c.data_in-d.ensures i)))) in
    c.stays.ensures ∙ (λ i. record { progress = Ok (Hashed (k i)); next = record { bank = s.bank; position = s.position + k i; crc = e i } })
