-- A length that is a multiple of 4 needs no padding (`padded-whole`); any other is filled up with 255 first (`padded-is`).
use Rattle.std.proofs.Common.{rules, ◌≡◌, List, ℕ, ◌+◌, ◌-◌, length, take}
use Rattle.flash.specs.Flash.{written_in}
use Rattle.region.specs.Region.{sector_size}
use Rattle.writer.specs.State.{tail_size}
use Rattle.due.proofs.write_tail.Goals as goal
use mathlib.Core.Path.{ap, ◌∙◌}
use native.Mathlib.Nat.{sub-zero}
use Rattle.due.proofs.Laws.{padded-is, padded-whole}

pub returns-then-e-eq0 : goal.returns-then-e-eq0
returns-then-e-eq0 c =
    let s = c in
    let a = s.args in
    let k : length a.tail.now ≡ tail_size = search rules in
    c.write.ensures ∙ ap (λ (xs : List ℕ). written_in a.region.now a.bank (sector_size + a.a) xs) (rw sub-zero (padded-whole a.tail.now a.n k s.requires c.if-e-eq0.true))

pub returns : goal.returns
returns c =
    let p = c.padded_length-m in
    let s = c in
    let a = s.args in
    let m = p.result in
    let k : length a.tail.now ≡ tail_size = search rules in
    c.write-2.ensures ∙ ap (λ (xs : List ℕ). written_in a.region.now a.bank (sector_size + a.a) xs) (ap (take (m - 0)) c.filled-t.ensures ∙ rw sub-zero (padded-is a.tail.now a.n m k s.requires p.ensures.0 p.ensures.1))
