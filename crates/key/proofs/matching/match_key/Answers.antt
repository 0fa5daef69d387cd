-- A stored key of another length differs. Else the keys are the same if the stored one begins with the key, since nothing is left then (`told`).
use Rattle.std.proofs.Common.{◌∙◌, sym, ◌-◌, length, take, arith}
use Rattle.base.proofs.Same.{other_length}
use Rattle.key.specs.Picks.{firsts}
use Rattle.key.specs.Layout.{key_of}
use Rattle.key.specs.Steps.{pick_in}
use Rattle.key.proofs.Answers.{part-is, part_length, part_count, total-is, left_key}
use Rattle.key.proofs.Left.{told}
use Rattle.key.proofs.matching.match_key.Goals as goal

pub returns-then-stored-key_length : goal.returns-then-stored-key_length
returns-then-stored-key_length c =
    let a = c.args in
    let f = pick_in a.picks.now.texts.now a.picks.now.starts.now in
    let q = c.sort-m in
    let k = c.key_length in
    let e = total-is f a.picks.now.n q.new.order q.result q.ensures.1 a.identity.now k.result k.ensures in
    sym (other_length a.stored.now (key_of a.identity.now (firsts a.picks.now.n f)) (λ z. omega (arith, e, c.if-stored-key_length.true)))

pub returns : goal.returns
returns c =
    let a = c.args in
    let f = pick_in a.picks.now.texts.now a.picks.now.starts.now in
    let n = a.picks.now.n in
    let ps = firsts n f in
    let order = c.sort-m.new.order in
    let m = c.sort-m.result in
    let o = c.sort-m.ensures.1 in
    let k = c.key_length in
    let r = c.match_parts.result in
    let e = total-is f n order m o a.identity.now k.result k.ensures in
    let begins = left_key a.stored.now a.identity.now ps (length (take (m - 0) order)) (part_length f n order m o ∙ part_count f n order m o) r (rw (part-is f n order m o) at c.match_parts.ensures) in
    told a.stored.now (key_of a.identity.now ps) (omega (arith, e, c.if-stored-key_length.false)) r begins c.is_some.result c.is_some.ensures
