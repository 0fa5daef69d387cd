-- A copy into an array and from its start to the output is one store of the bytes (`sets-front`).
use Rattle.std.proofs.Common.{◌≡◌, length}
use Rattle.std.proofs.lemmas.List.Edits.{sets}
use Rattle.row.proofs.copy.copy_block.Goals as goal
use mathlib.Core.Path.{ap, ◌∙◌}
use lib.ListN.{take}
use Rattle.row.proofs.Laws.{sets-front}

pub returns : goal.returns
returns c =
    let a = c.args in
    let p = c.requires in
    let v = a.v.now in
    let e = c.copy_each.ensures in
    let f : take (length v) c.copy_each.new.out ≡ v = rw e (sets-front _ v p.0) in
    c.copy_each-2.ensures ∙ ap (sets a.out.now a.to) f
