-- After the loop no byte of s is left to store (`drop_all`), and bytes that fit are stored by `written` too (`written-sets`).
use Rattle.std.proofs.Common.{◌+◌, List, ℕ, ap, ◌∙◌, sym}
use Rattle.std.proofs.lemmas.List.{drop_all}
use Rattle.std.proofs.lemmas.List.Edits.{sets}
use Rattle.leaf.proofs.Laws.{written-sets}
use Rattle.key.proofs.write.put_bytes.Goals as goal

pub returns : goal.returns
returns c =
    let a = c.args in
    let l = c.loop-i in
    sym (written-sets a.out.now a.at a.s.now c.requires ∙ l.invariant.1 ∙ ap (λ (s : List ℕ). sets l.out (a.at + l.i) s) (drop_all l.i a.s.now c.loop-i-test.false))
