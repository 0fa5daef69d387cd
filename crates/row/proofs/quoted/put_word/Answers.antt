-- Bytes without a quote stay as they are when doubled (`doubled-plain`).
use Rattle.std.proofs.Common.{length}
use Rattle.std.proofs.lemmas.List.Edits.{sets}
use Rattle.row.proofs.quoted.put_word.Goals as goal
use mathlib.Core.Path.{sym, ap, ◌∙◌}
use native.Mathlib.Omega.{arith}
use Rattle.row.proofs.Laws.{doubled-plain}

pub copy_block-requires : goal.copy_block-requires
copy_block-requires c =
    let d = doubled-plain c.args.v.now (sym c.has_byte.ensures ∙ c.if-has_byte.false) in
    (c.requires.0, omega (arith, ap length d, c.requires.1))

pub returns : goal.returns
returns c =
    let d = doubled-plain c.args.v.now (sym c.has_byte.ensures ∙ c.if-has_byte.false) in
    (omega (arith, ap length d), c.copy_block.ensures ∙ ap (sets c.args.out.now c.args.to) (sym d))
