-- The length byte, then the text (`then_left`).
use Rattle.std.proofs.Common.{[], ◌∷◌, length, ◌%◌}
use Rattle.std.proofs.lemmas.Slice.Eq.{strip_prefix_is}
use Rattle.std.proofs.lemmas.Bool.Decides.{Decides-eqb}
use Rattle.key.proofs.matching.match_field.Goals as goal
use Rattle.key.proofs.Left.{then_left}

pub returns : goal.returns
returns c =
    let a = c.args in
    let rest = c.in_ok-match_byte.field-0.now in
    then_left a.stored.now (length a.s.now % 256 ∷ []) a.s.now rest c.in_ok-match_byte.ensures c.strip_prefix.result (strip_prefix_is Decides-eqb rest a.s.now c.strip_prefix.result c.strip_prefix.ensures.cases)
