-- No identity, no prefix. Else 255, the two length bytes and the identity are compared in turn.
use Rattle.std.proofs.Common.{◌≡◌, [], ◌∷◌, None, length, ◌/◌, ◌%◌}
use Rattle.std.proofs.lemmas.Slice.Eq.{strip_prefix_is}
use Rattle.std.proofs.lemmas.Bool.Decides.{Decides-eqb}
use Rattle.key.proofs.matching.match_prefix.Goals as goal
use Rattle.key.proofs.Put.{prefix-none, prefix-some}
use Rattle.key.proofs.Left.{then_left, not_left}

pub returns-then-n-eq0 : goal.returns-then-n-eq0
returns-then-n-eq0 c = rw (prefix-none c.args.identity.now c.if-n-eq0.true)

pub returns-in_err-rest : goal.returns-in_err-rest
returns-in_err-rest c =
    let id = c.args.identity.now in
    rw (c.from_residual.ensures, prefix-some id c.if-n-eq0.false)
    (not_left c.args.stored.now (255 ∷ []) (length id % 256 ∷ length id / 256 % 256 ∷ id) c.in_err-rest.ensures)

pub returns-in_err-rest-2 : goal.returns-in_err-rest-2
returns-in_err-rest-2 c =
    let id = c.args.identity.now in
    rw (c.from_residual-in_err-rest-2.ensures, prefix-some id c.if-n-eq0.false)
    (then_left c.args.stored.now (255 ∷ []) (length id % 256 ∷ length id / 256 % 256 ∷ id) c.in_ok-rest.rest.now c.in_ok-rest.ensures None
    (not_left c.in_ok-rest.rest.now (length id % 256 ∷ []) (length id / 256 % 256 ∷ id) c.in_err-rest-2.ensures))

pub returns-in_err-rest-3 : goal.returns-in_err-rest-3
returns-in_err-rest-3 c =
    let id = c.args.identity.now in
    let e : c.args.stored.now ≡ 255 ∷ length id % 256 ∷ c.in_ok-rest-2.rest.now = cc (c.in_ok-rest.ensures, c.in_ok-rest-2.ensures) in
    rw (c.from_residual-in_err-rest-3.ensures, prefix-some id c.if-n-eq0.false)
    (then_left c.args.stored.now (255 ∷ length id % 256 ∷ []) (length id / 256 % 256 ∷ id) c.in_ok-rest-2.rest.now e None
    (not_left c.in_ok-rest-2.rest.now (length id / 256 % 256 ∷ []) id c.in_err-rest-3.ensures))

pub returns : goal.returns
returns c =
    let id = c.args.identity.now in
    let rest = c.in_ok-rest-3.rest.now in
    let e : c.args.stored.now ≡ 255 ∷ length id % 256 ∷ length id / 256 % 256 ∷ rest = cc (c.in_ok-rest.ensures, c.in_ok-rest-2.ensures, c.in_ok-rest-3.ensures) in
    rw (prefix-some id c.if-n-eq0.false)
    (then_left c.args.stored.now (255 ∷ length id % 256 ∷ length id / 256 % 256 ∷ []) id rest e c.strip_prefix.result
    (strip_prefix_is Decides-eqb rest id c.strip_prefix.result c.strip_prefix.ensures.cases))
