-- No identity, no prefix, no call. Else three bytes and the identity, appended one after the other, are the prefix (`appends-writer`).
use Rattle.std.proofs.Common.{length, ℕ, ◌/◌, ◌%◌, false, List, [], ◌∷◌}
use Rattle.upper.proofs.begin.append_prefix.Goals as goal
use native.Mathlib.Omega.{arith}
use Rattle.key.specs.Layout.{prefix}
use Rattle.upper.proofs.Laws.{prefix-none, prefix-is, appends-writer, appends-region}

pub returns-then-n-eq0 : goal.returns-then-n-eq0
returns-then-n-eq0 c =
    let a = c.args in
    prefix-none a.region.now a.w a.identity.now (omega arith)

pub returns : goal.returns
returns c =
    let z = c.append_all in
    let y = c.append_all-v in
    let a = c.args in
    let id = a.identity.now in
    let head : List ℕ = 255 ∷ length id % 256 ∷ length id / 256 % 256 ∷ [] in
    let e = prefix-is id (λ h. c.if-n-eq0.false h) in (
      appends-writer a.region.now a.w head id (prefix id) e y.result y.new.region y.ensures.0 y.ensures.1 z.result z.ensures.0,
      appends-region a.region.now a.w head id (prefix id) e y.result y.new.region y.ensures.0 y.ensures.1 z.new.region z.ensures.1,
    )
