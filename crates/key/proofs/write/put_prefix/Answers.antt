-- No identity, no prefix. Else 255, the two length bytes and the identity are written in turn (`put_three`).
use Rattle.std.proofs.Common.{◌≡◌, ◌+◌, ◌≤◌, length, ℕ, ◌/◌, ◌%◌, List}
use Rattle.leaf.specs.Bytes.{written}
use Rattle.key.specs.Layout.{prefix}
use Rattle.key.proofs.write.put_prefix.Goals as goal
use mathlib.Core.Path.{ap, ◌∙◌, sym}
use native.Mathlib.Omega.{arith}
use lib.ListN.{length-set}
use Rattle.key.proofs.Put.{put-none, put_three, prefix-none, prefix-some}

-- what the requires says of an identity that isn't empty
enough : (id out : List ℕ) → (length id ≡ 0 → ⊥) → length (prefix id) ≤ length out → 3 + length id ≤ length out
enough id out h r =
    let e = ap length (prefix-some id h) in
    omega (arith, e)

pub returns-then-n-eq0 : goal.returns-then-n-eq0
returns-then-n-eq0 c =
    let a = c.args in
    let e = prefix-none a.identity.now (omega arith) in
    (sym (ap length e), sym (ap (written a.out.now 0) e ∙ put-none a.out.now 0 (omega arith)))

pub bounds-out-0 : goal.bounds-out-0
bounds-out-0 c = omega (arith, enough c.args.identity.now c.args.out.now (omega arith) c.requires)

pub bounds-out-1 : goal.bounds-out-1
bounds-out-1 c = simp length-set (omega (arith, enough c.args.identity.now c.args.out.now (omega arith) c.requires))

pub bounds-out-2 : goal.bounds-out-2
bounds-out-2 c = simp length-set (omega (arith, enough c.args.identity.now c.args.out.now (omega arith) c.requires))

pub put_bytes-requires : goal.put_bytes-requires
put_bytes-requires c = simp length-set (omega (arith, enough c.args.identity.now c.args.out.now (omega arith) c.requires))

pub returns : goal.returns
returns c =
    let a = c.args in
    let id = a.identity.now in
    let e = prefix-some id (omega arith) in
    let space = enough id a.out.now (omega arith) c.requires in (
      omega (arith, ap length e),
      c.put_bytes.ensures ∙ put_three a.out.now 255 (length id % 256) (length id / 256 % 256) id space
          ∙ ap (written a.out.now 0) (sym e),
    )
