-- The invariant: the first f fields are written, up to offset `to`. There is space for each, since the fields so far and this one are a
-- part of the entry.
use Rattle.std.proofs.Common.{◌≡◌, ◌+◌, ◌≤◌, ◌<◌, length, ℕ, List, []}
use Rattle.leaf.specs.Bytes.{written}
use Rattle.key.specs.Layout.{entry, joined}
use Rattle.key.proofs.write.put_pick.Goals as goal
use mathlib.Core.Path.{ap, ◌∙◌, sym}
use native.Mathlib.Omega.{arith}
use lib.ListN.{take, get_or}
use Rattle.key.specs.Picks.{pick_of}
use Rattle.key.specs.Steps.{between}
use Rattle.key.specs.Layout.{field}
use Rattle.key.proofs.TextOffsets.{five}
use Rattle.key.proofs.Put.{put-none, joined-none, joined-all, step-length, step_fits, step-put}

-- the bytes so far and this text's are among those of the pick
enough : (texts starts : List ℕ) (i f : ℕ) (t : List ℕ) → f < 5 → t ≡ get_or (pick_of (between texts starts) i) f []
    → length (joined field (take f (pick_of (between texts starts) i))) + 1 + length t
    ≤ length (entry (pick_of (between texts starts) i))
enough texts starts i f t h e =
    let w = five (between texts starts) i in
    omega (arith, step_fits field [] (pick_of (between texts starts) i) f (omega arith) t e)

pub loop-f-init : goal.loop-f-init
loop-f-init c =
    let a = c.args in
    let e = joined-none field (pick_of (between a.picks.now.texts.now a.picks.now.starts.now) a.i) in
    (omega (arith, ap length e), sym (ap (written a.out.now a.at) e ∙ put-none a.out.now a.at (omega arith)))

pub put_field-requires : goal.put_field-requires
put_field-requires c =
    let a = c.args in
    omega (arith, enough a.picks.now.texts.now a.picks.now.starts.now a.i c.loop-f.f c.field-t.result.now (omega arith) c.field-t.ensures, c.loop-f.invariant.0, c.requires.1)

pub overflow_add-to : goal.overflow_add-to
overflow_add-to c =
    let a = c.args in
    omega (arith, enough a.picks.now.texts.now a.picks.now.starts.now a.i c.loop-f.f c.field-t.result.now (omega arith) c.field-t.ensures, c.loop-f.invariant.0, c.requires.1)

pub overflow_add-to-in-loop-f : goal.overflow_add-to-in-loop-f
overflow_add-to-in-loop-f c =
    let a = c.args in
    omega (arith, enough a.picks.now.texts.now a.picks.now.starts.now a.i c.loop-f.f c.field-t.result.now (omega arith) c.field-t.ensures, c.loop-f.invariant.0, c.requires.1)

pub loop-f-preserved : goal.loop-f-preserved
loop-f-preserved c =
    let a = c.args in
    let p = pick_of (between a.picks.now.texts.now a.picks.now.starts.now) a.i in
    let l = c.loop-f in
    let w = five (between a.picks.now.texts.now a.picks.now.starts.now) a.i in
    let t = c.field-t in
    let q = c.put_field in (
      omega (arith, step-length field [] p l.f (omega arith) t.result.now t.ensures),
      step-put field [] p l.f (omega arith) t.result.now t.ensures a.out.now l.out q.new.out a.at l.to
          (omega arith) l.invariant.0 l.invariant.1 q.ensures,
    )

pub returns : goal.returns
returns c =
    let a = c.args in
    let l = c.loop-f in
    let w = five (between a.picks.now.texts.now a.picks.now.starts.now) a.i in
    let e = joined-all field (pick_of (between a.picks.now.texts.now a.picks.now.starts.now) a.i) l.f (omega arith) in
    (l.invariant.0 ∙ ap (λ (r : List ℕ). a.at + length r) e, l.invariant.1 ∙ ap (written a.out.now a.at) e)
