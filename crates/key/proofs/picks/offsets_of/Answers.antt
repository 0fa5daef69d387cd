-- One more offset is stored; a length that reaches past the end gives the end.
use Rattle.std.proofs.Common.{◌≡◌, get_or, ℕ, Option, ap, ◌∙◌, arith, below_more, get_or-set_same, get_or-set_other}
use Rattle.key.proofs.picks.offsets_of.Goals as goal
use Rattle.std.specs.Option.{unwrap_or}
use Rattle.key.proofs.TextOffsets.{offset-none, offset-next, offset-within}

pub loop-i-init : goal.loop-i-init
loop-i-init c = (offset-none c.args.texts.now c.args.lengths.now, λ k h. absurd (omega arith))

pub overflow_sub-texts : goal.overflow_sub-texts
overflow_sub-texts c = omega (arith, offset-within c.args.texts.now c.args.lengths.now c.loop-i.i)

pub loop-i-preserved : goal.loop-i-preserved
loop-i-preserved c =
    let l = c.loop-i in
    let b = c.args.texts.now in
    let s = c.args.lengths.now in
    let n : c.unwrap_or-n.result ≡ get_or s l.i 0 = c.unwrap_or-n.ensures ∙ ap (λ (o : Option ℕ). unwrap_or o 0) c.copied.ensures ∙ c.get.ensures.lookup.4 (omega arith) 0 in (
      omega (arith, offset-next b s l.i, offset-within b s l.i),
      below_more _ _
          (λ k h. let e : k ≡ l.i → ⊥ = λ z. omega arith in get_or-set_other l.starts l.i k l.at 0 e ∙ l.invariant.1 k h)
          (get_or-set_same l.starts l.i l.at 0 (omega arith) ∙ l.invariant.0),
    )
