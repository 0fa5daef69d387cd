-- The prefix, then the first n bytes, are appended one after the other, which is the run of both joined.
use Rattle.std.proofs.Common.{◌++◌, take, ℕ, List}
use Rattle.run.specs.Run.{ran_writer, ran_region}
use Rattle.upper.proofs.begin.run_begin.Goals as goal
use mathlib.Core.Path.{refl, ap, ◌∙◌}
use native.Mathlib.Nat.{sub-zero}
use Rattle.key.specs.Layout.{prefix}
use Rattle.run.specs.Appends.{appends}
use Rattle.upper.proofs.Laws.{appends-writer, appends-region}

pub returns : goal.returns
returns c =
    let z = c.append_all in
    let y = c.append_prefix-v in
    let a = c.args in
    let p = prefix a.identity.now in
    let k = ap (λ (n : ℕ). take n a.bytes.now) (sub-zero a.n) in
    let bs = take a.n a.bytes.now in (
      appends-writer a.region.now a.w p bs (p ++ bs) refl y.result y.new.region y.ensures.0 y.ensures.1 z.result (z.ensures.0 ∙ ap (λ (l : List ℕ). ran_writer y.new.region y.result (appends l)) k),
      appends-region a.region.now a.w p bs (p ++ bs) refl y.result y.new.region y.ensures.0 y.ensures.1 z.new.region (z.ensures.1 ∙ ap (λ (l : List ℕ). ran_region y.new.region y.result (appends l)) k),
    )
