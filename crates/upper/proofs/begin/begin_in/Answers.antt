-- The key without its prefix is written to a buffer that is always large enough, so a refusal means that the picks don't fit. Then the
-- identity's length; then the lower beginning and the run of the key's bytes.
use Rattle.std.proofs.Common.{length, ℕ, true, false, w64, ℤ, to_z, of_z, Err}
use Rattle.run.specs.Run.{ran_writer, ran_region}
use Rattle.upper.proofs.begin.begin_in.Goals as goal
use mathlib.Core.Path.{ap, ◌∙◌}
use mir.ValLaws.{to_z-of_z}
use lib.ListN.{replicate, length-replicate}
use Rattle.refusal.specs.declared.Refusal.TheVariants.{Argument, Identity}
use Rattle.lower.specs.Lower.{started, begun}
use Rattle.run.specs.Appends.{appends}
use Rattle.upper.proofs.Laws.{key-not, key-fit, key-inside, key-there, begin-argument, begin-identity, begin-done}

pub returns-in_default : goal.returns-in_default
returns-in_default c =
    let r = c in
    let s = r in
    let y = s.args in
    let z = to_z-of_z w64 y.at s.ranges.at in
    let d = begin-argument y.region.now y.comparing y.at y.identity.now y.texts.now y.lengths.now s.requires (key-not y.texts.now y.lengths.now (replicate 2257 0) r.key-a.new.out r.key-a.result (length-replicate {A = ℕ} 2257 0) r.key-a.ensures.0 r.key-a.ensures.1 c.in_default.field-0 c.in_default.is) in
    (c.refuse.ensures ∙ ap (λ (n : ℤ). record { answer = Err Argument; writer = started (Err Argument) y.comparing n }) z ∙ d.0, d.1)

pub returns-then-identity-gt-MAX_IDENTITY : goal.returns-then-identity-gt-MAX_IDENTITY
returns-then-identity-gt-MAX_IDENTITY c =
    let r = c in
    let s = r in
    let y = s.args in
    let z = to_z-of_z w64 y.at s.ranges.at in
    let d = begin-identity y.region.now y.comparing y.at y.identity.now y.texts.now y.lengths.now s.requires (key-fit y.texts.now y.lengths.now (replicate 2257 0) r.key-a.new.out r.key-a.result (length-replicate {A = ℕ} 2257 0) r.key-a.ensures.0 r.key-a.ensures.1 c.in-Ok.n c.in-Ok.is) c.if-identity-gt-MAX_IDENTITY.true in
    (c.refuse-then-identity-gt-MAX_IDENTITY.ensures ∙ ap (λ (n : ℤ). record { answer = Err Identity; writer = started (Err Identity) y.comparing n }) z ∙ d.0, d.1)

pub run_begin-v-requires : goal.run_begin-v-requires
run_begin-v-requires c =
    let r = c in
    let s = r in
    let y = s.args in
    key-inside y.texts.now y.lengths.now (replicate 2257 0) r.key-a.new.out r.key-a.result (length-replicate {A = ℕ} 2257 0) r.key-a.ensures.0 r.key-a.ensures.1 c.in-Ok.n c.in-Ok.is

pub returns : goal.returns
unfolding begun
returns c =
    let r = c in
    let s = r in
    let y = s.args in
    let z = to_z-of_z w64 y.at s.ranges.at in
    let x = c.run_begin-v in
    let b = c.begin-s in
    let e = b.ensures ∙ ap (begun y.region.now y.comparing) z in
    let k = key-there y.texts.now y.lengths.now (replicate 2257 0) r.key-a.new.out r.key-a.result (length-replicate {A = ℕ} 2257 0) r.key-a.ensures.0 r.key-a.ensures.1 c.in-Ok.n c.in-Ok.is y.identity.now in
    let d =
    begin-done y.region.now y.comparing y.at y.identity.now y.texts.now y.lengths.now s.requires (key-fit y.texts.now y.lengths.now (replicate 2257 0) r.key-a.new.out r.key-a.result (length-replicate {A = ℕ} 2257 0) r.key-a.ensures.0 r.key-a.ensures.1 c.in-Ok.n c.in-Ok.is) c.if-identity-gt-MAX_IDENTITY.false
    x.result
    x.new.region
    (x.ensures.0 ∙ (λ i. ran_writer y.region.now (e i).writer (appends (k i))))
    (x.ensures.1 ∙ (λ i. ran_region y.region.now (e i).writer (appends (k i)))) in
    (c.did.ensures ∙ d.0, d.1)
