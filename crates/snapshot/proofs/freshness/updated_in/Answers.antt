-- The invariant: going on from the state after i records gives what starting from the first gives (`one_more`). At the end no record is
-- left (`no_more`), and `seen_all` says that the result is the definition's.
use Rattle.std.proofs.Common.{◌≡◌, ◌+◌, ◌*◌, ◌-◌, ℕ, w64, to_z, of_z, arith, sym, ap, ◌∙◌}
use Rattle.base.specs.Lists.{many}
use Rattle.header.specs.Header.{record_at}
use Rattle.record.specs.Record.{source_size}
use Rattle.snapshot.specs.declared.freshness.Seen.{Seen}
use Rattle.snapshot.specs.Steps.{after_source, seen, none_seen}
use Rattle.snapshot.proofs.Ages.{seen_all, one_more, no_more}
use Rattle.snapshot.proofs.freshness.updated_in.Goals as goal
use native.Mathlib.Nat.{add-mul, one-mul}
use mir.ValLaws.{to_z-of_z}

pub loop-i-init : goal.loop-i-init
loop-i-init c =
    let first : 48 + 0 * c.source_size-size.result ≡ 48 = omega arith in
    let all : c.args.n - 0 ≡ c.args.n = omega arith in
    rw (first, all)

pub loop-i-preserved : goal.loop-i-preserved
loop-i-preserved c =
    let k = c.loop-i in
    let z = c.source_size-size.result in
    let a = c.args in
    let f = record_at a.version in
    let at = to_z w64 (of_z w64 a.at) in
    let m = 48 + k.i * z in
    let left = a.n - (k.i + 1) in
    let e : 48 + (k.i + 1) * z ≡ m + z = omega (arith, add-mul k.i 1 z, one-mul z) in
    let r : c.after_source-x.result ≡ after_source at k.x (f a.l.now m) = c.after_source-x.ensures ∙ ap (after_source at k.x) c.record_at.ensures in
    ap (λ (j : ℕ). seen at c.after_source-x.result (many f z a.l.now j left)) e
    ∙ ap (λ (y : Seen). seen at y (many f z a.l.now (m + z) left)) r
    ∙ sym (one_more at f z a.l.now m a.n k.i k.x (omega arith))
    ∙ k.invariant

pub returns : goal.returns
returns c =
    let k = c.loop-i in
    let z = c.source_size-size in
    let a = c.args in
    let f = record_at a.version in
    let at = to_z w64 (of_z w64 a.at) in
    let same : at ≡ a.at = to_z-of_z w64 a.at c.ranges.at in
    to_z-of_z w64 c.updated_of.result (record { sfits = c.updated_of.type_inv })
    ∙ c.updated_of.ensures
    ∙ no_more at f z.result a.l.now (48 + k.i * z.result) a.n k.i k.x (omega arith)
    ∙ k.invariant
    ∙ (λ i. seen (same i) (none_seen a.days) (many f (z.ensures.0 i) a.l.now 48 a.n))
    ∙ seen_all a.at (many f (source_size a.version) a.l.now 48 a.n) a.days
