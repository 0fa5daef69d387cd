-- Two folds into three words use up the words at `at` and `at + 8`, while the fourth and fifth pending words are added above
-- (`into-three-under`).
use Rattle.std.proofs.Common.{get_or, rules, ◌<◌, ◌≡◌, ◌+◌, ◌*◌, ◌^◌, drop, ℕ}
use Rattle.std.specs.Int.Bits.{bit_xor}
use Rattle.checksum.specs.Register.{run}
use Rattle.checksum.specs.Pending.{three}
use Rattle.checksum.proofs.register.five_to_three.Goals as goal
use mathlib.Core.Path.{refl, sym, ap, ◌∙◌}
use native.Mathlib.Omega.{arith}
use lib.Bits.{xor_lt}
use Rattle.checksum.proofs.Fold.{fold_at, into-three-under, above_low}

pub returns : goal.returns
returns c =
    let s = c.args.s.now in
    let at = c.args.p.at in
    let p = c.args.p.words in
    let p0 : ℕ = get_or p 0 0 in
    let p1 : ℕ = get_or p 1 0 in
    let p2 : ℕ = get_or p 2 0 in
    let p3 : ℕ = get_or p 3 0 in
    let p4 : ℕ = get_or p 4 0 in
    let q = c.fold_into_three-q.result in
    let q0 : ℕ = get_or q 0 0 in
    let q1 : ℕ = get_or q 1 0 in
    let q2 : ℕ = get_or q 2 0 in
    let r = c.fold_into_three-r.result in
    let r0 : ℕ = get_or r 0 0 in
    let r1 : ℕ = get_or r 1 0 in
    let r2 : ℕ = get_or r 2 0 in
    let w = c.load.result in
    let x = c.load-2.result in
    let h = p4 * 2 ^ 64 + p3 in
    let bp0 : p0 < 2 ^ 64 = search rules in
    let bp1 : p1 < 2 ^ 64 = search rules in
    let bp2 : p2 < 2 ^ 64 = search rules in
    let bp3 : p3 < 2 ^ 64 = search rules in
    let bq0 : q0 < 2 ^ 64 = search rules in
    let bq1 : q1 < 2 ^ 64 = search rules in
    let bq2 : q2 < 2 ^ 64 = search rules in
    let br0 : r0 < 2 ^ 64 = search rules in
    let br1 : r1 < 2 ^ 64 = search rules in
    let one : run (three q0 q1 (bit_xor q2 h)) (drop (at + 8) s) ≡ run (three p0 p1 (h * 2 ^ 64 + p2)) (drop at s) =
    fold_at 192 (three p0 p1 (h * 2 ^ 64 + p2)) (three q0 q1 (bit_xor q2 h)) w at s (omega arith) c.load.ensures
    (into-three-under p0 p1 p2 w h bp0 bp1 bp2 (omega arith) q0 q1 q2 bq0 bq1 c.fold_into_three-q.ensures) in
    let two : run (three r0 r1 (bit_xor r2 p4)) (drop (at + 8 + 8) s) ≡ run (three q0 q1 (p4 * 2 ^ 64 + bit_xor q2 p3)) (drop (at + 8) s) =
    fold_at 192 (three q0 q1 (p4 * 2 ^ 64 + bit_xor q2 p3)) (three r0 r1 (bit_xor r2 p4)) x (at + 8) s (omega arith) c.load-2.ensures
    (into-three-under q0 q1 (bit_xor q2 p3) x p4 bq0 bq1 (xor_lt 64 q2 p3 bq2 bp3) (omega arith) r0 r1 r2 br0 br1 c.fold_into_three-r.ensures) in
    let g : at + 8 + 8 ≡ at + 16 = omega arith in (
      refl,
      ap (λ (i : ℕ). run (three r0 r1 (bit_xor r2 p4)) (drop i s)) (sym g)
          ∙ two
          ∙ ap (λ (v : ℕ). run (three q0 q1 v) (drop (at + 8) s)) (sym (above_low q2 p3 p4 bq2 bp3))
          ∙ one,
    )
