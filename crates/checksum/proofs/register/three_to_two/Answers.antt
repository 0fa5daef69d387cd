-- A fold into two words uses up the word at `at` (`fold_at`); of the two, the first is the word to go on with (`pending-at`).
use Rattle.std.proofs.Common.{get_or, rules, ◌<◌, ◌^◌, ◌≡◌, ◌+◌, drop, ℕ}
use Rattle.std.specs.Int.Bits.{bit_xor}
use Rattle.checksum.specs.Register.{steps, run}
use Rattle.checksum.specs.Words.{three, two}
use Rattle.checksum.proofs.register.three_to_two.Goals as goal
use mathlib.Core.Path.{refl, sym, ap, ◌∙◌}
use native.Mathlib.Omega.{arith}
use Rattle.checksum.proofs.Fold.{fold_at, pending-at}

pub returns : goal.returns
returns c =
    let s = c.args.s.now in
    let at = c.args.p.at in
    let p = c.args.p.words in
    let q = c.fold_into_two-q.result in
    let q0 : ℕ = get_or q 0 0 in
    let q1 : ℕ = get_or q 1 0 in
    let w = c.load.result in
    let x = c.load-2.result in
    let b0 : q0 < 2 ^ 64 = search rules in
    let e : at + 8 + 8 ≡ at + 16 = omega arith in (
      refl,
      ap (λ (i : ℕ). run (bit_xor (steps 64 (bit_xor q0 x)) q1) (drop i s)) (sym e)
          ∙ pending-at q0 q1 (steps 64 (bit_xor q0 x)) (at + 8) s (omega arith) b0 (ap (λ (v : ℕ). steps 64 (bit_xor q0 v)) c.load-2.ensures)
          ∙ fold_at 128 (three p) (two q) w at s (omega arith) c.load.ensures c.fold_into_two-q.ensures,
    )
