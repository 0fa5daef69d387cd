-- Each turn folds the two words of a pair (`fold_at`), which are where the pair is in the data (`chunk-part`). In the beginning the first word
-- is folded (`first-fold`), with what is added to it.
use Rattle.std.proofs.Common.{◌≡◌, ◌+◌, ◌-◌, ◌*◌, ◌/◌, ◌^◌, ◌<◌, ◌≤◌, List, [], length, take, drop, get_or, ℕ, arith, rules}
use Rattle.base.specs.Little.{little}
use Rattle.base.proofs.Lists.{chunk-part}
use Rattle.checksum.specs.Register.{steps, run}
use Rattle.checksum.specs.Words.{five}
use Rattle.checksum.proofs.register.fold_all.Goals as goal
use mathlib.Core.Path.{sym, ap, ◌∙◌}
use native.Mathlib.Nat.{zero-add}
use lib.Bits.{xor_zero_r}
use lib.ListN.{length-drop, length-take}
use Rattle.checksum.proofs.First.{first-fold}
use Rattle.checksum.proofs.Fold.{fold_at, add_low}

pub loop-pair-preserved : goal.loop-pair-preserved
loop-pair-preserved c =
    let l = c.loop-pair in
    let s = c.args.s.now in
    let at = c.args.b.at in
    let i = l.pair-index in
    let q = c.fold_into_five-q.result in
    let r = c.fold_into_five-p.result in
    let t : ℕ = length s - 40 - at in
    let m : ℕ = length (take t (drop at s)) / 16 in
    let z = length-take t (drop at s) in
    let g : i < m = omega (arith, c.as_chunks.ensures.front_len) in
    let b : 16 * i + 16 ≤ t = omega arith in
    let a : ℕ = at + 16 * i in
    let f = c.as_chunks.ensures.front in
    let e0 : at + (16 * i + 0) ≡ a = omega arith in
    let e8 : at + (16 * i + 8) ≡ a + 8 = omega arith in
    let w : c.load.result ≡ little (take 8 (drop a s)) =
    c.load.ensures ∙ ap (λ (p : List (List ℕ)). little (take 8 (get_or p i []))) f
    ∙ ap little (chunk-part [] 8 0 16 m t at i s (omega arith) g b) ∙ ap (λ (k : ℕ). little (take 8 (drop k s))) e0 in
    let x : c.load-in-loop-pair.result ≡ little (take 8 (drop (a + 8) s)) =
    c.load-in-loop-pair.ensures ∙ ap (λ (p : List (List ℕ)). little (take 8 (drop 8 (get_or p i [])))) f
    ∙ ap little (chunk-part [] 8 8 16 m t at i s (omega arith) g b) ∙ ap (λ (k : ℕ). little (take 8 (drop k s))) e8 in
    let e : at + 16 * (i + 1) ≡ a + 8 + 8 = omega arith in
    ap (λ (k : ℕ). run (five r) (drop k s)) e
    ∙ fold_at 320 (five q) (five r) c.load-in-loop-pair.result (a + 8) s (omega arith) x c.fold_into_five-p.ensures
    ∙ fold_at 320 (five l.p) (five q) c.load.result a s (omega arith) w c.fold_into_five-q.ensures
    ∙ l.invariant

pub returns : goal.returns
returns c =
    let l = c.loop-pair in
    let f = c.fold_into_five-f in
    let b = c.args.b in
    let s = c.args.s.now in
    let r = f.result in
    let t : ℕ = length s - 40 - b.at in
    let z = length-take t (drop b.at s) in
    let y = length-drop b.at s in
    let n = c.as_chunks.ensures.front_len in
    let e : length c.as_chunks.result.0.now ≡ l.pair-index = omega arith in
    let word = b.word in (
      omega arith,
      omega arith,
      ap (λ (k : ℕ). run (five l.p) (drop (b.at + 16 * k) s)) e ∙ l.invariant
          ∙ ap (λ (z : ℕ). run z (drop b.at s))
          (sym (add_low (get_or r 0 0) (((get_or r 4 0 * 2 ^ 64 + get_or r 3 0) * 2 ^ 64 + get_or r 2 0) * 2 ^ 64 + get_or r 1 0) b.added (search rules) (omega arith)))
          ∙ first-fold 320 (five r) word b.added (drop b.at s) (omega (arith, length-drop b.at s))
          (f.ensures ∙ ap (steps 384) (xor_zero_r (0 + word) ∙ zero-add word)),
    )
