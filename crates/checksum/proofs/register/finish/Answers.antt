-- Each turn reads a word (`taken_at`). Whole words are left, so that after the last no byte is.
use Rattle.std.proofs.Common.{◌≡◌, ◌+◌, ◌-◌, ◌*◌, ◌/◌, ◌≤◌, List, ◌∷◌, length, take, drop, ℕ, suc, arith}
use Rattle.std.specs.Int.Bits.{bit_xor}
use Rattle.std.specs.Simd.{first_chunks}
use Rattle.base.specs.Little.{little}
use Rattle.checksum.specs.Register.{steps, run}
use Rattle.checksum.specs.Pending.{after}
use Rattle.checksum.proofs.register.finish.Goals as goal
use mathlib.Core.Path.{refl, sym, ap, subst, ◌∙◌}
use lib.Bits.{xor_comm, xor_zero_r}
use lib.ListN.{drop_of_length-le, length-drop, length-take}
use lib.Seq.{drop-drop, take-take, take_all}
use Rattle.checksum.proofs.Xor.{xor_assoc}
use Rattle.checksum.proofs.Fold.{taken_at}

pub loop-next-init : goal.loop-next-init
loop-next-init c =
    let b = c.args.b in
    let s = c.args.s.now in
    let t : ℕ = length s - b.at in
    let u : take t (drop b.at s) ≡ drop b.at s = take_all t (drop b.at s) (omega (arith, length-drop b.at s)) in
    let k : length (take t (drop b.at s)) ≡ t = omega (arith, length-drop b.at s, length-take t (drop b.at s)) in
    let q = c.iter-left.result.rest.now in
    let e : q ≡ c.as_chunks.result.0.now = c.iter-left.ensures.rest in
    let n : length q ≡ t / 8 = omega (arith, ap length e, c.as_chunks.ensures.front_len) in
    let a : length s - 8 * length q ≡ b.at = omega arith in
    let f : q ≡ first_chunks 8 (t / 8) (drop b.at s) = e ∙ c.as_chunks.ensures.front ∙ ap (λ (z : ℕ). first_chunks 8 (z / 8) (take t (drop b.at s))) k ∙ ap (first_chunks 8 (t / 8)) u in
    record {
      inside = omega arith;
      words = rw (a, n) f;
      small = λ h. c.requires.added_lt_word_values (omega arith);
      same = rw (a, xor_zero_r b.word);
    }

pub loop-next-preserved : goal.loop-next-preserved
loop-next-preserved c =
    let l = c.loop-next in
    let s = c.args.s.now in
    let p = c.in-Some.next.now in
    let ps = c.next.new.self.rest.now in
    let h = c.in-Some.ensures.steps in
    let a : ℕ = length s - 8 * suc (length ps) in
    let b : ℕ = length s - 8 * length ps in
    let i : 8 * suc (length ps) ≤ length s = subst (λ (r : List (List ℕ)). 8 * length r ≤ length s) h l.invariant.inside in
    let z : b ≡ a + 8 = omega arith in
    let y : p ∷ ps ≡ take 8 (drop a s) ∷ first_chunks 8 (length ps) (drop 8 (drop a s)) =
    subst (λ (r : List (List ℕ)). r ≡ first_chunks 8 (length r) (drop (length s - 8 * length r) s)) h l.invariant.words in
    let first : p ≡ take 8 (drop a s) = cc in
    let others : ps ≡ first_chunks 8 (length ps) (drop 8 (drop a s)) = cc in
    let o : c.load.result ≡ little (take 8 (drop a s)) = c.load.ensures ∙ ap (λ (z : List ℕ). little (take 8 z)) first ∙ ap little (take-take 8 8 (drop a s) (omega arith)) in
    let w = c.steps64-c in
    let r = w.result in
    let v = bit_xor r l.added in
    let x = c.load.result in
    let e : bit_xor (bit_xor x l.added) r ≡ bit_xor v x =
    xor_comm (bit_xor x l.added) r ∙ ap (bit_xor r) (xor_comm x l.added) ∙ sym (xor_assoc r l.added x) in
    let before : run (after (bit_xor l.word l.c) l.added) (drop a s) ≡ run (after c.args.b.word c.args.b.added) (drop c.args.b.at s) =
    subst (λ (r : List (List ℕ)). run (after (bit_xor l.word l.c) l.added) (drop (length s - 8 * length r) s) ≡ run (after c.args.b.word c.args.b.added) (drop c.args.b.at s)) h l.invariant.same in
    record {
      inside = omega arith;
      words = others ∙ ap (first_chunks 8 (length ps)) (drop-drop 8 a s ∙ ap (λ (k : ℕ). drop k s) (sym z));
      small = λ h. omega arith;
      same =
          ap (λ (k : ℕ). run (bit_xor (steps 64 (bit_xor (bit_xor x l.added) r)) 0) (drop k s)) z
          ∙ ap (λ (z : ℕ). run z (drop (a + 8) s)) (xor_zero_r (steps 64 (bit_xor (bit_xor x l.added) r)) ∙ ap (steps 64) e)
          ∙ taken_at v (steps 64 (bit_xor v x)) x a s (omega arith) o refl
          ∙ ap (λ (z : ℕ). run (bit_xor z l.added) (drop a s)) (w.ensures ∙ ap (λ (z : ℕ). steps 64 (bit_xor l.word z)) c.from.ensures)
          ∙ before;
    }

pub returns-in_default : goal.returns-in_default
unfolding run
returns-in_default c =
    let l = c.loop-next in
    let s = c.args.s.now in
    let n : length l.left.rest.now ≡ 0 = c.in_default.ensures.steps.0 in
    ap (λ (z : ℕ). bit_xor z l.added) (c.steps64-c.ensures ∙ ap (λ (z : ℕ). steps 64 (bit_xor l.word z)) c.from.ensures)
    ∙ sym (ap (run (after (bit_xor l.word l.c) l.added)) (drop_of_length-le s {i = length s - 8 * length l.left.rest.now} (omega arith)))
    ∙ l.invariant.same
