-- Bytes written ahead: a block may go past the end of what it is for. What is written next overwrites it, and at the end the bytes that were there.
use Prim.Native.Nat.{ℕ, ◌+◌, ◌-◌, ◌≤◌}
use native.Mathlib.Omega.{arith}
use native.Mathlib.Nat.{add-zero}
use mathlib.Core.Path.{◌≡◌, refl, sym, ap, ◌∙◌}
use mathlib.Core.List.{List, [], ◌++◌, append_assoc, append-nil}
use lib.ListN.{length, take, drop, length-append, length-take, length-drop, take-append-drop, drop_of_length-le}
use borrow.Rule.Slice.PartMut.{put_mid}
use Rattle.std.proofs.lemmas.Slice.{put_mid-paste}
use lib.Seq.{sets, length-sets, sets-eq, take-add, take_all, take_at, drop-drop}
use Rattle.rfc4180.proofs.Laws.{sets-append, sets_over}
use Rattle.rowread.specs.Steps.{Ahead}

pub ahead_none : (b : ℕ) (out : List ℕ) (to : ℕ) → Ahead b out to [] out
ahead_none b out to = (refl, λ rest h. rw (add-zero to))

module _ (b : ℕ) (out : List ℕ) (to : ℕ) (v o : List ℕ) (a : Ahead b out to v o) where
  pub ahead_more : (w p : List ℕ) → Ahead b o (to + length v) w p → Ahead b out to (v ++ w) p
  ahead_more w p c = (
    c.0 ∙ a.0,
    λ rest h.
        let n : to + length (v ++ w) ≡ to + length v + length w = omega (arith, length-append v w) in
        ap (λ (k : ℕ). sets p k rest) n ∙ c.1 rest h ∙ a.1 (w ++ rest) (omega (arith, h, length-append w rest)) ∙ ap (sets out to) (sym (append_assoc v w rest)),
  )

-- some bytes more than n were written
pub ahead-block : (out : List ℕ) (to n i : ℕ) (w o : List ℕ) → o ≡ sets out to (take i w) → n ≤ i → i ≤ n + 16 → i ≤ length w → Ahead 16 out to (take n w) o
ahead-block out to n i w o e h k l = (
  ap length e ∙ length-sets out to (take i w),
  λ rest r.
      let m : n + (i - n) ≡ i = omega arith in
      let a = take n w in
      let g = take (i - n) (drop n w) in
      let s : take i w ≡ a ++ g = rw m at (take-add n (i - n) w) in
      let z : length g ≤ length rest = omega (arith, length-take (i - n) (drop n w), r) in
      ap (λ (x : List ℕ). sets x (to + length a) rest) (e ∙ ap (sets out to) s ∙ sets-append out to a g) ∙ sets_over (sets out to a) (to + length a) g rest z ∙ sym (sets-append out to a rest),
)

-- the bytes after v are put back
pub ahead-closed : (out v o s p : List ℕ) (n : ℕ) → Ahead 16 out 0 v o → n ≡ length v → s ≡ take 16 (drop n out) → n + 16 ≤ length out → p ≡ sets o n s → p ≡ sets out 0 v
ahead-closed out v o s p n a m e h q =
    let l : length s ≡ 16 = omega (arith, ap length e, length-take 16 (drop n out), length-drop n out) in
    let z : 0 + length v ≡ n = omega (arith, m) in
    let y : 0 + length (v ++ s) ≡ n + 16 = omega (arith, m, l, length-append v s) in
    let i : sets o n s ≡ sets out 0 (v ++ s) = rw z at (a.1 s (omega (arith, l))) in
    let d : s ++ drop (n + 16) out ≡ drop n out = rw (e, ← drop-drop 16 n out) (take-append-drop 16 (drop n out)) in
    let j : sets out 0 (v ++ s) ≡ (v ++ s) ++ drop (n + 16) out = rw y at (sets-eq (v ++ s) out 0 (omega (arith, y))) in
    let k : sets out 0 v ≡ v ++ drop n out = rw z at (sets-eq v out 0 (omega (arith, m))) in
    q ∙ i ∙ j ∙ append_assoc v s (drop (n + 16) out) ∙ ap (λ (x : List ℕ). v ++ x) d ∙ sym k

-- one more block
pub block-turn : (out o p t : List ℕ) (to from i : ℕ) → from + i + 16 ≤ length t → o ≡ sets out to (take i (drop from t)) → p ≡ sets o (to + i) (take 16 (drop (from + i) t)) → p ≡ sets out to (take (i + 16) (drop from t))
block-turn out o p t to from i h e q =
    let l : length (take i (drop from t)) ≡ i = omega (arith, length-take i (drop from t), length-drop from t) in
    let d : drop i (drop from t) ≡ drop (from + i) t = drop-drop i from t in
    let s : take (i + 16) (drop from t) ≡ take i (drop from t) ++ take 16 (drop (from + i) t) = rw d at (take-add i 16 (drop from t)) in
    let a : sets out to (take i (drop from t) ++ take 16 (drop (from + i) t)) ≡ sets (sets out to (take i (drop from t))) (to + i) (take 16 (drop (from + i) t)) = rw l at (sets-append out to (take i (drop from t)) (take 16 (drop (from + i) t))) in
    q ∙ ap (λ (x : List ℕ). sets x (to + i) (take 16 (drop (from + i) t))) e ∙ sym a ∙ ap (sets out to) (sym s)

-- the bytes that were saved in an array are put back
pub ahead-back : (out v o z b p : List ℕ) (n : ℕ) → Ahead 16 out 0 v o → n ≡ length v → n + 16 ≤ length out → length z ≡ 16 → b ≡ sets z 0 (take 16 (drop n out)) → p ≡ sets o n (take 16 (drop 0 b)) → p ≡ sets out 0 v
ahead-back out v o z b p n a m h l e q =
    let w = take 16 (drop n out) in
    let k : length w ≡ 16 = omega (arith, length-take 16 (drop n out), length-drop n out) in
    let y : 0 + length w ≡ 16 = omega (arith, k) in
    let g : sets z 0 w ≡ w ++ drop 16 z = rw y at (sets-eq w z 0 (omega (arith, l, k))) in
    let i : b ≡ w = e ∙ g ∙ ap (λ (x : List ℕ). w ++ x) (let n : length z ≤ 16 = omega (arith, l) in drop_of_length-le z n) ∙ append-nil w in
    ahead-closed out v o w p n a m refl h (q ∙ ap (λ (x : List ℕ). sets o n (take 16 x)) i ∙ ap (sets o n) (take_all 16 w (omega (arith, k))))

pub take-sets : (l v : List ℕ) (n : ℕ) → n ≡ length v → n ≤ length l → take n (sets l 0 v) ≡ v
take-sets l v n e h = rw (sets-eq v l 0 (omega arith)) (take_at v (drop (0 + length v) l) n (sym e))

pub ahead-exact : (b : ℕ) (out : List ℕ) (to : ℕ) (v o : List ℕ) → o ≡ sets out to v → Ahead b out to v o
ahead-exact b out to v o e = (ap length e ∙ length-sets out to v, λ rest h. ap (λ (x : List ℕ). sets x (to + length v) rest) e ∙ sym (sets-append out to v rest))

-- ---- a part of t at once

pub part-put : (d : List ℕ) (at n : ℕ) (now s : List ℕ) → at + length s ≤ length d → n ≡ length s → now ≡ s → put_mid at n d now ≡ sets d at s
part-put d at n now s h e w =
    put_mid-paste at n d now s (length s) w (sym e) refl
    ∙ ap (λ (l : List ℕ). take at d ++ l ++ drop (at + length s) d) (take_all (length s) s (omega arith))
    ∙ sym (sets-eq s d at h)
