-- The values of a line, copied one after the other. The marks are where the values end among the values joined; the value before mark c starts
-- at `from` in the line and at `to` in the output, and `from - to` commas are before it.
use Prim.Native.Nat.{ℕ, zero, suc, ◌+◌, ◌-◌, ◌≤◌, ◌<◌}
use native.Mathlib.Omega.{arith}
use native.Mathlib.Numerals.{add-one}
use mathlib.Core.Path.{◌≡◌, refl, sym, ap, ◌∙◌}
use mathlib.Core.List.{List, [], ◌∷◌, ◌++◌, append_assoc}
use lib.ListN.{length, take, drop, get_or, set, length-append, length-take, length-drop, drop_of_length-le}
use lib.Seq.{sets, drop-cons, drop-drop, take-suc, take_all, take-take, get_or-take, length-take-le}
use Rattle.rfc4180.proofs.Laws.{sets-append}
use Rattle.rowread.specs.Steps.{commas_in, text_in, cuts_in, marks_in, Ahead}
use Rattle.rowread.proofs.Lines.{cuts-size, text-size, marks-last, FirstCut, first-cut, last-cut}
use Rattle.rowread.proofs.Blocks.{ahead_more}

-- a part of the first e bytes
part_in : (from m e : ℕ) (t : List ℕ) → from + m ≤ e → take m (drop from (take e t)) ≡ take m (drop from t)
part_in zero m e t h = take-take m e t (omega arith)
part_in (suc f) m zero t h = absurd (omega arith)
part_in (suc f) m (suc e) [] h = refl
part_in (suc f) m (suc e) (b ∷ t) h = part_in f m e t (omega arith)

pub record Copied (t : List ℕ) (e n : ℕ) (out₀ ends₀ out ends : List ℕ) (from to k : ℕ) : Type 0 where
  pub inside : from ≤ e
  pub apart : from ≡ to + k
  pub left : drop k (cuts_in 0 (take e t)) ≡ cuts_in to (drop from (take e t))
  pub before : List ℕ
  pub text : text_in (take e t) ≡ before ++ text_in (drop from (take e t))
  pub size : length before ≡ to
  pub bytes : Ahead 16 out₀ 0 before out
  pub marks : ends ≡ sets ends₀ 0 (take k (cuts_in 0 (take e t)))

-- what was asked of the line
module _ (t : List ℕ) (e n : ℕ) (marks : List ℕ) (h : e ≤ length t) (many : n ≡ commas_in (take e t)) (are : take n marks ≡ cuts_in 0 (take e t)) where
  long : length (take e t) ≡ e
  long = length-take-le e t h

  sized : length (text_in (take e t)) ≡ e - n
  sized = omega (arith, text-size (take e t), long, many)

  -- a part of the line is a part of t
  part_of : (from m : ℕ) → from + m ≤ e → take m (drop from (take e t)) ≡ take m (drop from t)
  part_of from m l = part_in from m e t l

  module _ {out₀ ends₀ out ends : List ℕ} {from to k : ℕ} (a : Copied t e n out₀ ends₀ out ends from to k) where
    -- the next mark
    module _ (l : k < n) (c : ℕ) (is : c ≡ get_or marks k 0) where
      cut : FirstCut (drop from (take e t)) to c (drop (suc k) (cuts_in 0 (take e t)))
      cut =
          let i : k < length (cuts_in 0 (take e t)) = omega (arith, l, cuts-size 0 (take e t), many) in
          let g : get_or (cuts_in 0 (take e t)) k 0 ≡ c = ap (λ (x : List ℕ). get_or x k 0) (sym are) ∙ get_or-take n marks k 0 l ∙ sym is in
          let d : drop k (cuts_in 0 (take e t)) ≡ c ∷ drop (suc k) (cuts_in 0 (take e t)) = drop-cons (cuts_in 0 (take e t)) k 0 i ∙ ap (λ (x : ℕ). x ∷ drop (suc k) (cuts_in 0 (take e t))) g in
          first-cut (drop from (take e t)) to c (drop (suc k) (cuts_in 0 (take e t))) (sym a.left ∙ d)

      pub next-after : to ≤ c
      next-after = cut.after

      pub next-inside : from + (c - to) < e
      next-inside = omega (arith, cut.inside, length-drop from (take e t), long, a.inside)

      value-is : take (c - to) (drop from (take e t)) ≡ take (c - to) (drop from t)
      value-is = part_of from (c - to) (omega (arith, next-inside))

      value-size : length (take (c - to) (drop from t)) ≡ c - to
      value-size = omega (arith, length-take (c - to) (drop from t), length-drop from t, next-inside, h)

      rest-is : drop (c - to + 1) (drop from (take e t)) ≡ drop (from + (c - to) + 1) (take e t)
      rest-is = let z : from + (c - to + 1) ≡ from + (c - to) + 1 = omega arith in rw z at (drop-drop (c - to + 1) from (take e t))

      pub next_fits : c ≤ e - n
      next_fits =
          omega (arith, sized, ap length a.text, length-append a.before (text_in (drop from (take e t))), a.size, ap length cut.bytes, length-append (take (c - to) (drop from (take e t))) (text_in (drop (c - to + 1) (drop from (take e t)))), ap length value-is, value-size, next-after)

      pub copied-turn : (o s : List ℕ) → Ahead 16 out to (take (c - to) (drop from t)) o → s ≡ set ends k c → Copied t e n out₀ ends₀ o s (from + (c - to) + 1) c (k + 1)
      copied-turn o s b q =
          let w = take (c - to) (drop from t) in
          let i : k < length (cuts_in 0 (take e t)) = omega (arith, l, cuts-size 0 (take e t), many) in
          let g : get_or (cuts_in 0 (take e t)) k 0 ≡ c = ap (λ (x : List ℕ). get_or x k 0) (sym are) ∙ get_or-take n marks k 0 l ∙ sym is in
          let z : 0 + length a.before ≡ to = omega (arith, a.size) in
          let y : 0 + length (take k (cuts_in 0 (take e t))) ≡ k = omega (arith, length-take k (cuts_in 0 (take e t)), i) in
          let u : take (k + 1) (cuts_in 0 (take e t)) ≡ take k (cuts_in 0 (take e t)) ++ (c ∷ []) = rw (add-one k) (take-suc (cuts_in 0 (take e t)) k 0 i ∙ ap (λ (x : ℕ). take k (cuts_in 0 (take e t)) ++ (x ∷ [])) g) in
          let b' : Ahead 16 out (0 + length a.before) w o = rw z b in
          record {
            inside = omega (arith, next-inside);
            apart = omega (arith, a.apart, next-after);
            left = rw (add-one k) (cut.others ∙ ap (cuts_in c) rest-is);
            before = a.before ++ w;
            text = a.text ∙ ap (λ (x : List ℕ). a.before ++ x) (cut.bytes ∙ rw (value-is, rest-is)) ∙ sym (append_assoc a.before w (text_in (drop (from + (c - to) + 1) (take e t))));
            size = omega (arith, length-append a.before w, a.size, value-size, next-after);
            bytes = ahead_more 16 out₀ 0 a.before out a.bytes w o b';
            marks = q ∙ ap (λ (x : List ℕ). set x k c) a.marks ∙ sym (ap (sets ends₀ 0) u ∙ sets-append ends₀ 0 (take k (cuts_in 0 (take e t))) (c ∷ []) ∙ rw y);
          }

    -- no mark is left: the last value
    module _ (l : n ≤ k) where
      none_left : cuts_in to (drop from (take e t)) ≡ []
      none_left = sym a.left ∙ drop_of_length-le (cuts_in 0 (take e t)) (let z : length (cuts_in 0 (take e t)) ≤ k = omega (arith, cuts-size 0 (take e t), many) in z)

      last-is : text_in (drop from (take e t)) ≡ take (e - from) (drop from t)
      last-is =
          last-cut (drop from (take e t)) to none_left
          ∙ sym (take_all (e - from) (drop from (take e t)) (omega (arith, length-drop from (take e t), long)))
          ∙ part_of from (e - from) (omega (arith, a.inside))

      pub copied-end : (o s : List ℕ) → k ≡ n → Ahead 16 out to (take (e - from) (drop from t)) o → s ≡ set ends n (e - n) → Ahead 16 out₀ 0 (text_in (take e t)) o × (s ≡ sets ends₀ 0 (marks_in 0 (take e t)))
      copied-end o s m b q =
          let z : 0 + length a.before ≡ to = omega (arith, a.size) in
          let b' : Ahead 16 out (0 + length a.before) (take (e - from) (drop from t)) o = rw z b in
          let w = ahead_more 16 out₀ 0 a.before out a.bytes (take (e - from) (drop from t)) o b' in
          let x : text_in (take e t) ≡ a.before ++ take (e - from) (drop from t) = a.text ∙ ap (λ (x : List ℕ). a.before ++ x) last-is in
          let c : take k (cuts_in 0 (take e t)) ≡ cuts_in 0 (take e t) = take_all k (cuts_in 0 (take e t)) (omega (arith, cuts-size 0 (take e t), many, m)) in
          (rw x w, q ∙ ap (λ (y : List ℕ). set y n (e - n)) (a.marks ∙ ap (sets ends₀ 0) c) ∙ marks-last ends₀ (take e t) n (e - n) (omega (arith, long, sized, text-size (take e t), many)) (sym sized))
