-- Parts written one after the other are written as one; and a loop over a joined list has written, after i turns, the joined first i.
use mathlib.Core.Path.{◌≡◌, refl, ap, ◌∙◌, sym}
use mathlib.Core.List.{List, [], ◌∷◌, ◌++◌, append_assoc, append-nil}
use Prim.Native.Nat.{ℕ, suc, ◌+◌, ◌/◌, ◌%◌, ◌≤◌, ◌<◌}
use native.Mathlib.Numerals.{add-one}
use native.Mathlib.Omega.{arith}
use lib.ListN.{length, take, drop, get_or, set, length-append, length-set, take-append-drop}
use lib.Seq.{take-suc, take_all, sets-eq}
use borrow.Rule.Slice.PartMut.{put_mid}
use Rattle.std.proofs.lemmas.Slice.{put_mid-paste}
use Rattle.leaf.specs.Bytes.{written}
use Rattle.leaf.proofs.Laws.{written-sets, written_next}
use Rattle.key.specs.Layout.{joined, prefix}

module _ (d : List ℕ) (at : ℕ) where
  pub put-none : at ≤ length d → written d at [] ≡ d
  put-none h = written-sets d at [] (omega arith)

  pub put_one : (b : ℕ) → at < length d → set d at b ≡ written d at (b ∷ [])
  put_one b h = sym (written-sets d at (b ∷ []) (let k : at + 1 ≤ length d = omega arith in k))

  pub put-put : (s t : List ℕ) (next : ℕ) → next ≡ at + length s → at + length s + length t ≤ length d
      → written (written d at s) next t ≡ written d at (s ++ t)
  put-put s t next e h = rw e (written_next d s t at (length s) refl (omega arith))

-- the bytes of s at once
pub put_part : (d : List ℕ) (at n : ℕ) (now s : List ℕ) → at + length s ≤ length d → n ≡ length s → now ≡ s → put_mid at n d now ≡ written d at s
put_part d at n now s h e w =
    put_mid-paste at n d now s (length s) w (sym e) refl
    ∙ ap (λ (l : List ℕ). take at d ++ l ++ drop (at + length s) d) (take_all (length s) s (omega arith))
    ∙ sym (written-sets d at s h ∙ sets-eq s d at h)

-- ---- joined

module _ {A : Type 0} (g : A → List ℕ) where
  pub joined-append : (xs ys : List A) → joined g (xs ++ ys) ≡ joined g xs ++ joined g ys
  unfolding joined
  joined-append [] ys = refl
  joined-append (x ∷ xs) ys = rw (joined-append xs ys) (sym (append_assoc (g x) (joined g xs) (joined g ys)))

  joined-one : (x : A) → joined g (x ∷ []) ≡ g x
  unfolding joined
  joined-one x = append-nil (g x)

  pub joined-none : (xs : List A) → joined g (take 0 xs) ≡ []
  unfolding joined
  joined-none xs = refl

  module _ (d : A) (xs : List A) (i : ℕ) where
    pub joined-more : i < length xs → joined g (take (i + 1) xs) ≡ joined g (take i xs) ++ g (get_or xs i d)
    joined-more h = rw (add-one, take-suc xs i d h, joined-append (take i xs) (get_or xs i d ∷ []), joined-one (get_or xs i d))

    pub joined-fits : i < length xs → length (joined g (take i xs)) + length (g (get_or xs i d)) ≤ length (joined g xs)
    joined-fits h =
        let e : joined g xs ≡ joined g (take (i + 1) xs) ++ joined g (drop (i + 1) xs) =
        ap (joined g) (sym (take-append-drop (i + 1) xs)) ∙ joined-append (take (i + 1) xs) (drop (i + 1) xs) in
        omega (arith, ap length e, length-append (joined g (take (i + 1) xs)) (joined g (drop (i + 1) xs)), ap length (joined-more h), length-append (joined g (take i xs)) (g (get_or xs i d)))

  pub joined-all : (xs : List A) (i : ℕ) → length xs ≤ i → joined g (take i xs) ≡ joined g xs
  joined-all xs i h = ap (joined g) (take_all i xs h)

module _ {A : Type 0} (g : A → List ℕ) (d : A) (xs : List A) (i : ℕ) (h : i < length xs) (x : A) (e : x ≡ get_or xs i d) where
  pub step : joined g (take (i + 1) xs) ≡ joined g (take i xs) ++ g x
  step = rw e (joined-more g d xs i h)

  pub step-length : length (joined g (take (i + 1) xs)) ≡ length (joined g (take i xs)) + length (g x)
  step-length = ap length step ∙ length-append (joined g (take i xs)) (g x)

  pub step_fits : length (joined g (take i xs)) + length (g x) ≤ length (joined g xs)
  step_fits = rw e (joined-fits g d xs i h)

  pub step-put : (out₀ out out' : List ℕ) (at to : ℕ) → at + length (joined g xs) ≤ length out₀ → to ≡ at + length (joined g (take i xs))
      → out ≡ written out₀ at (joined g (take i xs)) → out' ≡ written out to (g x) → out' ≡ written out₀ at (joined g (take (i + 1) xs))
  step-put out₀ out out' at to fits t o o' =
      let r = step_fits in
      o' ∙ ap (λ (l : List ℕ). written l to (g x)) o
      ∙ put-put out₀ at (joined g (take i xs)) (g x) to t (omega arith)
      ∙ ap (written out₀ at) (sym step)

-- ---- the bytes before

pub put_first : (d : List ℕ) (at b : ℕ) (s : List ℕ) → at + suc (length s) ≤ length d → written (set d at b) (at + 1) s ≡ written d at (b ∷ s)
put_first d at b s h =
    ap (λ (l : List ℕ). written l (at + 1) s) (put_one d at b (omega arith))
    ∙ put-put d at (b ∷ []) s (at + 1) refl (let k : at + 1 + length s ≤ length d = omega arith in k)

pub put_three : (d : List ℕ) (a b c : ℕ) (s : List ℕ) → 3 + length s ≤ length d
    → written (set (set (set d 0 a) 1 b) 2 c) 3 s ≡ written d 0 (a ∷ b ∷ c ∷ s)
put_three d a b c s h =
    put_first (set (set d 0 a) 1 b) 2 c s (simp length-set (omega arith))
    ∙ put_first (set d 0 a) 1 b (c ∷ s) (simp length-set (omega arith))
    ∙ put_first d 0 a (b ∷ c ∷ s) (omega arith)

pub prefix-none : (id : List ℕ) → length id ≡ 0 → prefix id ≡ []
unfolding prefix
prefix-none [] h = refl
prefix-none (b ∷ bs) h = absurd (omega arith)

pub prefix-some : (id : List ℕ) → (length id ≡ 0 → ⊥) → prefix id ≡ 255 ∷ length id % 256 ∷ length id / 256 % 256 ∷ id
unfolding prefix
prefix-some [] h = absurd (h refl)
prefix-some (b ∷ bs) h = refl
