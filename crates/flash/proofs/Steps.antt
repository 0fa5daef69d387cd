-- What the code does is the model's operation: a loop's turn clears bits of one byte more, and blanking or clearing a slice of the region is the
-- operation on the bank, since the slice is a part of the bank.
use mathlib.Core.Path.{◌≡◌, refl, sym, ap, ◌∙◌}
use mathlib.Core.Bool.{Bool, true, false, and-false}
use mathlib.Core.List.{List, [], ◌∷◌, ◌++◌, append_assoc}
use Prim.Native.Nat.{ℕ, zero, suc, ◌+◌, ◌*◌, ◌-◌, ◌≤◌, ◌<◌}
use native.Mathlib.Omega.{arith}
use native.Mathlib.Numerals.{add-one}
use native.Mathlib.Nat.{add_assoc, le_of_suc-le-suc, not-suc-le-zero}
use borrow.Author.Tests.{eq-eqb, ne_eqb, le-leb, lt-leb, leb-true, leb-false}
use lib.Bits.{bit_and}
use lib.Dec.{leb, eqb}
use lib.ListN.{take, drop, length, get_or, set, replicate, length-drop, take-append-drop}
use lib.Seq.{length-take-le, take-length, take-take, take-add, take-append-le, drop-append-le, drop-drop}
use Rattle.region.specs.Region.{region_size, bank_size, sector_size, bank_of}
use Rattle.flash.specs.Flash.{erase, write, blank, clear, done, with_bank, torn, applied, within, erased_in, written_in}
use Rattle.flash.proofs.Laws.{after-fits}

-- ---- what fills a slice and what clears bits of one

pub blank-all : (b : List ℕ) → replicate (length b) 255 ≡ blank (length b) b
unfolding blank
blank-all [] = refl
blank-all (x ∷ b) = ap (λ (l : List ℕ). 255 ∷ l) (blank-all b)

pub clear-more : (ws b : List ℕ) (i : ℕ) → i < length ws → i < length b
    → set (clear (take i ws) b) i (bit_and (get_or (clear (take i ws) b) i 0) (get_or ws i 0)) ≡ clear (take (i + 1) ws) b
unfolding clear
clear-more [] b i h k = absurd (not-suc-le-zero h)
clear-more (w ∷ ws) [] i h k = absurd (not-suc-le-zero k)
clear-more (w ∷ ws) (x ∷ b) zero h k = refl
clear-more (w ∷ ws) (x ∷ b) (suc i) h k =
    rw add-one (ap (λ (l : List ℕ). bit_and x w ∷ l) (rw add-one at (clear-more ws b i (le_of_suc-le-suc h) (le_of_suc-le-suc k))))

-- ---- what comes after stays

blank_part : (n : ℕ) (b : List ℕ) → blank n b ≡ blank n (take n b) ++ drop n b
unfolding blank
blank_part zero b = refl
blank_part (suc n) [] = refl
blank_part (suc n) (x ∷ b) = ap (λ (l : List ℕ). 255 ∷ l) (blank_part n b)

clear-part : (ws b : List ℕ) → clear ws b ≡ clear ws (take (length ws) b) ++ drop (length ws) b
unfolding clear
clear-part [] b = refl
clear-part (w ∷ ws) [] = refl
clear-part (w ∷ ws) (x ∷ b) = ap (λ (l : List ℕ). bit_and x w ∷ l) (clear-part ws b)

-- ---- a part of a part: s bytes of l from i on, and k of these from `at` on

module _ (l : List ℕ) (i s at k : ℕ) (e : i + s ≤ length l) (f : at + k ≤ s) where
  long : s ≤ length (drop i l)
  long = omega (arith, length-drop i l)

  length_part : length (take s (drop i l)) ≡ s
  length_part = length-take-le s (drop i l) long

  rest : (j : ℕ) → j ≤ s → drop j (drop i l) ≡ drop j (take s (drop i l)) ++ drop s (drop i l)
  rest j h =
      ap (drop j) (sym (take-append-drop s (drop i l))) ∙ drop-append-le j (take s (drop i l)) (drop s (drop i l)) (rw length_part h)

  pub part-is : take k (drop (i + at) l) ≡ take k (drop at (take s (drop i l)))
  part-is =
      let h : k ≤ length (drop at (take s (drop i l))) = rw (length-drop at (take s (drop i l)), length_part) (omega arith) in
      ap (take k) (sym (drop-drop at i l) ∙ rest at (omega arith))
      ∙ take-append-le k (drop at (take s (drop i l))) (drop s (drop i l)) h

  pub put_is : (x : List ℕ) → take (i + at) l ++ (x ++ drop (i + at + k) l)
      ≡ take i l ++ ((take at (take s (drop i l)) ++ (x ++ drop k (drop at (take s (drop i l))))) ++ drop (i + s) l)
  put_is x =
      let p = take s (drop i l) in
      let a : take (i + at) l ≡ take i l ++ take at p =
      take-add i at l ∙ ap (λ (t : List ℕ). take i l ++ t) (sym (take-take at s (drop i l) (omega arith))) in
      let b : drop (i + at + k) l ≡ drop k (drop at p) ++ drop (i + s) l =
      ap (λ (j : ℕ). drop j l) (add_assoc i at k)
      ∙ sym (drop-drop (at + k) i l)
      ∙ rest (at + k) f
      ∙ rw (drop-drop k at p, drop-drop s i l) in
      rw (a, b) (simp append_assoc)

  pub blank-there : take (i + at) l ++ (blank k (take k (drop (i + at) l)) ++ drop (i + at + k) l)
      ≡ take i l ++ ((take at (take s (drop i l)) ++ blank k (drop at (take s (drop i l)))) ++ drop (i + s) l)
  blank-there =
      let p = take s (drop i l) in
      rw (part-is)
      (put_is (blank k (take k (drop at p))) ∙ ap (λ (t : List ℕ). take i l ++ ((take at p ++ t) ++ drop (i + s) l)) (sym (blank_part k (drop at p))))

pub clear-there : (l : List ℕ) (i s at : ℕ) (ws : List ℕ) → i + s ≤ length l → at + length ws ≤ s
    → take (i + at) l ++ (clear ws (take (length ws) (drop (i + at) l)) ++ drop (i + at + length ws) l)
    ≡ take i l ++ ((take at (take s (drop i l)) ++ clear ws (drop at (take s (drop i l)))) ++ drop (i + s) l)
clear-there l i s at ws e f =
    let p = take s (drop i l) in
    rw (part-is l i s at (length ws) e f)
    (put_is l i s at (length ws) e f (clear ws (take (length ws) (drop at p)))
    ∙ ap (λ (t : List ℕ). take i l ++ ((take at p ++ t) ++ drop (i + s) l)) (sym (clear-part ws (drop at p))))

-- ---- whole operations by such parts

pub erase-is : (region : List ℕ) (n at : ℕ) → length region ≡ region_size → n ≤ 1 → at + sector_size ≤ bank_size
    → take (n * bank_size + at) region ++ (blank sector_size (take sector_size (drop (n * bank_size + at) region)) ++ drop (n * bank_size + at + sector_size) region) ≡ applied n (erase at) region
unfolding applied torn with_bank bank_of done
erase-is region n at e h f = blank-there region (n * bank_size) bank_size at sector_size (omega arith) f

pub write-is : (region : List ℕ) (n at : ℕ) (ws : List ℕ) → length region ≡ region_size → n ≤ 1 → at + length ws ≤ bank_size
    → take (n * bank_size + at) region ++ (clear ws (take (length ws) (drop (n * bank_size + at) region)) ++ drop (n * bank_size + at + length ws) region) ≡ applied n (write at ws) region
unfolding applied torn with_bank bank_of done
write-is region n at ws e h f = rw (take-length ws) (clear-there region (n * bank_size) bank_size at ws (omega arith) f)

-- as the calls leave them: the slice of k bytes that was lent came back as x
pub erased-is : (region : List ℕ) (n at k : ℕ) (x : List ℕ) → length region ≡ region_size → n ≤ 1 → at + sector_size ≤ bank_size → k ≡ sector_size
    → x ≡ blank (length (take k (drop (n * bank_size + at) region))) (take k (drop (n * bank_size + at) region))
    → take (n * bank_size + at) region ++ (x ++ drop k (drop (n * bank_size + at) region)) ≡ erased_in region n at
erased-is region n at k x e h f ek ex =
    let i = n * bank_size + at in
    let m : length (take k (drop i region)) ≡ k = length-take-le k (drop i region) (omega (arith, length-drop i region)) in
    let y : x ≡ blank k (take k (drop i region)) = ex ∙ ap (λ (j : ℕ). blank j (take k (drop i region))) m in
    rw (y, drop-drop k i region, ek) (erase-is region n at e h f ∙ sym (after-fits region n e h (erase at) f))

pub written_is : (region : List ℕ) (n at k : ℕ) (ws x : List ℕ) → length region ≡ region_size → n ≤ 1 → at + length ws ≤ bank_size → k ≡ length ws
    → x ≡ clear ws (take k (drop (n * bank_size + at) region))
    → take (n * bank_size + at) region ++ (x ++ drop k (drop (n * bank_size + at) region)) ≡ written_in region n at ws
written_is region n at k ws x e h f ek ex =
    let i = n * bank_size + at in
    rw (ex, drop-drop k i region, ek) (write-is region n at ws e h f ∙ sym (after-fits region n e h (write at ws) f))

-- ---- the test

pub within_by : (len n at count : ℕ) → len ≡ region_size → n ≤ 1 → count ≤ bank_size → leb at (bank_size - count) ≡ within len n at count
within_by len n at count e h f = rw (eq-eqb len region_size e, le-leb n 1 h) (moved (leb at (bank_size - count)) refl)
  where
    moved : (t : Bool) → leb at (bank_size - count) ≡ t → leb at (bank_size - count) ≡ leb (at + count) bank_size
    moved true k = k ∙ sym (le-leb (at + count) bank_size (omega (arith, leb-true at (bank_size - count) k)))
    moved false k = k ∙ sym (lt-leb (at + count) bank_size (omega (arith, leb-false at (bank_size - count) k)))

pub not-region : (len n at count : ℕ) → (len ≡ region_size → ⊥) → false ≡ within len n at count
not-region len n at count ne = rw (ne_eqb len region_size ne)

pub not-bank : (len n at count : ℕ) → 1 < n → false ≡ within len n at count
not-bank len n at count h = rw (lt-leb n 1 h) (sym (and-false (eqb len region_size)))

pub too_long : (len n at count : ℕ) → bank_size < count → false ≡ within len n at count
too_long len n at count h = rw (lt-leb (at + count) bank_size (omega arith), and-false (leb n 1)) (sym (and-false (eqb len region_size)))
