-- Laws of operations on a bank, whole or in part, and of the two banks of a region. An operation done in part is its first j bytes as the
-- whole leaves them, and the rest as before; it changes only its own bytes of its own bank. A write clears bits only.
use mathlib.Core.Path.{◌≡◌, refl, sym, ap, ◌∙◌}
use mathlib.Core.Bool.{false}
use mathlib.Core.List.{List, [], ◌∷◌, ◌++◌, append_assoc}
use mathlib.Core.Logic.{◌⊎◌, inl, inr}
use Prim.Native.Nat.{ℕ, zero, suc, ◌+◌, ◌*◌, ◌/◌, ◌%◌, ◌≤◌, ◌<◌, min}
use native.Mathlib.Omega.{arith}
use native.Mathlib.Nat.{suc-min-suc, mod-eq_of_lt, le_of_suc-le-suc, not-suc-le-zero}
use borrow.Author.Tests.{eq-eqb, le-leb}
use lib.Arith.{bin_ind}
use lib.Bits.{bit_and, and_step, and_zero_l, and_self, and_mask, and_comm}
use lib.ListN.{take, drop, length, get_or, length-append, length-take, length-drop, take-append-drop, get_or-append}
use lib.Seq.{take_at, drop_at, take_all, take-length, length-take-le, take-append-le, take-append-add, drop-append-le, get_or-take, get_or-drop, get_or-append-add, drop-drop}
use Rattle.base.specs.Lists.{fill, byte}
use Rattle.region.specs.Region.{region_size, bank_size, sector_size, bank_of}
use Rattle.flash.specs.Flash.{Op, erase, write, blank, clear, offset, size, done, with_bank, torn, applied, performed, fits, after}
use Rattle.flash.specs.Claims.{Bytes, FirstPart}

-- ---- bytes blanked and cleared

pub length-blank : (n : ℕ) (b : List ℕ) → length (blank n b) ≡ length b
unfolding blank
length-blank zero b = refl
length-blank (suc n) [] = refl
length-blank (suc n) (x ∷ b) = ap suc (length-blank n b)

pub length-clear : (ws b : List ℕ) → length (clear ws b) ≡ length b
unfolding clear
length-clear [] b = refl
length-clear (w ∷ ws) [] = refl
length-clear (w ∷ ws) (x ∷ b) = ap suc (length-clear ws b)

-- x and w together have no bit that x lacks
no_more : (x w : ℕ) → bit_and (bit_and x w) x ≡ bit_and x w
no_more =
    bin_ind (λ (x : ℕ). (w : ℕ) → bit_and (bit_and x w) x ≡ bit_and x w) (λ w. rw (and_zero_l w))
    (λ x ih w.
    let a = bit_and (x / 2) (w / 2) in
    let s : bit_and x w ≡ a * 2 + min (x % 2) (w % 2) = and_step x w in
    let p : bit_and x w / 2 ≡ a = omega arith in
    let q : bit_and x w % 2 ≡ min (x % 2) (w % 2) = omega arith in
    and_step (bit_and x w) x ∙ rw (p, q, ih (w / 2)) (omega arith))

-- a write clears bits only: no byte gets a bit that it lacked
pub clears-only : (ws b : List ℕ) (i : ℕ) → bit_and (byte (clear ws b) i) (byte b i) ≡ byte (clear ws b) i
unfolding clear
clears-only [] b i = and_self (byte b i)
clears-only (w ∷ ws) [] i = and_self (byte [] i)
clears-only (w ∷ ws) (x ∷ b) zero = no_more x w
clears-only (w ∷ ws) (x ∷ b) (suc i) = clears-only ws b i

and-255 : (x : ℕ) → x < 256 → bit_and 255 x ≡ x
and-255 x h = and_comm 255 x ∙ and_mask x 8 ∙ mod-eq_of_lt h

-- blank bytes become what is written
pub clear-blank : (ws r : List ℕ) → Bytes ws → clear ws (fill 255 (length ws) ++ r) ≡ ws ++ r
unfolding clear fill
clear-blank [] r h = refl
clear-blank (w ∷ ws) r h = rw (and-255 w (h 0), clear-blank ws r (λ k. h (suc k)))

pub blank-over : (xs r : List ℕ) → blank (length xs) (xs ++ r) ≡ fill 255 (length xs) ++ r
unfolding blank fill
blank-over [] r = refl
blank-over (x ∷ xs) r = ap (λ (l : List ℕ). 255 ∷ l) (blank-over xs r)

-- a blank byte stays where the write has 255 or nothing
pub stays-255 : (ws b : List ℕ) (i : ℕ) → get_or ws i 255 ≡ 255 → byte b i ≡ 255 → byte (clear ws b) i ≡ 255
unfolding clear
stays-255 [] b i p q = q
stays-255 (w ∷ ws) [] i p q = q
stays-255 (w ∷ ws) (x ∷ b) zero p q = ap (λ (k : ℕ). bit_and x k) p ∙ ap (λ (k : ℕ). bit_and k 255) q
stays-255 (w ∷ ws) (x ∷ b) (suc i) p q = stays-255 ws b i p q

-- bytes past what is cleared or blanked stay
pub clear-past : (ws b : List ℕ) (i : ℕ) → length ws ≤ i → byte (clear ws b) i ≡ byte b i
unfolding clear
clear-past [] b i h = refl
clear-past (w ∷ ws) [] i h = refl
clear-past (w ∷ ws) (x ∷ b) zero h = absurd (not-suc-le-zero h)
clear-past (w ∷ ws) (x ∷ b) (suc i) h = clear-past ws b i (le_of_suc-le-suc h)

pub blank-past : (n : ℕ) (b : List ℕ) (i : ℕ) → n ≤ i → byte (blank n b) i ≡ byte b i
unfolding blank
blank-past zero b i h = refl
blank-past (suc n) [] i h = refl
blank-past (suc n) (x ∷ b) zero h = absurd (not-suc-le-zero h)
blank-past (suc n) (x ∷ b) (suc i) h = blank-past n b i (le_of_suc-le-suc h)

-- the first bytes of a write have 255 where the write has it
torn-255 : (ws : List ℕ) (j i : ℕ) → get_or ws i 255 ≡ 255 → get_or (take j ws) i 255 ≡ 255
torn-255 ws zero i e = refl
torn-255 [] (suc j) i e = refl
torn-255 (w ∷ ws) (suc j) zero e = e
torn-255 (w ∷ ws) (suc j) (suc i) e = torn-255 ws j i e

-- ---- an operation's first j bytes

pub length-done : (j : ℕ) (op : Op) (b : List ℕ) → length (done j op b) ≡ length b
unfolding done
length-done j (erase at) b =
    simp (length-append, length-blank) (sym (length-append (take at b) (drop at b)) ∙ ap length (take-append-drop at b))
length-done j (write at ws) b =
    simp (length-append, length-clear) (sym (length-append (take at b) (drop at b)) ∙ ap length (take-append-drop at b))

-- with no byte done nothing is changed
pub done-zero : (op : Op) (b : List ℕ) → done 0 op b ≡ b
unfolding done blank clear
done-zero (erase at) b = take-append-drop at b
done-zero (write at ws) b = take-append-drop at b

-- bytes before the operation's offset stay
take-kept : (at k : ℕ) (b x : List ℕ) → k ≤ at → at ≤ length b → take k (take at b ++ x) ≡ take k b
take-kept at k b x h l =
    take-append-le k (take at b) x (rw (length-take-le at b l) h)
    ∙ sym (take-append-le k (take at b) (drop at b) (rw (length-take-le at b l) h))
    ∙ ap (take k) (take-append-drop at b)

pub done-take : (j : ℕ) (op : Op) (k : ℕ) (b : List ℕ) → k ≤ offset op → offset op ≤ length b → take k (done j op b) ≡ take k b
unfolding done
done-take j (erase at) k b h l = take-kept at k b (blank (min j sector_size) (drop at b)) h l
done-take j (write at ws) k b h l = take-kept at k b (clear (take j ws) (drop at b)) h l

kept-before : (at i : ℕ) (b x : List ℕ) → i < at → at ≤ length b → byte (take at b ++ x) i ≡ byte b i
kept-before at i b x h l =
    get_or-append (take at b) x 0 i (rw (length-take-le at b l) h) ∙ get_or-take at b i 0 h

pub done-before : (j : ℕ) (op : Op) (i : ℕ) (b : List ℕ) → i < offset op → offset op ≤ length b → byte (done j op b) i ≡ byte b i
unfolding done
done-before j (erase at) i b h l = kept-before at i b (blank (min j sector_size) (drop at b)) h l
done-before j (write at ws) i b h l = kept-before at i b (clear (take j ws) (drop at b)) h l

-- a byte from an operation's offset on
from_place : (at i : ℕ) (b x : List ℕ) → at ≤ length b → byte (take at b ++ x) (at + i) ≡ byte x i
from_place at i b x l =
    ap (λ (n : ℕ). byte (take at b ++ x) (n + i)) (sym (length-take-le at b l)) ∙ get_or-append-add (take at b) x i 0

-- bytes that are not reached yet stay, those past the operation's end too
min-at-most : (j n i : ℕ) → (j ≤ i) ⊎ (n ≤ i) → min j n ≤ i
min-at-most j n i (inl h) = omega arith
min-at-most j n i (inr h) = omega arith

pub erase-past : (j at i : ℕ) (b : List ℕ) → at ≤ length b → (j ≤ i) ⊎ (sector_size ≤ i) → byte (done j (erase at) b) (at + i) ≡ byte b (at + i)
unfolding done
erase-past j at i b l o =
    from_place at i b (blank (min j sector_size) (drop at b)) l ∙ blank-past (min j sector_size) (drop at b) i (min-at-most j sector_size i o) ∙ get_or-drop at b i 0

pub write-past : (j at i : ℕ) (ws b : List ℕ) → at ≤ length b → (j ≤ i) ⊎ (length ws ≤ i) → byte (done j (write at ws) b) (at + i) ≡ byte b (at + i)
unfolding done
write-past j at i ws b l o =
    from_place at i b (clear (take j ws) (drop at b)) l ∙ clear-past (take j ws) (drop at b) i (rw (length-take j ws) (min-at-most j (length ws) i o)) ∙ get_or-drop at b i 0

-- a blank byte stays where the write has 255 or nothing, however many bytes are done
pub write-leaves-255 : (j at i : ℕ) (ws b : List ℕ) → at ≤ length b → get_or ws i 255 ≡ 255 → byte b (at + i) ≡ 255 → byte (done j (write at ws) b) (at + i) ≡ 255
unfolding done
write-leaves-255 j at i ws b l p q =
    from_place at i b (clear (take j ws) (drop at b)) l ∙ stays-255 (take j ws) (drop at b) i (torn-255 ws j i p) (get_or-drop at b i 0 ∙ q)

-- the erase of the header sector, in part: not begun, or byte 0 is 255
pub cut-first : (j : ℕ) (b : List ℕ) → 0 < length b → (done j (erase 0) b ≡ b) ⊎ (byte (done j (erase 0) b) 0 ≡ 255)
unfolding done blank
cut-first j [] h = absurd (not-suc-le-zero h)
cut-first zero (x ∷ b) h = inl refl
cut-first (suc j) (x ∷ b) h = inr (rw (suc-min-suc j 4095))

-- ---- the first part, the rest untouched

-- bytes blanked or cleared in part: the first m as the whole leaves them, then what was there
blank_part : (m n : ℕ) (b : List ℕ) → m ≤ n → n ≤ length b → blank m b ≡ take m (blank n b) ++ drop m b
unfolding blank
blank_part zero n b h l = refl
blank_part (suc m) zero b h l = absurd (not-suc-le-zero h)
blank_part (suc m) (suc n) [] h l = absurd (not-suc-le-zero l)
blank_part (suc m) (suc n) (x ∷ b) h l = ap (λ (r : List ℕ). 255 ∷ r) (blank_part m n b (le_of_suc-le-suc h) (le_of_suc-le-suc l))

clear-part : (m : ℕ) (ws b : List ℕ) → m ≤ length ws → length ws ≤ length b → clear (take m ws) b ≡ take m (clear ws b) ++ drop m b
unfolding clear
clear-part zero ws b h l = refl
clear-part (suc m) [] b h l = absurd (not-suc-le-zero h)
clear-part (suc m) (w ∷ ws) [] h l = absurd (not-suc-le-zero l)
clear-part (suc m) (w ∷ ws) (x ∷ b) h l = ap (λ (r : List ℕ). bit_and x w ∷ r) (clear-part m ws b (le_of_suc-le-suc h) (le_of_suc-le-suc l))

-- and what is blanked is 255
pub blank-is : (n : ℕ) (b : List ℕ) → n ≤ length b → blank n b ≡ fill 255 n ++ drop n b
unfolding blank fill
blank-is zero b h = refl
blank-is (suc n) [] h = absurd (not-suc-le-zero h)
blank-is (suc n) (x ∷ b) h = ap (λ (r : List ℕ). 255 ∷ r) (blank-is n b (le_of_suc-le-suc h))

-- the same from an offset on: w is what the whole operation leaves there, p what its first j bytes leave
part_at : (at j : ℕ) (b w p : List ℕ) → at ≤ length b → p ≡ take j w ++ drop j (drop at b) → take at b ++ p ≡ take (at + j) (take at b ++ w) ++ drop (at + j) b
part_at at j b w p l e =
    let k : length (take at b) ≡ at = length-take-le at b l in
    let q : take (at + j) (take at b ++ w) ≡ take at b ++ take j w = ap (λ (n : ℕ). take (n + j) (take at b ++ w)) (sym k) ∙ take-append-add (take at b) w j in
    rw (e, q, drop-drop j at b, append_assoc (take at b) (take j w) (drop (at + j) b))

part_of : (j : ℕ) (op : Op) (b : List ℕ) → offset op + size op ≤ length b → j ≤ size op → done j op b ≡ take (offset op + j) (done (size op) op b) ++ drop (offset op + j) b
unfolding done
part_of j (erase at) b f h =
    let l : sector_size ≤ length (drop at b) = omega (arith, length-drop at b) in
    let e : min j sector_size ≡ j = omega arith in
    part_at at j b (blank sector_size (drop at b)) (blank (min j sector_size) (drop at b)) (omega arith) (rw e (blank_part j sector_size (drop at b) h l))
part_of j (write at ws) b f h =
    let l : length ws ≤ length (drop at b) = omega (arith, length-drop at b) in
    rw (take-length ws) (part_at at j b (clear ws (drop at b)) (clear (take j ws) (drop at b)) (omega arith) (clear-part j ws (drop at b) h l))

-- ---- whole operations

-- past its size nothing more is done
pub done-whole : (j : ℕ) (op : Op) (b : List ℕ) → size op ≤ j → done j op b ≡ done (size op) op b
unfolding done
done-whole j (erase at) b h =
    let e : min j sector_size ≡ sector_size = omega arith in
    ap (λ (n : ℕ). take at b ++ blank n (drop at b)) e
done-whole j (write at ws) b h = ap (λ (l : List ℕ). take at b ++ clear l (drop at b)) (take_all j ws h ∙ sym (take-length ws))

-- an erase over what is there
pub erase-over : (p x r : List ℕ) (at : ℕ) → length p ≡ at → length x ≡ sector_size → done sector_size (erase at) (p ++ (x ++ r)) ≡ p ++ (fill 255 sector_size ++ r)
unfolding done
erase-over p x r at e f =
    rw (take_at p (x ++ r) at e, drop_at p (x ++ r) at e)
    (ap (λ (n : ℕ). p ++ blank n (x ++ r)) (sym f) ∙ ap (λ (l : List ℕ). p ++ l) (blank-over x r) ∙ ap (λ (n : ℕ). p ++ (fill 255 n ++ r)) f)

-- a write over blank bytes leaves its own bytes
pub write-over : (p ws r : List ℕ) (at : ℕ) → length p ≡ at → Bytes ws → done (length ws) (write at ws) (p ++ (fill 255 (length ws) ++ r)) ≡ p ++ (ws ++ r)
unfolding done
write-over p ws r at e h =
    rw (take_at p (fill 255 (length ws) ++ r) at e, drop_at p (fill 255 (length ws) ++ r) at e, take-length ws, clear-blank ws r h)

-- ---- a bank in a region

start_fits : (n : ℕ) → n ≤ 1 → n * bank_size + bank_size ≤ region_size
start_fits n h = omega arith

put-twice : (l b d : List ℕ) (i s : ℕ) → length (take i l) ≡ i → length b ≡ s
    → take i (take i l ++ (b ++ drop (i + s) l)) ++ (d ++ drop (i + s) (take i l ++ (b ++ drop (i + s) l))) ≡ take i l ++ (d ++ drop (i + s) l)
put-twice l b d i s e f =
    let z = drop (i + s) l in
    let k : length (take i l ++ b) ≡ i + s = length-append (take i l) b ∙ omega arith in
    let q : drop (i + s) (take i l ++ (b ++ z)) ≡ z = ap (drop (i + s)) (sym (append_assoc (take i l) b z)) ∙ drop_at (take i l ++ b) z (i + s) k in
    rw (take_at (take i l) (b ++ z) i e, q)

module _ (region : List ℕ) (n : ℕ) (e : length region ≡ region_size) (h : n ≤ 1) where
  length-start : length (take (n * bank_size) region) ≡ n * bank_size
  length-start = length-take-le (n * bank_size) region (omega (arith, start_fits n h))

  pub length-bank : length (bank_of region n) ≡ bank_size
  unfolding bank_of
  length-bank = length-take-le bank_size (drop (n * bank_size) region) (omega (arith, start_fits n h, length-drop (n * bank_size) region))

  -- a bank put back changes nothing
  pub with-same : with_bank region n (bank_of region n) ≡ region
  unfolding with_bank bank_of
  with-same =
      let y = drop (n * bank_size) region in
      ap (λ (l : List ℕ). take (n * bank_size) region ++ (take bank_size y ++ l)) (sym (drop-drop bank_size (n * bank_size) region))
      ∙ ap (λ (l : List ℕ). take (n * bank_size) region ++ l) (take-append-drop bank_size y)
      ∙ take-append-drop (n * bank_size) region

  module _ (b : List ℕ) (f : length b ≡ bank_size) where
    pub length-with : length (with_bank region n b) ≡ length region
    unfolding with_bank
    length-with =
        length-append (take (n * bank_size) region) (b ++ drop (n * bank_size + bank_size) region)
        ∙ omega (arith, length-start, start_fits n h, length-append b (drop (n * bank_size + bank_size) region), length-drop (n * bank_size + bank_size) region)

    pub bank-with : bank_of (with_bank region n b) n ≡ b
    unfolding with_bank bank_of
    bank-with =
        rw (drop_at (take (n * bank_size) region) (b ++ drop (n * bank_size + bank_size) region) (n * bank_size) length-start)
        (take_at b (drop (n * bank_size + bank_size) region) bank_size f)

    -- of a bank put twice the second counts
    pub with-with : (d : List ℕ) → with_bank (with_bank region n b) n d ≡ with_bank region n d
    unfolding with_bank
    with-with d = put-twice region b d (n * bank_size) bank_size length-start f

-- the region is its two banks
join : (l : List ℕ) (i j s : ℕ) → i ≡ 0 → j ≡ s → length l ≡ s + s → take s (drop i l) ++ take s (drop j l) ≡ l
join l i j s ei ej e =
    let k : length (drop s l) ≤ s = omega (arith, length-drop s l) in
    rw (ei, ej, take_all s (drop s l) k) (take-append-drop s l)

pub two-banks : (region : List ℕ) → length region ≡ region_size → bank_of region 0 ++ bank_of region 1 ≡ region
unfolding bank_of
two-banks region e = join region (0 * bank_size) (1 * bank_size) bank_size (omega arith) (omega arith) (omega arith)

-- the other bank stays: the s bytes before, or those after
part-before : (l b : List ℕ) (i s t u : ℕ) → i ≡ 0 → t ≡ s → s ≤ length l → take s (drop i (take t l ++ (b ++ drop u l))) ≡ take s (drop i l)
part-before l b i s t u ei et h = rw (ei, et) (take_at (take s l) (b ++ drop u l) s (length-take-le s l h))

part-after : (l b : List ℕ) (i s t u : ℕ) → t ≡ 0 → i ≡ s → u ≡ s → length b ≡ s → take s (drop i (take t l ++ (b ++ drop u l))) ≡ take s (drop i l)
part-after l b i s t u et ei eu h = rw (et, ei, eu) (ap (take s) (drop_at b (drop s l) s h))

other-of : (n m : ℕ) → n ≤ 1 → m ≤ 1 → (m ≡ n → ⊥) → ((n ≡ 0) × (m ≡ 1)) ⊎ ((n ≡ 1) × (m ≡ 0))
other-of zero zero h k ne = absurd (ne refl)
other-of zero (suc m) h k ne = inl (refl, omega arith)
other-of (suc n) zero h k ne = inr (omega arith, refl)
other-of (suc n) (suc m) h k ne = absurd (ne (omega arith))

other-by : (region : List ℕ) (n m : ℕ) (b : List ℕ) → length region ≡ region_size → length b ≡ bank_size → ((n ≡ 0) × (m ≡ 1)) ⊎ ((n ≡ 1) × (m ≡ 0)) → bank_of (with_bank region n b) m ≡ bank_of region m
unfolding with_bank bank_of
other-by region n m b e f (inl c) =
    part-after region b (m * bank_size) bank_size (n * bank_size) (n * bank_size + bank_size) (omega arith) (omega arith) (omega arith) f
other-by region n m b e f (inr c) =
    part-before region b (m * bank_size) bank_size (n * bank_size) (n * bank_size + bank_size) (omega arith) (omega arith) (omega arith)

pub other-with : (region : List ℕ) (n m : ℕ) (b : List ℕ) → length region ≡ region_size → length b ≡ bank_size → n ≤ 1 → m ≤ 1 → (m ≡ n → ⊥) → bank_of (with_bank region n b) m ≡ bank_of region m
other-with region n m b e f h k ne = other-by region n m b e f (other-of n m h k ne)

-- ---- operations on a bank of a region

module _ (region : List ℕ) (n : ℕ) (e : length region ≡ region_size) (h : n ≤ 1) (j : ℕ) (op : Op) where
  length_part : length (done j op (bank_of region n)) ≡ bank_size
  length_part = length-done j op (bank_of region n) ∙ length-bank region n e h

  pub length-torn : length (torn n j op region) ≡ region_size
  unfolding torn
  length-torn = length-with region n e h (done j op (bank_of region n)) length_part ∙ e

  pub bank-torn : bank_of (torn n j op region) n ≡ done j op (bank_of region n)
  unfolding torn
  bank-torn = bank-with region n e h (done j op (bank_of region n)) length_part

  pub other-torn : (m : ℕ) → m ≤ 1 → (m ≡ n → ⊥) → bank_of (torn n j op region) m ≡ bank_of region m
  unfolding torn
  other-torn m k ne = other-with region n m (done j op (bank_of region n)) e length_part h k ne

  -- if nothing is changed yet, the region is as it was
  pub torn-none : done j op (bank_of region n) ≡ bank_of region n → torn n j op region ≡ region
  unfolding torn
  torn-none f = ap (with_bank region n) f ∙ with-same region n e h

  -- with all its bytes done the operation is whole
  pub torn-whole : size op ≤ j → torn n j op region ≡ applied n op region
  unfolding torn applied
  torn-whole f = ap (with_bank region n) (done-whole j op (bank_of region n) f)

module _ (region : List ℕ) (n : ℕ) (e : length region ≡ region_size) (h : n ≤ 1) (op : Op) where
  pub length-applied : length (applied n op region) ≡ region_size
  unfolding applied
  length-applied = length-torn region n e h (size op) op

  pub bank-applied : bank_of (applied n op region) n ≡ done (size op) op (bank_of region n)
  unfolding applied
  bank-applied = bank-torn region n e h (size op) op

  pub other-applied : (m : ℕ) → m ≤ 1 → (m ≡ n → ⊥) → bank_of (applied n op region) m ≡ bank_of region m
  unfolding applied
  other-applied = other-torn region n e h (size op) op

  -- what fits is done
  pub after-fits : offset op + size op ≤ bank_size → after n op region ≡ applied n op region
  unfolding after
  after-fits k = rw (eq-eqb (length region) region_size e, le-leb n 1 h, le-leb (offset op + size op) bank_size k)

-- the first p bytes of a part as d has them and the rest as they were, between what is before and what is after the part
part-there : (l d : List ℕ) (i s p : ℕ) → length (take i l) ≡ i → length d ≡ s → s ≤ length (drop i l) → p ≤ s
    → take i l ++ ((take p d ++ drop p (take s (drop i l))) ++ drop (i + s) l) ≡ take (i + p) (take i l ++ (d ++ drop (i + s) l)) ++ drop (i + p) l
part-there l d i s p k f m h =
    let x = take i l in
    let y = drop i l in
    let z = drop (i + s) l in
    let t : take (i + p) (x ++ (d ++ z)) ≡ x ++ take p d =
    ap (λ (o : ℕ). take (o + p) (x ++ (d ++ z))) (sym k) ∙ take-append-add x (d ++ z) p ∙ ap (λ (q : List ℕ). x ++ q) (take-append-le p d z (omega arith)) in
    let r : drop (i + p) l ≡ drop p (take s y) ++ z =
    sym (drop-drop p i l)
    ∙ ap (drop p) (sym (take-append-drop s y))
    ∙ drop-append-le p (take s y) (drop s y) (omega (arith, length-take-le s y m))
    ∙ ap (λ (q : List ℕ). drop p (take s y) ++ q) (drop-drop s i l) in
    rw (t, r)
    (ap (λ (q : List ℕ). x ++ q) (append_assoc (take p d) (drop p (take s y)) z) ∙ sym (append_assoc x (take p d) (drop p (take s y) ++ z)))

part-with : (region d : List ℕ) (n p : ℕ) → length region ≡ region_size → n ≤ 1 → length d ≡ bank_size → p ≤ bank_size
    → with_bank region n (take p d ++ drop p (bank_of region n)) ≡ take (n * bank_size + p) (with_bank region n d) ++ drop (n * bank_size + p) region
unfolding with_bank bank_of
part-with region d n p e h f l =
    part-there region d (n * bank_size) bank_size p (length-start region n e h) f (omega (arith, start_fits n h, length-drop (n * bank_size) region)) l

pub first_part : FirstPart
unfolding applied torn
first_part n j op region h e f l =
    let b = bank_of region n in
    let k = length-bank region n e h in
    ap (with_bank region n) (part_of j op b (omega arith) l)
    ∙ part-with region (done (size op) op b) n (offset op + j) e h (length-done (size op) op b ∙ k) (omega arith)

-- the header sector's erase, cut: the bank's first bytes are 255
pub torn-first : (n j : ℕ) (region : List ℕ) → length region ≡ region_size → n ≤ 1 → j ≤ sector_size → torn n j (erase 0) region ≡ with_bank region n (fill 255 j ++ drop j (bank_of region n))
unfolding torn done
torn-first n j region e h l =
    let m : min j sector_size ≡ j = omega arith in
    ap (λ (k : ℕ). with_bank region n (blank k (bank_of region n))) m ∙ ap (with_bank region n) (blank-is j (bank_of region n) (omega (arith, length-bank region n e h)))

-- what doesn't fit changes nothing
pub after-not : (region : List ℕ) (n : ℕ) (op : Op) → fits region n op ≡ false → after n op region ≡ region
unfolding after
after-not region n op e = rw e

-- operations one after the other
pub performed-append : (n : ℕ) (xs ys : List Op) (region : List ℕ) → performed n (xs ++ ys) region ≡ performed n ys (performed n xs region)
unfolding performed
performed-append n [] ys region = refl
performed-append n (op ∷ xs) ys region = performed-append n xs ys (applied n op region)

pub length-performed : (n : ℕ) (ops : List Op) (region : List ℕ) → n ≤ 1 → length region ≡ region_size → length (performed n ops region) ≡ region_size
unfolding performed
length-performed n [] region h e = e
length-performed n (op ∷ ops) region h e = length-performed n ops (applied n op region) h (length-applied region n e h op)

pub other-performed : (n m : ℕ) (ops : List Op) (region : List ℕ) → n ≤ 1 → m ≤ 1 → (m ≡ n → ⊥) → length region ≡ region_size → bank_of (performed n ops region) m ≡ bank_of region m
unfolding performed
other-performed n m [] region h k ne e = refl
other-performed n m (op ∷ ops) region h k ne e =
    other-performed n m ops (applied n op region) h k ne (length-applied region n e h op) ∙ other-applied region n e h op m k ne

-- a bank after whole operations, one after the other
unfoldable pub done_all : List Op → List ℕ → List ℕ
done_all [] b = b
done_all (op ∷ ops) b = done_all ops (done (size op) op b)

pub length-done-all : (ops : List Op) (b : List ℕ) → length (done_all ops b) ≡ length b
unfolding done_all
length-done-all [] b = refl
length-done-all (op ∷ ops) b = length-done-all ops (done (size op) op b) ∙ length-done (size op) op b

once : (region : List ℕ) (n : ℕ) (op : Op) (d : List ℕ) → length region ≡ region_size → n ≤ 1 → length (done (size op) op (bank_of region n)) ≡ bank_size
    → with_bank (applied n op region) n d ≡ with_bank region n d
unfolding applied torn
once region n op d e h k = with-with region n e h (done (size op) op (bank_of region n)) k d

-- operations on bank n change that bank alone
pub performed-is : (n : ℕ) (ops : List Op) (region : List ℕ) → n ≤ 1 → length region ≡ region_size → performed n ops region ≡ with_bank region n (done_all ops (bank_of region n))
unfolding performed done_all
performed-is n [] region h e = sym (with-same region n e h)
performed-is n (op ∷ ops) region h e =
    let b = done (size op) op (bank_of region n) in
    let k : length b ≡ bank_size = length-done (size op) op (bank_of region n) ∙ length-bank region n e h in
    performed-is n ops (applied n op region) h (length-applied region n e h op)
    ∙ ap (λ (l : List ℕ). with_bank (applied n op region) n (done_all ops l)) (bank-applied region n e h op)
    ∙ once region n op (done_all ops b) e h k

pub bank-performed : (n : ℕ) (ops : List Op) (region : List ℕ) → n ≤ 1 → length region ≡ region_size → bank_of (performed n ops region) n ≡ done_all ops (bank_of region n)
bank-performed n ops region h e =
    let k : length (done_all ops (bank_of region n)) ≡ bank_size = length-done-all ops (bank_of region n) ∙ length-bank region n e h in
    ap (λ (l : List ℕ). bank_of l n) (performed-is n ops region h e) ∙ bank-with region n e h (done_all ops (bank_of region n)) k
