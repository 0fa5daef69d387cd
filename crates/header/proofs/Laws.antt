-- What the tests of a header give. Tests 3 to 6 case by case, as the definition nests them; and what a header has that passes them: at most
-- three sources, and all its records good.
use mathlib.Core.Path.{◌≡◌, refl, ap, ◌∙◌, sym}
use mathlib.Core.Bool.{Bool, true, false, ◌&&◌, false≢true}
use mathlib.Core.List.{List, [], ◌∷◌}
use Prim.Native.Nat.{ℕ, zero, suc, ◌+◌, ◌*◌, ◌-◌, ◌≤◌}
use native.Mathlib.Omega.{arith}
use native.Mathlib.Nat.{add-mul, one-mul}
use Rattle.std.specs.List.{list_all, range_with_len}
use lib.IntN.{ℤ, pos, negsuc}
use lib.Dec.{eqb, leb}
use lib.Signed.{le_z}
use borrow.Author.Tests.{eq-eqb, ne_eqb, eqb-true, eqb-false, leb-true}
use mir.Syntax.{w64}
use mir.Val.{SFits, of_z}
use Rattle.leaf.specs.Bytes.{word}
use Rattle.refusal.specs.declared.Refusal.{Refusal}
use Rattle.refusal.specs.declared.Refusal.TheVariants.{Mark, Seal, Span, Source as BadSource}
use Rattle.base.specs.Lists.{many, each}
use Rattle.base.proofs.Bools.{and_left, and_right}
use Rattle.header.specs.declared.Bank.{Bank}
use Rattle.header.specs.Header.{is_unknown, length_ok, key_ok, count_ok, span_ok, numbers_of, records_of, source_ok, judge, marked, sealed, header_of, max_sources}
use Rattle.region.specs.Region.{capacity}
use Rattle.std.specs.Prelude.{Ok, Err, Result}

-- the lowest value, by its bits

lowest_by : (n : ℕ) (t : Bool) → eqb n 9223372036854775807 ≡ t → eqb (18446744073709551616 - suc n) 9223372036854775808 ≡ t
lowest_by n true e = eq-eqb (18446744073709551616 - suc n) 9223372036854775808 (omega (arith, eqb-true n 9223372036854775807 e))
lowest_by n false e = ne_eqb (18446744073709551616 - suc n) 9223372036854775808 (λ (k : 18446744073709551616 - suc n ≡ 9223372036854775808). eqb-false n 9223372036854775807 e (omega arith))

pub unknown-bits : (t : ℤ) → SFits w64 t → eqb (of_z w64 t) 9223372036854775808 ≡ is_unknown t
unknown-bits (pos n) f = ne_eqb n 9223372036854775808 (λ e. omega (arith, f.sfits))
unknown-bits (negsuc n) f = lowest_by n (eqb n 9223372036854775807) refl

-- a test of each element is std's

pub each-all : {A : Type 0} (p : A → Bool) (xs : List A) → list_all p xs ≡ each p xs
unfolding each
each-all p [] = refl
each-all p (x ∷ xs) = ap (λ (t : Bool). p x && t) (each-all p xs)

-- and of each element read, by its index
pub each-read : {A : Type 0} (p : A → Bool) (f : List ℕ → ℕ → A) (step : ℕ) (l : List ℕ) (at k n : ℕ)
    → list_all (λ i. p (f l (at + i * step))) (range_with_len k n) ≡ each p (many f step l (at + k * step) n)
unfolding each many
each-read p f step l at k zero = refl
each-read p f step l at k (suc n) =
    let e : at + (k + 1) * step ≡ at + k * step + step = omega (arith, add-mul k 1 step, one-mul step) in
    ap (λ (t : Bool). p (f l (at + k * step)) && t) (each-read p f step l at (k + 1) n ∙ ap (λ (m : ℕ). each p (many f step l m n)) e)

-- what passes 5 has a count of at most three

pub span-length : (b : Bank) → span_ok b ≡ true → (1 ≤ b.length) × (b.length ≤ capacity)
unfolding span_ok
span-length b e =
    let l = and_left (length_ok b) (key_ok b && (count_ok b && le_z (pos 0) b.checked)) e in
    (leb-true 1 b.length (and_left (leb 1 b.length) (leb b.length capacity) l), leb-true b.length capacity (and_right (leb 1 b.length) (leb b.length capacity) l))

pub span_key : (b : Bank) → span_ok b ≡ true → b.key ≤ b.length
unfolding span_ok
span_key b e =
    let r = and_left (key_ok b) (count_ok b && le_z (pos 0) b.checked) (and_right (length_ok b) (key_ok b && (count_ok b && le_z (pos 0) b.checked)) e) in
    leb-true b.key b.length (and_right (leb 1 b.key) (leb b.key b.length) r)

pub span-count : (b : Bank) → span_ok b ≡ true → b.count ≤ max_sources
unfolding span_ok
span-count b e =
    let t = le_z (pos 0) b.checked in
    let r = and_right (key_ok b) (count_ok b && t) (and_right (length_ok b) (key_ok b && (count_ok b && t)) e) in
    leb-true b.count 3 (and_right (leb 1 b.count) (leb b.count 3) (and_left (count_ok b) t r))

-- tests 3 to 6, case by case
module _ (n : ℕ) (l : List ℕ) where
  pub not-marked : marked l ≡ false → Err Mark ≡ header_of n l
  unfolding header_of
  not-marked m = rw m

  pub not-sealed : marked l ≡ true → sealed l ≡ false → Err Seal ≡ header_of n l
  unfolding header_of
  not-sealed m s = rw (m, s)

  pub not-spanned : marked l ≡ true → sealed l ≡ true → span_ok (numbers_of n l) ≡ false → Err Span ≡ header_of n l
  unfolding header_of judge
  not-spanned m s e = rw (m, s, e)

  pub bad-source : marked l ≡ true → sealed l ≡ true → span_ok (numbers_of n l) ≡ true → each (source_ok (numbers_of n l)) (records_of (word l 4) l (word l 20)) ≡ false
      → Err BadSource ≡ header_of n l
  unfolding header_of judge
  bad-source m s e f = rw (m, s, e, f)

  pub all-good : marked l ≡ true → sealed l ≡ true → span_ok (numbers_of n l) ≡ true → each (source_ok (numbers_of n l)) (records_of (word l 4) l (word l 20)) ≡ true
      → Ok (numbers_of n l) ≡ header_of n l
  unfolding header_of judge
  all-good m s e f = rw (m, s, e, f)

-- what passes 3 to 6: the numbers are the header's, and both tests of `judge` hold
abbrev is_good : Result Bank Refusal → Bool
is_good (Ok b) = true
is_good (Err r) = false

abbrev bank_in : Bank → Result Bank Refusal → Bank
bank_in d (Ok b) = b
bank_in d (Err r) = d

pub no-refusal : {A : Type 0} (r : Refusal) (b : Bank) → Err r ≡ Ok b → A
no-refusal r b e = absurd (false≢true (ap is_good e))

pub record Passed (n : ℕ) (l : List ℕ) (b : Bank) : Type 0 where
  pub numbers : b ≡ numbers_of n l
  pub span : span_ok b ≡ true
  pub sources : each (source_ok b) (records_of b.version l b.count) ≡ true

module _ (n : ℕ) (l : List ℕ) (b : Bank) where
  passed-by : (m s p q : Bool) → marked l ≡ m → sealed l ≡ s → span_ok (numbers_of n l) ≡ p → each (source_ok (numbers_of n l)) (records_of (word l 4) l (word l 20)) ≡ q
      → header_of n l ≡ Ok b → Passed n l b
  unfolding numbers_of
  passed-by false s p q em es ep eq e = no-refusal Mark b (not-marked n l em ∙ e)
  passed-by true false p q em es ep eq e = no-refusal Seal b (not-sealed n l em es ∙ e)
  passed-by true true false q em es ep eq e = no-refusal Span b (not-spanned n l em es ep ∙ e)
  passed-by true true true false em es ep eq e = no-refusal BadSource b (bad-source n l em es ep eq ∙ e)
  passed-by true true true true em es ep eq e =
      let k : numbers_of n l ≡ b = ap (bank_in b) (all-good n l em es ep eq ∙ e) in
      record {
        numbers = sym k;
        span = ap span_ok (sym k) ∙ ep;
        sources = ap (λ (x : Bank). each (source_ok x) (records_of x.version l x.count)) (sym k) ∙ eq;
      }

  pub passed : header_of n l ≡ Ok b → Passed n l b
  passed e = passed-by (marked l) (sealed l) (span_ok (numbers_of n l)) (each (source_ok (numbers_of n l)) (records_of (word l 4) l (word l 20))) refl refl refl refl e
