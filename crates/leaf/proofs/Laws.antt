-- What other crates may use of bytes, generations and dates without unfolding the definitions: sizes; what is written reads back and other
-- offsets stay; the next generation is newer, and of two at most one is newer; which numbers are dates.
use Rattle.std.proofs.Common.{◌≡◌, ℕ, zero, suc, ◌+◌, ◌-◌, ◌*◌, ◌/◌, ◌%◌, ◌^◌, ◌<◌, ◌≤◌, Bool, true, false, ◌&&◌, ltb, leb, ◌⊎◌, List, [], ◌∷◌, ◌++◌, length, get_or, take, drop, set, ℤ, sym, refl, ap, ◌∙◌, inl, inr, ⊎_elim, append_assoc, zero-le, add-zero, add_assoc, arith, lit<, length-append, length-take-le, get_or-drop, get_or-set_other, get_or-append-add, w64, SFits, to_z, ltb-true, le-ltb, le-leb, leb-true}
use mathlib.Core.Bool.{and-false}
use lib.Arith.{mod-mul}
use lib.Seq.{sets, sets-eq, length-sets}
use mir.ValLaws.{to_z-of_z, to_z-Fits, of_z_fits}
use Rattle.base.specs.Number.{unsigned, wrapping_sub32}
use Rattle.leaf.specs.Bytes.{word, time, le32, le64, written}
use Rattle.base.specs.Lists.{byte}
use Rattle.leaf.specs.Generation.{newer, next}
use Rattle.leaf.specs.Date.{leap, month_days, is_date, date_number, valid_date, SomeDate}
use Rattle.leaf.proofs.Numbers.{signed_is, bits_is, positive}
use Rattle.base.proofs.Bools.{and_left, and_right}

-- bytes at an offset

pub length-le32 : (n : ℕ) → length (le32 n) ≡ 4
unfolding le32
length-le32 n = refl

pub length-le64 : (z : ℤ) → length (le64 z) ≡ 8
unfolding le64 le32
length-le64 z = refl

module _ (l : List ℕ) (at : ℕ) (v : List ℕ) where
  -- bytes that fit are stored one after the other
  pub written-sets : at + length v ≤ length l → written l at v ≡ sets l at v
  unfolding written
  written-sets h = rw (le-leb (at + length v) (length l) h) (sym (sets-eq v l at h))

  pub written-not : leb (at + length v) (length l) ≡ false → written l at v ≡ l
  unfolding written
  written-not e = rw e

  length-by : (t : Bool) → leb (at + length v) (length l) ≡ t → length (written l at v) ≡ length l
  length-by true e = rw (written-sets (leb-true (at + length v) (length l) e)) (length-sets l at v)
  length-by false e = rw (written-not e)

  pub length-written : length (written l at v) ≡ length l
  length-written = length-by (leb (at + length v) (length l)) refl

sets-other : (l : List ℕ) (at : ℕ) (v : List ℕ) (k : ℕ) → (k < at) ⊎ (at + length v ≤ k) → byte (sets l at v) k ≡ byte l k
sets-other l at [] k o = refl
sets-other l at (x ∷ v) k o =
    let p : (k < suc at) ⊎ (suc at + length v ≤ k) = ⊎_elim (λ h. inl (omega arith)) (λ h. inr (omega arith)) o in
    let ne : k ≡ at → ⊥ = λ e. ⊎_elim (λ h. omega arith) (λ h. omega arith) o in
    sets-other (set l at x) (suc at) v k p ∙ get_or-set_other l at k x 0 ne

other-by : (l : List ℕ) (at : ℕ) (v : List ℕ) (k : ℕ) → (k < at) ⊎ (at + length v ≤ k) → (t : Bool) → leb (at + length v) (length l) ≡ t → byte (written l at v) k ≡ byte l k
other-by l at v k o true e = rw (written-sets l at v (leb-true (at + length v) (length l) e)) (sets-other l at v k o)
other-by l at v k o false e = rw (written-not l at v e)

-- a byte before the offset or past the end of what is written stays
pub written-other : (l : List ℕ) (at : ℕ) (v : List ℕ) (k : ℕ) → (k < at) ⊎ (at + length v ≤ k) → byte (written l at v) k ≡ byte l k
written-other l at v k o = other-by l at v k o (leb (at + length v) (length l)) refl

sets-sets : (l a b : List ℕ) (i : ℕ) → sets (sets l i a) (i + length a) b ≡ sets l i (a ++ b)
sets-sets l [] b i = rw (add-zero i)
sets-sets l (x ∷ a) b i =
    let e : i + suc (length a) ≡ suc i + length a = omega arith in
    rw e (sets-sets (set l i x) a b (suc i))

-- bytes written right after others are the two together
pub written_next : (l a b : List ℕ) (at k : ℕ) → length a ≡ k → at + (k + length b) ≤ length l → written (written l at a) (at + k) b ≡ written l at (a ++ b)
written_next l a b at k e h =
    let n : length (a ++ b) ≡ k + length b = length-append a b ∙ omega arith in
    let p : at + length a ≤ length l = omega arith in
    let q : at + k + length b ≤ length (sets l at a) = rw (length-sets l at a) (omega arith) in
    let r : at + length (a ++ b) ≤ length l = omega arith in
    rw (written-sets l at a p, written-sets (sets l at a) (at + k) b q, written-sets l at (a ++ b) r, ← e) (sets-sets l a b at)

-- a reader that looks only at bytes from its offset on
abbrev pub Shifts : {A : Type 0} → (List ℕ → ℕ → A) → Type 0
Shifts f = (p q : List ℕ) (k : ℕ) → f (p ++ q) (length p + k) ≡ f q k

pub word-shifts : Shifts word
unfolding word
word-shifts p q k =
    rw (
      add_assoc (length p) k 1,
      add_assoc (length p) k 2,
      add_assoc (length p) k 3,
      get_or-append-add p q k 0,
      get_or-append-add p q (k + 1) 0,
      get_or-append-add p q (k + 2) 0,
      get_or-append-add p q (k + 3) 0,
    )

pub time-shifts : Shifts time
unfolding time
time-shifts p q k = rw (add_assoc (length p) k 4, word-shifts p q k, word-shifts p q (k + 4))

pub word-drop : (l : List ℕ) (at k : ℕ) → word (drop at l) k ≡ word l (at + k)
unfolding word
word-drop l at k = rw (
  get_or-drop at l k 0,
  get_or-drop at l (k + 1) 0,
  get_or-drop at l (k + 2) 0,
  get_or-drop at l (k + 3) 0,
  add_assoc at k 1,
  add_assoc at k 2,
  add_assoc at k 3,
)

-- what was written is read at its offset
pub read-written : {A : Type 0} (f : List ℕ → ℕ → A) → Shifts f → (l : List ℕ) (at : ℕ) (v : List ℕ) → at + length v ≤ length l
    → f (written l at v) at ≡ f (v ++ drop (at + length v) l) 0
read-written f s l at v h =
    let n : length (take at l) ≡ at = length-take-le at l (omega arith) in
    let e : written l at v ≡ take at l ++ (v ++ drop (at + length v) l) = written-sets l at v h ∙ sets-eq v l at h ∙ append_assoc (take at l) v (drop (at + length v) l) in
    let r = s (take at l) (v ++ drop (at + length v) l) 0 in
    rw e (rw (add-zero (length (take at l)), n) at r)

digits : (n : ℕ) → n % 256 + n / 256 % 256 * 256 + n / 65536 % 256 * 65536 + n / 16777216 % 256 * 16777216 ≡ n % 4294967296
digits n =
    let one : (c : ℕ) → 0 < c → n % (256 * c) ≡ n / c % 256 * c + n % c = λ c h. mod-mul n {m = 256} {c = c} (lit< tt) h in
    omega (arith, one 256 (lit< tt), one 65536 (lit< tt), one 16777216 (lit< tt))

pub word-front : (n : ℕ) (q : List ℕ) → n < 2 ^ 32 → word (le32 n ++ q) 0 ≡ n
unfolding word le32
word-front n q h = digits n ∙ omega arith

halves : (n : ℕ) → n < 2 ^ 64 → n % 2 ^ 32 + n / 2 ^ 32 * 2 ^ 32 ≡ n
halves n h = omega arith

pub time-front : (z : ℤ) (q : List ℕ) → SFits w64 z → time (le64 z ++ q) 0 ≡ z
unfolding time le64
time-front z q f =
    let b : unsigned 64 z < 2 ^ 64 = rw (bits_is z) at (of_z_fits w64 z f).fits in
    let lo = le32 (unsigned 64 z % 2 ^ 32) in
    let hi = le32 (unsigned 64 z / 2 ^ 32) in
    let e : word ((lo ++ hi) ++ q) 0 ≡ unsigned 64 z % 2 ^ 32 = rw (append_assoc lo hi q) (word-front (unsigned 64 z % 2 ^ 32) (hi ++ q) (omega arith)) in
    let s : word ((lo ++ hi) ++ q) 4 ≡ unsigned 64 z / 2 ^ 32 = rw (append_assoc lo hi q) (rw (length-le32 (unsigned 64 z % 2 ^ 32)) at (word-shifts lo (hi ++ q) 0) ∙ word-front (unsigned 64 z / 2 ^ 32) q (omega arith)) in
    rw (e, s, halves (unsigned 64 z) b) (sym (signed_is (unsigned 64 z)) ∙ ap (to_z w64) (sym (bits_is z)) ∙ to_z-of_z w64 z f)

-- a number that was written reads back
pub word-back : (l : List ℕ) (at n : ℕ) → n < 2 ^ 32 → at + 4 ≤ length l → word (written l at (le32 n)) at ≡ n
word-back l at n b h =
    let k : at + length (le32 n) ≤ length l = rw (length-le32 n) h in
    read-written word word-shifts l at (le32 n) k ∙ word-front n (drop (at + length (le32 n)) l) b

pub time-back : (l : List ℕ) (at : ℕ) (z : ℤ) → SFits w64 z → at + 8 ≤ length l → time (written l at (le64 z)) at ≡ z
time-back l at z f h =
    let k : at + length (le64 z) ≤ length l = rw (length-le64 z) h in
    read-written time time-shifts l at (le64 z) k ∙ time-front z (drop (at + length (le64 z)) l) f

pub word_lt : (l : List ℕ) (at : ℕ) → ((k : ℕ) → byte l k < 256) → word l at < 2 ^ 32
unfolding word
word_lt l at h = omega (arith, h at, h (at + 1), h (at + 2), h (at + 3))

-- what is read from bytes can be written
pub time-fits : (l : List ℕ) (at : ℕ) → ((k : ℕ) → byte l k < 256) → SFits w64 (time l at)
unfolding time
time-fits l at h =
    let n = word l at + word l (at + 4) * 2 ^ 32 in
    rw (← signed_is n) (to_z-Fits w64 n (record { fits = omega (arith, word_lt l at h, word_lt l (at + 4) h) }))

-- what is read at another offset stays
module _ (l : List ℕ) (at : ℕ) (v : List ℕ) (k : ℕ) where
  outside : (j : ℕ) → k ≤ j → j < k + 4 → (k + 4 ≤ at) ⊎ (at + length v ≤ k) → byte (written l at v) j ≡ byte l j
  outside j from to o = written-other l at v j (⊎_elim (λ p. inl (omega arith)) (λ p. inr (omega arith)) o)

  pub word-other : (k + 4 ≤ at) ⊎ (at + length v ≤ k) → word (written l at v) k ≡ word l k
  unfolding word
  word-other o =
      rw (
        outside k (omega arith) (omega arith) o,
        outside (k + 1) (omega arith) (omega arith) o,
        outside (k + 2) (omega arith) (omega arith) o,
        outside (k + 3) (omega arith) (omega arith) o,
      )

pub time-other : (l : List ℕ) (at : ℕ) (v : List ℕ) (k : ℕ) → (k + 8 ≤ at) ⊎ (at + length v ≤ k) → time (written l at v) k ≡ time l k
unfolding time
time-other l at v k o =
    let e : word (written l at v) k ≡ word l k = word-other l at v k (⊎_elim (λ p. inl (omega arith)) (λ p. inr (omega arith)) o) in
    let f : word (written l at v) (k + 4) ≡ word l (k + 4) = word-other l at v (k + 4) (⊎_elim (λ p. inl (omega arith)) (λ p. inr (omega arith)) o) in
    rw (e, f)

-- generations

newer-is : (a b : ℕ) → newer a b ≡ (ltb 0 (wrapping_sub32 a b) && ltb (wrapping_sub32 a b) 2147483648)
unfolding newer
newer-is a b = sym (positive (wrapping_sub32 a b))

pub newer-next : (g : ℕ) → g < 2 ^ 32 → newer (next g) g ≡ true
unfolding next
newer-next g h =
    let e : wrapping_sub32 ((g + 1) % 2 ^ 32) g ≡ 1 = omega arith in
    newer-is ((g + 1) % 2 ^ 32) g ∙ rw e

pub newer-irrefl : (g : ℕ) → newer g g ≡ false
newer-irrefl g =
    let e : wrapping_sub32 g g ≡ 0 = omega arith in
    newer-is g g ∙ rw e

pub newer-asym : (a b : ℕ) → a < 2 ^ 32 → b < 2 ^ 32 → newer a b ≡ true → newer b a ≡ false
newer-asym a b ha hb e =
    let t : (ltb 0 (wrapping_sub32 a b) && ltb (wrapping_sub32 a b) 2147483648) ≡ true = sym (newer-is a b) ∙ e in
    let u : 0 < wrapping_sub32 a b = ltb-true 0 (wrapping_sub32 a b) (and_left (ltb 0 (wrapping_sub32 a b)) (ltb (wrapping_sub32 a b) 2147483648) t) in
    let v : wrapping_sub32 a b < 2147483648 = ltb-true (wrapping_sub32 a b) 2147483648 (and_right (ltb 0 (wrapping_sub32 a b)) (ltb (wrapping_sub32 a b) 2147483648) t) in
    let far : 2147483648 ≤ wrapping_sub32 b a = omega arith in
    newer-is b a ∙ rw (le-ltb (wrapping_sub32 b a) 2147483648 far) (and-false (ltb 0 (wrapping_sub32 b a)))

-- dates

-- every number of a list is at most b
unfoldable pub at_most : ℕ → List ℕ → Bool
at_most b [] = true
at_most b (x ∷ l) = leb x b && at_most b l

at-most : (b : ℕ) (l : List ℕ) (k : ℕ) → at_most b l ≡ true → get_or l k 0 ≤ b
unfolding at_most
at-most b [] zero e = zero-le
at-most b [] (suc k) e = zero-le
at-most b (x ∷ l) zero e = leb-true x b (and_left (leb x b) (at_most b l) e)
at-most b (x ∷ l) (suc k) e = at-most b l k (and_right (leb x b) (at_most b l) e)

days-by : (y : ℕ) (t : Bool) → leap y ≡ t → at_most 31 (month_days y) ≡ true
unfolding month_days at_most
days-by y true e = rw e
days-by y false e = rw e

-- what is_date tests
pub record Ranges (y m d : ℕ) : Type 0 where
  pub year : (1 ≤ y) × (y ≤ 9999)
  pub month : (1 ≤ m) × (m ≤ 12)
  pub day : (1 ≤ d) × (d ≤ 31)

pub ranges : (y m d : ℕ) → is_date y m d ≡ true → Ranges y m d
unfolding is_date
ranges y m d e =
    let n = get_or (month_days y) (m - 1) 0 in
    let ys = and_left (leb 1 y && leb y 9999) ((leb 1 m && leb m 12) && (leb 1 d && leb d n)) e in
    let r = and_right (leb 1 y && leb y 9999) ((leb 1 m && leb m 12) && (leb 1 d && leb d n)) e in
    let ms = and_left (leb 1 m && leb m 12) (leb 1 d && leb d n) r in
    let ds = and_right (leb 1 m && leb m 12) (leb 1 d && leb d n) r in
    let le : d ≤ n = leb-true d n (and_right (leb 1 d) (leb d n) ds) in
    let top : n ≤ 31 = at-most 31 (month_days y) (m - 1) (days-by y (leap y) refl) in
    record {
      year = (leb-true 1 y (and_left (leb 1 y) (leb y 9999) ys), leb-true y 9999 (and_right (leb 1 y) (leb y 9999) ys));
      month = (leb-true 1 m (and_left (leb 1 m) (leb m 12) ms), leb-true m 12 (and_right (leb 1 m) (leb m 12) ms));
      day = (leb-true 1 d (and_left (leb 1 d) (leb d n) ds), omega arith);
    }

-- a number is valid exactly if it is some date's
pub date-of : (y m d : ℕ) → is_date y m d ≡ true → valid_date (date_number y m d) ≡ true
unfolding valid_date
date-of y m d e =
    let r = ranges y m d e in
    let ey : (y * 10000 + m * 100 + d) / 10000 ≡ y = omega arith in
    let em : (y * 10000 + m * 100 + d) / 100 % 100 ≡ m = omega arith in
    let ed : (y * 10000 + m * 100 + d) % 100 ≡ d = omega arith in
    rw (ey, em, ed) e

pub date-parts : (n : ℕ) → valid_date n ≡ true → SomeDate n
unfolding valid_date
date-parts n e = record { year = n / 10000; month = n / 100 % 100; day = n % 100; date = e; number = omega arith }
