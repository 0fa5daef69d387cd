-- What the functions return, stated over plain variables; each function's proof applies one of these to its own values.
use Rattle.std.proofs.Common.{◌≡◌, ℕ, zero, suc, ◌+◌, ◌-◌, ◌*◌, ◌<◌, ◌≤◌, Bool, true, false, ◌&&◌, eqb, leb, List, [], ◌∷◌, get_or, drop, sym, refl, ap, ◌∙◌, add-zero, arith, get_or-set_other, eqb-true, le-leb, leb-false, leb-true, Some, None}
use mathlib.Core.Bool.{and-true, and-false, and_assoc}
use borrow.Author.Tests.{eqb-false, lt-leb}
use lib.Dec.{leb-suc-zero}
use lib.ListN.{get_or-eq_default}
use Rattle.base.specs.Number.{signed}
use Rattle.leaf.specs.Bytes.{word, time}
use Rattle.base.specs.Lists.{byte}
use Rattle.leaf.specs.Date.{leap, month_days, is_date, new_date, date_number}
use Rattle.leaf.specs.declared.date.Date.{Date}
use Rattle.leaf.proofs.Laws.{word-drop}
use Rattle.base.proofs.Bools.{and_left, and_right}

-- get
pub word_of : (l : List ℕ) (at a b c d : ℕ) → a ≡ byte (drop at l) 0 → b ≡ byte (drop at l) 1 → c ≡ byte (drop at l) 2 → d ≡ byte (drop at l) 3
    → a + b * 256 + c * 65536 + d * 16777216 ≡ word l at
unfolding word
word_of l at a b c d p q r s = rw (p, q, r, s) (word-drop l at 0 ∙ ap (word l) (add-zero at))

-- get_time
pub time-of : (l : List ℕ) (at x y : ℕ) → x ≡ word (drop at l) 0 → y ≡ word (drop at l) 4 → signed 64 (x + y * 4294967296) ≡ time l at
unfolding time
time-of l at x y p q =
    let e : x + y * 4294967296 ≡ word l at + word l (at + 4) * 4294967296 = rw (p, q, word-drop l at 0, word-drop l at 4, add-zero at) in
    ap (λ (n : ℕ). signed 64 n) e

-- month_days
pub no_month : (y m : ℕ) → 12 < m → 0 ≡ get_or (0 ∷ month_days y) m 0
unfolding month_days
no_month y m h = sym (get_or-eq_default (0 ∷ month_days y) 0 h)

pub leap-day : (y m : ℕ) (r : Bool) → r ≡ leap y → (eqb m 2 && r) ≡ true → 29 ≡ get_or (0 ∷ month_days y) m 0
unfolding month_days
leap-day y m r e t = rw (eqb-true m 2 (and_left (eqb m 2) r t), ← e, and_right (eqb m 2) r t)

abbrev pub common : List ℕ
common = 0 ∷ 31 ∷ 28 ∷ 31 ∷ 30 ∷ 31 ∷ 30 ∷ 31 ∷ 31 ∷ 30 ∷ 31 ∷ 30 ∷ 31 ∷ []

pub common-day : (y m : ℕ) (r : Bool) → r ≡ leap y → (eqb m 2 && r) ≡ false → get_or common m 0 ≡ get_or (0 ∷ month_days y) m 0
unfolding month_days
common-day y m false e t = rw (← e)
common-day y m true e t =
    rw (← e) (sym (get_or-set_other common 2 m 29 0 (eqb-false m 2 (sym (and-true (eqb m 2)) ∙ t))))

-- Date::new
none : (d : ℕ) → (leb 1 d && leb d 0) ≡ false
none zero = refl
none (suc d) = rw (leb-suc-zero d) (and-false (leb 1 (suc d)))

-- no day is in a month without days
no-day : (a : Bool) (d x : ℕ) → x ≡ 0 → ((a && leb 1 d) && leb d x) ≡ false
no-day true d x e = rw e (none d)
no-day false d x e = refl

counted : (l : List ℕ) (m : ℕ) → 1 ≤ m → get_or (0 ∷ l) m 0 ≡ get_or l (m - 1) 0
counted l zero h = absurd (omega arith)
counted l (suc k) h = let e : suc k - 1 ≡ k = omega arith in rw e

outside : (y m : ℕ) → (leb 1 m && leb m 12) ≡ false → get_or (0 ∷ month_days y) m 0 ≡ 0
outside y zero e = refl
outside y (suc k) e =
    let t : leb 1 (suc k) ≡ true = le-leb 1 (suc k) (omega arith) in
    sym (no_month y (suc k) (leb-false (suc k) 12 (rw t at e)))

test_by : (a : Bool) (y m d : ℕ) (t : Bool) → (leb 1 m && leb m 12) ≡ t
    → ((a && leb 1 d) && leb d (get_or (0 ∷ month_days y) m 0)) ≡ (a && ((leb 1 m && leb m 12) && (leb 1 d && leb d (get_or (month_days y) (m - 1) 0))))
test_by a y m d true e =
    let h : 1 ≤ m = leb-true 1 m (and_left (leb 1 m) (leb m 12) e) in
    rw (e, counted (month_days y) m h) (and_assoc a (leb 1 d) (leb d (get_or (month_days y) (m - 1) 0)))
test_by a y m d false e = rw e (no-day a d (get_or (0 ∷ month_days y) m 0) (outside y m e) ∙ sym (and-false a))

pub date-test : (y m d : ℕ) → (((leb 1 y && leb y 9999) && leb 1 d) && leb d (get_or (0 ∷ month_days y) m 0)) ≡ is_date y m d
unfolding is_date
date-test y m d = test_by (leb 1 y && leb y 9999) y m d (leb 1 m && leb m 12) refl

pub made : (y m d : ℕ) → is_date y m d ≡ true → Some (record { 0 = date_number y m d }) ≡ new_date y m d
unfolding new_date
made y m d e = rw e

pub not_made : (y m d : ℕ) → is_date y m d ≡ false → None ≡ new_date y m d
unfolding new_date
not_made y m d e = rw e

-- valid_date
pub late : (y m d : ℕ) → 9999 < y → false ≡ is_date y m d
unfolding is_date
late y m d h = rw (lt-leb y 9999 h, and-false (leb 1 y))

made_by : (y m d : ℕ) (t : Bool) → is_date y m d ≡ t → (x : Date) → new_date y m d ≡ Some x → true ≡ is_date y m d
made_by y m d true e x p = sym e
made_by y m d false e x p = let q : None ≡ new_date y m d = not_made y m d e in cc

pub made-is : (y m d : ℕ) (x : Date) → new_date y m d ≡ Some x → true ≡ is_date y m d
made-is y m d x p = made_by y m d (is_date y m d) refl x p

invalid-by : (y m d : ℕ) (t : Bool) → is_date y m d ≡ t → new_date y m d ≡ None → false ≡ is_date y m d
invalid-by y m d true e p = let q : Some (record { 0 = date_number y m d }) ≡ new_date y m d = made y m d e in cc
invalid-by y m d false e p = sym e

pub invalid-is : (y m d : ℕ) → new_date y m d ≡ None → false ≡ is_date y m d
invalid-is y m d p = invalid-by y m d (is_date y m d) refl p
