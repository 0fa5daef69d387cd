-- Laws of load: only a bank's own bytes decide what validate says of it; a bank that fails leaves the answer to the other; a bank that
-- passes and is newer, or is beside one that fails, is the answer.
use mathlib.Core.Path.{◌≡◌, refl, sym, ap, ◌∙◌, subst}
use mathlib.Core.Bool.{Bool, true, false, false≢true}
use mathlib.Core.List.{List}
use mathlib.Core.Logic.{◌⊎◌, inl, inr}
use Prim.Native.Nat.{ℕ, zero, suc, ◌-◌, ◌^◌, ◌≤◌, ◌<◌}
use native.Mathlib.Omega.{arith}
use borrow.Author.Tests.{eq-eqb, le-leb}
use lib.Dec.{eqb}
use lib.ListN.{length}
use Rattle.base.specs.Number.{pick}
use Rattle.leaf.specs.Bytes.{word}
use Rattle.leaf.specs.Crc.{crc32}
use Rattle.leaf.specs.Generation.{newer, next}
use Rattle.leaf.proofs.Laws.{newer-next, newer-asym}
use Rattle.refusal.specs.declared.Refusal.{Refusal}
use Rattle.refusal.specs.declared.Refusal.TheVariants.{Mark, Data}
use Rattle.header.specs.declared.Bank.{Bank}
use Rattle.region.specs.Region.{region_size, bank_of, data_of}
use Rattle.header.specs.Header.{header_of, marked, numbers_of}
use Rattle.header.proofs.Laws.{passed, no-refusal, not-marked}
use Rattle.bank.specs.Bank.{data_ok, then_data, validated, generation, first_tried, or_else, loaded}
use Rattle.bank.proofs.Laws.{named-is}
use Rattle.writer.specs.State.{target, active_ok}
use Rattle.std.specs.Prelude.{Ok, Err, Some, None, Result, Option}

-- ---- a bank's bytes decide what validate says of it

pub good-number : (m : ℕ) (l : List ℕ) (b : Bank) → header_of m l ≡ Ok b → b.number ≡ m
unfolding numbers_of
good-number m l b e = ap (λ (x : Bank). x.number) (passed m l b e).numbers

pub good-generation : (m : ℕ) (l : List ℕ) (b : Bank) → header_of m l ≡ Ok b → b.generation ≡ word l 8
unfolding numbers_of
good-generation m l b e = ap (λ (x : Bank). x.generation) (passed m l b e).numbers

pub valid-is : (region : List ℕ) (m : ℕ) → length region ≡ region_size → m ≤ 1 → validated region m ≡ then_data region (header_of m (bank_of region m))
unfolding validated
valid-is region m e h = ap (then_data region) (sym (named-is region m (eq-eqb (length region) region_size e) (le-leb m 1 h)))

then_same : (region region' : List ℕ) (m : ℕ) → bank_of region' m ≡ bank_of region m → (v : Result Bank Refusal) → header_of m (bank_of region m) ≡ v → then_data region' v ≡ then_data region v
unfolding data_ok
then_same region region' m e (Ok b) h =
    let f : bank_of region' b.number ≡ bank_of region b.number = subst (λ (k : ℕ). bank_of region' k ≡ bank_of region k) (sym (good-number m (bank_of region m) b h)) e in
    ap (λ (l : List ℕ). pick (eqb (crc32 0 (data_of l b.length)) b.crc) (Ok b) (Err Data)) f
then_same region region' m e (Err r) h = refl

pub valid_same : (region region' : List ℕ) (m : ℕ) → length region ≡ region_size → length region' ≡ region_size → m ≤ 1 → bank_of region' m ≡ bank_of region m → validated region' m ≡ validated region m
valid_same region region' m e f h g =
    valid-is region' m f h
    ∙ ap (λ (l : List ℕ). then_data region' (header_of m l)) g
    ∙ then_same region region' m g (header_of m (bank_of region m)) refl
    ∙ sym (valid-is region m e h)

-- a bank that isn't marked meets 3
pub unmarked-refused : (region : List ℕ) (m : ℕ) → length region ≡ region_size → m ≤ 1 → marked (bank_of region m) ≡ false → validated region m ≡ Err Mark
unmarked-refused region m e h f = valid-is region m e h ∙ ap (then_data region) (sym (not-marked m (bank_of region m) f))

-- what passes: its header is good and so are its data
then-good : (region : List ℕ) (b c : Bank) (t : Bool) → ◌≡◌ {A = Result Bank Refusal} (pick t (Ok c) (Err Data)) (Ok b) → ◌≡◌ {A = Result Bank Refusal} (Ok c) (Ok b)
then-good region b c true e = e
then-good region b c false e = no-refusal Data b e

valid-header : (region : List ℕ) (b : Bank) (v : Result Bank Refusal) → then_data region v ≡ Ok b → v ≡ Ok b
valid-header region b (Ok c) e = then-good region b c (data_ok region c) e
valid-header region b (Err r) e = no-refusal r b e

pub passes-header : (region : List ℕ) (m : ℕ) (b : Bank) → length region ≡ region_size → m ≤ 1 → validated region m ≡ Ok b → header_of m (bank_of region m) ≡ Ok b
passes-header region m b e h g = valid-header region b (header_of m (bank_of region m)) (sym (valid-is region m e h) ∙ g)

pub valid-number : (region : List ℕ) (m : ℕ) (b : Bank) → length region ≡ region_size → m ≤ 1 → validated region m ≡ Ok b → b.number ≡ m
valid-number region m b e h g = good-number m (bank_of region m) b (passes-header region m b e h g)

pub valid-generation : (region : List ℕ) (m : ℕ) (b : Bank) → length region ≡ region_size → m ≤ 1 → validated region m ≡ Ok b → b.generation ≡ generation region m
unfolding generation
valid-generation region m b e h g = good-generation m (bank_of region m) b (passes-header region m b e h g)

-- a good header over good data
pub then-valid : (region : List ℕ) (m : ℕ) (b : Bank) → length region ≡ region_size → m ≤ 1 → header_of m (bank_of region m) ≡ Ok b → data_ok region b ≡ true → validated region m ≡ Ok b
then-valid region m b e h g d = valid-is region m e h ∙ ap (then_data region) g ∙ rw d

-- ---- load

abbrev is_found : Result (Option Bank) Refusal → Bool
is_found (Ok (Some b)) = true
is_found (Ok None) = false
is_found (Err r) = false

abbrev is_read : Result (Option Bank) Refusal → Bool
is_read (Ok (Some b)) = true
is_read (Ok None) = true
is_read (Err r) = false

abbrev bank_in : Bank → Result (Option Bank) Refusal → Bank
bank_in d (Ok (Some b)) = b
bank_in d (Ok None) = d
bank_in d (Err r) = d

first_by : (t : Bool) → pick {A = ℕ} t 1 0 ≤ 1
first_by true = omega arith
first_by false = omega arith

first_fits : (region : List ℕ) → first_tried region ≤ 1
unfolding first_tried
first_fits region = first_by (newer (generation region 1) (generation region 0))

pub loaded-is : (region : List ℕ) → length region ≡ region_size → loaded region ≡ or_else (validated region (first_tried region)) (or_else (validated region (1 - first_tried region)) (Ok None))
unfolding loaded
loaded-is region e = rw (eq-eqb (length region) region_size e)

or_nothing : (v : Result Bank Refusal) → or_else v (or_else v (Ok None)) ≡ or_else v (Ok None)
or_nothing (Ok b) = refl
or_nothing (Err r) = refl

-- a bank that fails leaves the answer to the other, whichever is tried first
either : (region : List ℕ) (r : Refusal) (f n : ℕ) → f ≤ 1 → n ≤ 1 → validated region n ≡ Err r
    → or_else (validated region f) (or_else (validated region (1 - f)) (Ok None)) ≡ or_else (validated region (1 - n)) (Ok None)
either region r zero zero h k e = rw e
either region r zero (suc zero) h k e = rw e
either region r (suc zero) zero h k e = rw e
either region r (suc zero) (suc zero) h k e = rw e
either region r zero (suc (suc n)) h k e = absurd (omega arith)
either region r (suc zero) (suc (suc n)) h k e = absurd (omega arith)
either region r (suc (suc f)) n h k e = absurd (omega arith)

pub load-other : (region : List ℕ) (n : ℕ) (r : Refusal) → length region ≡ region_size → n ≤ 1 → validated region n ≡ Err r → loaded region ≡ or_else (validated region (1 - n)) (Ok None)
load-other region n r e h f = loaded-is region e ∙ either region r (first_tried region) n (first_fits region) h f

-- the first one tried, if it passes
pub load-tried : (region : List ℕ) (n : ℕ) (b : Bank) → length region ≡ region_size → first_tried region ≡ n → validated region n ≡ Ok b → loaded region ≡ Ok (Some b)
load-tried region n b e f g = loaded-is region e ∙ rw (f, g)

-- what load gives is what its bank's bytes say
pub record Own (region : List ℕ) (b : Bank) : Type 0 where
  pub number : b.number ≤ 1
  pub valid : validated region b.number ≡ Ok b

own : (region : List ℕ) (b : Bank) (m : ℕ) → length region ≡ region_size → m ≤ 1 → validated region m ≡ Ok b → Own region b
own region b m e h g =
    let n = valid-number region m b e h g in
    record { number = omega arith; valid = ap (validated region) n ∙ g }

found-bank : (b c : Bank) → ◌≡◌ {A = Result (Option Bank) Refusal} (Ok (Some c)) (Ok (Some b)) → c ≡ b
found-bank b c e = ap (bank_in b) e

own-by : (region : List ℕ) (b : Bank) (f : ℕ) → length region ≡ region_size → f ≤ 1 → (x y : Result Bank Refusal) → validated region f ≡ x → validated region (1 - f) ≡ y
    → or_else x (or_else y (Ok None)) ≡ Ok (Some b) → Own region b
own-by region b f e h (Ok c) y p q g = own region b f e h (p ∙ ap Ok (found-bank b c g))
own-by region b f e h (Err r) (Ok c) p q g = own region b (1 - f) e (omega arith) (q ∙ ap Ok (found-bank b c g))
own-by region b f e h (Err r) (Err s) p q g = absurd (false≢true (ap is_found g))

pub load-own : (region : List ℕ) (b : Bank) → length region ≡ region_size → loaded region ≡ Ok (Some b) → Own region b
load-own region b e g =
    own-by region b (first_tried region) e (first_fits region) (validated region (first_tried region)) (validated region (1 - first_tried region)) refl refl (sym (loaded-is region e) ∙ g)

both-refused : (region : List ℕ) (f m : ℕ) → f ≤ 1 → m ≤ 1 → (r s : Refusal) → validated region f ≡ Err r → validated region (1 - f) ≡ Err s → or_else (validated region m) (Ok None) ≡ Ok None
both-refused region zero zero h k r s p q = rw p
both-refused region zero (suc zero) h k r s p q = rw q
both-refused region zero (suc (suc m)) h k r s p q = absurd (omega arith)
both-refused region (suc zero) zero h k r s p q = rw q
both-refused region (suc zero) (suc zero) h k r s p q = rw p
both-refused region (suc zero) (suc (suc m)) h k r s p q = absurd (omega arith)
both-refused region (suc (suc f)) m h k r s p q = absurd (omega arith)

none-by : (region : List ℕ) (f m : ℕ) → f ≤ 1 → m ≤ 1 → (x y : Result Bank Refusal) → validated region f ≡ x → validated region (1 - f) ≡ y
    → or_else x (or_else y (Ok None)) ≡ Ok None → or_else (validated region m) (Ok None) ≡ Ok None
none-by region f m h k (Ok c) y p q g = absurd (false≢true (sym (ap is_found g)))
none-by region f m h k (Err r) (Ok c) p q g = absurd (false≢true (sym (ap is_found g)))
none-by region f m h k (Err r) (Err s) p q g = both-refused region f m h k r s p q

pub load-none : (region : List ℕ) (m : ℕ) → length region ≡ region_size → m ≤ 1 → loaded region ≡ Ok None → or_else (validated region m) (Ok None) ≡ Ok None
load-none region m e k g =
    none-by region (first_tried region) m (first_fits region) k (validated region (first_tried region)) (validated region (1 - first_tried region)) refl refl (sym (loaded-is region e) ∙ g)

read_by : (x y : Result Bank Refusal) → is_read (or_else x (or_else y (Ok None))) ≡ true
read_by (Ok b) y = refl
read_by (Err r) (Ok b) = refl
read_by (Err r) (Err s) = refl

pub load_read : (region : List ℕ) (r : Refusal) → length region ≡ region_size → loaded region ≡ Err r → ⊥
load_read region r e g =
    false≢true (sym (ap is_read g) ∙ ap is_read (loaded-is region e) ∙ read_by (validated region (first_tried region)) (validated region (1 - first_tried region)))

-- what load gives on a region of its size names a bank there, or none
pub active-ok : (region : List ℕ) (hd : Result (Option Bank) Refusal) → length region ≡ region_size → loaded region ≡ hd → active_ok hd ≡ true
unfolding active_ok
active-ok region (Ok (Some b)) l e = le-leb b.number 1 (load-own region b l e).number
active-ok region (Ok None) l e = refl
active-ok region (Err r) l e = absurd (load_read region r l e)

-- the bank that isn't written is the one that load gives
pub target_fits : (hd : Result (Option Bank) Refusal) → target hd ≤ 1
unfolding target
target_fits (Ok (Some b)) = omega arith
target_fits (Ok None) = omega arith
target_fits (Err r) = omega arith

pub other-held : (region : List ℕ) (hd : Result (Option Bank) Refusal) → length region ≡ region_size → loaded region ≡ hd → or_else (validated region (1 - target hd)) (Ok None) ≡ hd
unfolding target
other-held region (Ok (Some b)) e g =
    let o = load-own region b e g in
    let k : 1 - (1 - b.number) ≡ b.number = omega (arith, o.number) in
    rw (k, o.valid)
other-held region (Ok None) e g = load-none region 1 e (omega arith) g
other-held region (Err r) e g = absurd (load_read region r e g)

-- ---- a bank that passes and is the next after the other, or is beside one that fails, is the one that load gives

fails : (region : List ℕ) (n : ℕ) (b : Bank) → length region ≡ region_size → n ≤ 1 → validated region n ≡ Ok b → (v : Result Bank Refusal) → validated region (1 - n) ≡ v → or_else v (Ok None) ≡ Ok None → loaded region ≡ Ok (Some b)
fails region n b e h g (Ok c) p q = absurd (false≢true (sym (ap is_found q)))
fails region n b e h g (Err r) p q =
    let k : 1 - (1 - n) ≡ n = omega arith in
    load-other region (1 - n) r e (omega arith) p ∙ rw (k, g)

first-new : (region : List ℕ) (n : ℕ) → n ≤ 1 → generation region (1 - n) < 2 ^ 32 → generation region n ≡ next (generation region (1 - n)) → first_tried region ≡ n
unfolding first_tried next
first-new region zero h s e =
    let g = generation region 1 in
    rw (e, newer-asym (next g) g (omega arith) s (newer-next g s))
first-new region (suc zero) h s e = rw (e, newer-next (generation region 0) s)
first-new region (suc (suc n)) h s e = absurd (omega arith)

pub load-new : (region : List ℕ) (n : ℕ) (b : Bank) → length region ≡ region_size → n ≤ 1 → validated region n ≡ Ok b
    → (or_else (validated region (1 - n)) (Ok None) ≡ Ok None) ⊎ ((generation region (1 - n) < 2 ^ 32) × (generation region n ≡ next (generation region (1 - n))))
    → loaded region ≡ Ok (Some b)
load-new region n b e h g (inl f) = fails region n b e h g (validated region (1 - n)) refl f
load-new region n b e h g (inr f) = load-tried region n b e (first-new region n h f.0 f.1) g
