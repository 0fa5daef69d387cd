-- Two sums by exclusive or are equal if the same terms occur in both an odd number of times, since equal terms cancel. The folds use it to
-- compare long sums by computing.
use mathlib.Core.Path.{◌≡◌, refl, sym, ap, ap₂, ◌∙◌}
use mathlib.Core.Bool.{Bool, true, false, not}
use mathlib.Core.List.{List, [], ◌∷◌}
use Prim.Native.Nat.{ℕ, zero, suc}
use lib.Bits.{bit_xor, xor_zero_r, xor_self}
use lib.ListN.{get_or}
use Rattle.checksum.proofs.Xor.{xor_assoc, xor-left-comm, xor-four}

pub data Sum : Type 0 where
  term : ℕ → Sum
  plus : Sum → Sum → Sum

abbrev pub eval : Sum → List ℕ → ℕ
eval (term i) vs = get_or vs i 0
eval (plus a b) vs = bit_xor (eval a vs) (eval b vs)

abbrev differ : Bool → Bool → Bool
differ true b = not b
differ false b = b

abbrev unit : ℕ → List Bool
unit zero = true ∷ []
unit (suc i) = false ∷ unit i

abbrev merge : List Bool → List Bool → List Bool
merge [] q = q
merge (a ∷ p) [] = a ∷ p
merge (a ∷ p) (b ∷ q) = differ a b ∷ merge p q

-- which terms occur in a sum an odd number of times
abbrev pub odd : Sum → List Bool
odd (term i) = unit i
odd (plus a b) = merge (odd a) (odd b)

abbrev chosen : Bool → ℕ → ℕ → ℕ
chosen true v x = bit_xor v x
chosen false v x = x

abbrev value : List Bool → List ℕ → ℕ
value [] vs = 0
value (b ∷ bs) [] = 0
value (b ∷ bs) (v ∷ vs) = chosen b v (value bs vs)

value-nil : (p : List Bool) → value p [] ≡ 0
value-nil [] = refl
value-nil (b ∷ p) = refl

value-unit : (i : ℕ) (vs : List ℕ) → value (unit i) vs ≡ get_or vs i 0
value-unit zero [] = refl
value-unit zero (v ∷ vs) = xor_zero_r v
value-unit (suc i) [] = refl
value-unit (suc i) (v ∷ vs) = value-unit i vs

cancel : (v x y : ℕ) → bit_xor x y ≡ bit_xor (bit_xor v x) (bit_xor v y)
cancel v x y = sym (xor-four v x v y ∙ ap (λ (z : ℕ). bit_xor z (bit_xor x y)) (xor_self v))

head : (a b : Bool) (v x y : ℕ) → chosen (differ a b) v (bit_xor x y) ≡ bit_xor (chosen a v x) (chosen b v y)
head true true v x y = cancel v x y
head true false v x y = sym (xor_assoc v x y)
head false true v x y = xor-left-comm v x y
head false false v x y = refl

value-merge : (p q : List Bool) (vs : List ℕ) → value (merge p q) vs ≡ bit_xor (value p vs) (value q vs)
value-merge [] q vs = refl
value-merge (a ∷ p) [] vs = sym (xor_zero_r (value (a ∷ p) vs))
value-merge (a ∷ p) (b ∷ q) [] = refl
value-merge (a ∷ p) (b ∷ q) (v ∷ vs) =
    ap (chosen (differ a b) v) (value-merge p q vs) ∙ head a b v (value p vs) (value q vs)

value-odd : (e : Sum) (vs : List ℕ) → value (odd e) vs ≡ eval e vs
value-odd (term i) vs = value-unit i vs
value-odd (plus a b) vs = value-merge (odd a) (odd b) vs ∙ ap₂ bit_xor (value-odd a vs) (value-odd b vs)

pub same : (vs : List ℕ) (a b : Sum) → odd a ≡ odd b → eval a vs ≡ eval b vs
same vs a b h = sym (value-odd a vs) ∙ ap (λ (p : List Bool). value p vs) h ∙ value-odd b vs

-- the sum of a list of numbers
abbrev pub xors : List ℕ → ℕ
xors [] = 0
xors (a ∷ l) = bit_xor a (xors l)
