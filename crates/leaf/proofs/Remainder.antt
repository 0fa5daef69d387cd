-- The long division gives p = q G + r with r of 32 coefficients, by induction on q's length; and no other q and r do, since equal sums have
-- equal first coefficients.
use Rattle.std.proofs.Common.{◌≡◌, ℕ, zero, suc, ◌+◌, Bool, true, false, List, [], ◌∷◌, ◌++◌, length, sym, refl, ap, ◌∙◌, ap₂, arith}
use Rattle.leaf.specs.Polynomial.{zeros, plus, add, powers, has, coefficients, generator, times, turn, remainder, quotient, product, Division}

-- ---- sums

plus-swap : (a b c : Bool) → plus (plus a b) c ≡ plus (plus a c) b
unfolding plus
plus-swap true true true = refl
plus-swap true true false = refl
plus-swap true false true = refl
plus-swap true false false = refl
plus-swap false true true = refl
plus-swap false true false = refl
plus-swap false false true = refl
plus-swap false false false = refl

plus-twice : (a b : Bool) → plus (plus a b) b ≡ a
unfolding plus
plus-twice true true = refl
plus-twice true false = refl
plus-twice false true = refl
plus-twice false false = refl

plus-false : (a : Bool) → plus a false ≡ a
unfolding plus
plus-false true = refl
plus-false false = refl

pub add-nil : (p : List Bool) → add p [] ≡ p
unfolding add
add-nil [] = refl
add-nil (a ∷ p) = refl

add-swap : (p g h : List Bool) → add (add p g) h ≡ add (add p h) g
unfolding add
add-swap [] g h = refl
add-swap (a ∷ p) [] [] = refl
add-swap (a ∷ p) [] (c ∷ h) = refl
add-swap (a ∷ p) (b ∷ g) [] = refl
add-swap (a ∷ p) (b ∷ g) (c ∷ h) = ap₂ (λ (x : Bool) (l : List Bool). x ∷ l) (plus-swap a b c) (add-swap p g h)

add_twice : (p g : List Bool) → add (add p g) g ≡ p
unfolding add
add_twice [] g = refl
add_twice (a ∷ p) [] = refl
add_twice (a ∷ p) (b ∷ g) = ap₂ (λ (x : Bool) (l : List Bool). x ∷ l) (plus-twice a b) (add_twice p g)

pub length-add : (p g : List Bool) → length (add p g) ≡ length p
unfolding add
length-add [] g = refl
length-add (a ∷ p) [] = refl
length-add (a ∷ p) (b ∷ g) = ap suc (length-add p g)

-- zeros plus g is g
zeros-add : (n : ℕ) (g : List Bool) → length g ≡ n → add (zeros n) g ≡ g
unfolding add plus
zeros-add zero [] h = refl
zeros-add zero (b ∷ g) h = absurd (omega arith)
zeros-add (suc n) [] h = absurd (omega arith)
zeros-add (suc n) (b ∷ g) h = ap (λ (l : List Bool). b ∷ l) (zeros-add n g (omega arith))

-- ---- a turn

-- G's coefficients after its first, which is 1
abbrev pub tail : Bool → List Bool
tail true = coefficients 32
tail false = []

pub turn-tail : (a : Bool) (p : List Bool) → turn a p ≡ add p (tail a)
unfolding turn times generator coefficients has powers add
turn-tail true p = refl
turn-tail false p = sym (add-nil p)

pub length-turn : (a : Bool) (p : List Bool) → length (turn a p) ≡ length p
length-turn a p = ap length (turn-tail a p) ∙ length-add p (tail a)

-- what a coefficient of the quotient adds to the product of those after it
forward : (a : Bool) (q r : List Bool) → add (add (false ∷ q) (times a)) (false ∷ r) ≡ a ∷ add (add q r) (tail a)
unfolding times generator coefficients has powers add plus
forward true q r = ap (λ (l : List Bool). true ∷ l) (add-swap q (coefficients 32) r)
forward false q r = ap (λ (l : List Bool). false ∷ l) (sym (add-nil (add q r)))

back : (a : Bool) (q r p : List Bool) → add q r ≡ turn a p → add (add (false ∷ q) (times a)) (false ∷ r) ≡ a ∷ p
back a q r p e =
    forward a q r ∙ ap (λ (l : List Bool). a ∷ add l (tail a)) (e ∙ turn-tail a p) ∙ ap (λ (l : List Bool). a ∷ l) (add_twice p (tail a))

-- p = q G + r
pub divided : (n : ℕ) (p : List Bool) → length p ≡ n + 32 → add (product (quotient n p)) (zeros (length (quotient n p)) ++ remainder n p) ≡ p
unfolding product quotient remainder
divided zero p h = zeros-add 32 p (omega arith)
divided (suc n) [] h = absurd (omega arith)
divided (suc n) (a ∷ p) h =
    back a (product (quotient n (turn a p))) (zeros (length (quotient n (turn a p))) ++ remainder n (turn a p)) p
    (divided n (turn a p) (length-turn a p ∙ (omega arith)))

pub length-remainder : (n : ℕ) (p : List Bool) → length p ≡ n + 32 → length (remainder n p) ≡ 32
unfolding remainder
length-remainder zero p h = omega arith
length-remainder (suc n) [] h = absurd (omega arith)
length-remainder (suc n) (a ∷ p) h = length-remainder n (turn a p) (length-turn a p ∙ (omega arith))

pub division : (n : ℕ) (p : List Bool) → length p ≡ n + 32 → Division p (quotient n p) (remainder n p)
division n p h = record { equal = divided n p h; lower = length-remainder n p h }

-- ---- there is no other

length-product : (q : List Bool) → length (product q) ≡ length q + 32
unfolding product
length-product [] = refl
length-product (a ∷ q) =
    let e : length (add (false ∷ product q) (times a)) ≡ suc (length (product q)) = length-add (false ∷ product q) (times a) in
    let i : length (product q) ≡ length q + 32 = length-product q in
    omega arith

cancel : (p q g : List Bool) → add p g ≡ add q g → p ≡ q
cancel p q g e = sym (add_twice p g) ∙ ap (λ (l : List Bool). add l g) e ∙ add_twice q g

head : {a b : Bool} {p q : List Bool} → a ∷ p ≡ b ∷ q → a ≡ b
head e = cc

rest : {a b : Bool} {p q : List Bool} → a ∷ p ≡ b ∷ q → p ≡ q
rest e = cc

only : (q q' r r' : List Bool) → length r ≡ 32 → length r' ≡ 32 → length q ≡ length q'
    → add (product q) (zeros (length q) ++ r) ≡ add (product q') (zeros (length q') ++ r') → (q ≡ q') × (r ≡ r')
unfolding product
only [] [] r r' h h' l e = (refl, sym (zeros-add 32 r h) ∙ e ∙ zeros-add 32 r' h')
only [] (b ∷ q') r r' h h' l e = absurd (omega arith)
only (a ∷ q) [] r r' h h' l e = absurd (omega arith)
only (a ∷ q) (b ∷ q') r r' h h' l e =
    let x : List Bool = add (product q) (zeros (length q) ++ r) in
    let x' : List Bool = add (product q') (zeros (length q') ++ r') in
    let f : a ∷ add x (tail a) ≡ b ∷ add x' (tail b) = sym (forward a (product q) (zeros (length q) ++ r)) ∙ e ∙ forward b (product q') (zeros (length q') ++ r') in
    let g : a ≡ b = head f in
    let i : (q ≡ q') × (r ≡ r') = only q q' r r' h h' (omega arith) (cancel x x' (tail a) (rest f ∙ ap (λ (c : Bool). add x' (tail c)) (sym g))) in
    (ap₂ (λ (c : Bool) (m : List Bool). c ∷ m) g i.0, i.1)

pub unique : {p q q' r r' : List Bool} → Division p q r → Division p q' r' → (q ≡ q') × (r ≡ r')
unique {p} {q} {q'} {r} {r'} d d' =
    let e : add (product q) (zeros (length q) ++ r) ≡ add (product q') (zeros (length q') ++ r') = d.equal ∙ sym d'.equal in
    only q q' r r' d.lower d'.lower
    (omega (
      arith,
      length-product q,
      length-product q',
      sym (length-add (product q) (zeros (length q) ++ r)) ∙ ap length e ∙ length-add (product q') (zeros (length q') ++ r'),
    ))
    e
