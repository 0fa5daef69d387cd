-- The picks of 01: as they are passed, and sorted with equal ones once.
use Rattle.std.specs.Prelude.{List, [], ◌∷◌, ◌≡◌, ◌⊎◌, length, take, drop, get_or}
use Prim.Native.Nat.{ℕ, zero, suc, ◌+◌, ◌-◌, ◌*◌, ◌/◌, Ordering}
use Rattle.key.specs.Order.{Text, Pick, pick_order, field_count, route_field, code_field, stop_field, name_field}

-- ---- as passed: all texts joined, and their lengths, five to a pick

unfoldable pub sum : List ℕ → ℕ
sum [] = 0
sum (n ∷ ns) = n + sum ns

-- text k: as many bytes as its length says, after the texts before it; fewer where the bytes end. A missing length is 0.
unfoldable pub text : Text → List ℕ → ℕ → Text
text bytes lengths k = take (get_or lengths k 0) (drop (sum (take k lengths)) bytes)

-- the stop name is "empty whenever the code isn't"
abbrev pub unless_code : Text → Text → Text
unless_code [] name = name
unless_code (c ∷ cs) name = []

-- pick i of texts 0, 1, 2, ..: line, route, stop code, stop, stop name
unfoldable pub pick_of : (ℕ → Text) → ℕ → Pick
pick_of t i = t (i * field_count) ∷ t (i * field_count + route_field) ∷ t (i * field_count + code_field) ∷ t (i * field_count + stop_field) ∷ unless_code (t (i * field_count + code_field)) (t (i * field_count + name_field)) ∷ []

-- pick i as passed
abbrev pub pick_at : Text → List ℕ → ℕ → Pick
pick_at bytes lengths i = pick_of (text bytes lengths) i

-- how many picks there are: five lengths to each, the last one perhaps with fewer
abbrev pub count : List ℕ → ℕ
count lengths = (length lengths + (field_count - 1)) / field_count

-- f 0, f 1, .., f (n - 1)
unfoldable pub firsts : {A : Type 0} → ℕ → (ℕ → A) → List A
firsts zero f = []
firsts (suc n) f = f 0 ∷ firsts n (λ k. f (suc k))

-- the picks as passed
abbrev pub passed_picks : Text → List ℕ → List Pick
passed_picks bytes lengths = firsts (count lengths) (pick_at bytes lengths)

-- ---- "sorted", "equal five-field picks count once"

-- p is one of a list
abbrev pub In : Pick → List Pick → Type 0
In p [] = ⊥
In p (q ∷ qs) = (p ≡ q) ⊎ In p qs

-- each pick is smaller than all after it, so none is there twice
abbrev pub Ascending : List Pick → Type 0
Ascending [] = Unit {0}
Ascending (p ∷ ps) = ((q : Pick) → In q ps → pick_order p q ≡ Ordering.lt) × Ascending ps

-- what sorting means: s is ascending, and its picks are those of ps
pub record Sorts (ps s : List Pick) : Type 0 where
  pub ascending : Ascending s
  pub kept : (p : Pick) → In p ps → In p s
  pub from : (p : Pick) → In p s → In p ps

-- p inserted before q if it is smaller, not at all if it is equal, else further on
abbrev pub insert_by : Ordering → Pick → Pick → List Pick → List Pick → List Pick
insert_by Ordering.lt p q qs further = p ∷ q ∷ qs
insert_by Ordering.eq p q qs further = q ∷ qs
insert_by Ordering.gt p q qs further = q ∷ further

unfoldable pub insert : Pick → List Pick → List Pick
insert p [] = p ∷ []
insert p (q ∷ qs) = insert_by (pick_order p q) p q qs (insert p qs)

-- the one list that sorts ps (specs/Claims.antt: DistinctSorts, OnlyOneSorts)
unfoldable pub distinct : List Pick → List Pick
distinct [] = []
distinct (p ∷ ps) = insert p (distinct ps)
