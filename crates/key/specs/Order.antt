-- 01, "Order is bytewise, field by field": texts by bytes, picks by texts. A list is before any longer one that starts with it.
use Rattle.std.specs.Prelude.{List, [], ◌∷◌}
use Prim.Native.Nat.{ℕ, compare, Ordering}

-- a text: its bytes
abbrev pub Text : Type 0
Text = List ℕ

-- a pick: its five fields
abbrev pub field_count : ℕ
field_count = 5

-- the fields' numbers: line, route, stop code, stop, stop name
abbrev pub route_field : ℕ
route_field = 1

abbrev pub code_field : ℕ
code_field = 2

abbrev pub stop_field : ℕ
stop_field = 3

abbrev pub name_field : ℕ
name_field = 4

abbrev pub Pick : Type 0
Pick = List Text

-- the first order, or the second if the first is equal
abbrev pub or_else : Ordering → Ordering → Ordering
or_else Ordering.lt o = Ordering.lt
or_else Ordering.eq o = o
or_else Ordering.gt o = Ordering.gt

-- lexicographic order of two lists
abbrev pub lex : {A : Type 0} → (A → A → Ordering) → List A → List A → Ordering
lex cmp [] [] = Ordering.eq
lex cmp [] (b ∷ t) = Ordering.lt
lex cmp (a ∷ s) [] = Ordering.gt
lex cmp (a ∷ s) (b ∷ t) = or_else (cmp a b) (lex cmp s t)

unfoldable pub text_order : Text → Text → Ordering
text_order = lex compare

unfoldable pub pick_order : Pick → Pick → Ordering
pick_order = lex text_order
