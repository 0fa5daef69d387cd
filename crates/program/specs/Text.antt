-- Texts: where a byte is, the value of a digit, the number that digits make.
use Rattle.std.specs.Prelude.{ℕ, suc, ◌+◌, ◌-◌, ◌*◌, min, List, [], ◌∷◌, length, drop, ◌==◌, nat_le, nat_lt, Option, Some, None}
use Rattle.base.specs.Number.{pick}

-- how many bytes come before the first b; all of them if there is none
unfoldable pub count_before : ℕ → List ℕ → ℕ
count_before b [] = 0
count_before b (c ∷ s) = pick (c == b) 0 (suc (count_before b s))

-- the index of the first b from an index on; the length if there is none
unfoldable pub index_from : List ℕ → ℕ → ℕ → ℕ
index_from s from b = min from (length s) + count_before b (drop from s)

-- what a byte that is no digit has as its value
abbrev pub no_digit : ℕ
no_digit = 255

-- a digit's value: "0" (48) to "9" (57) are 0 to 9, "a" (97) to "f" (102) are 10 to 15
abbrev pub value_of : ℕ → ℕ
value_of c = pick (nat_lt c 48) no_digit (pick (nat_le c 57) (c - 48) (pick (nat_lt c 97) no_digit (pick (nat_le c 102) (c - 97 + 10) no_digit)))

-- the most that another digit may follow
abbrev pub most_before : ℕ
most_before = 922337203685477580

-- the decimal digits of s appended to the number v; none if a byte is no decimal digit or the number gets too large
unfoldable pub appended : ℕ → List ℕ → Option ℕ
appended v [] = Some v
appended v (c ∷ s) = pick (nat_lt 9 (value_of c)) None (pick (nat_lt most_before v) None (appended (v * 10 + value_of c) s))

-- the number whose decimal digits s is; none without digits
unfoldable pub number_of : List ℕ → Option ℕ
number_of [] = None
number_of (c ∷ s) = appended 0 (c ∷ s)
