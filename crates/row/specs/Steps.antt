-- What the private functions promise each other. Nothing here says what a row is.
use Rattle.std.specs.Prelude.{ℕ, Bool, false, ◌||◌, List, [], ◌∷◌, ◌++◌, eqb}
use Rattle.rfc4180.specs.Write.{doubled}
use Rattle.row.specs.Columns.{columns, line}
use Rattle.rfc4180.specs.Csv.{quote}

-- how many bytes are copied or tested at once
abbrev pub block_size : ℕ
block_size = 16

-- how many are counted at once
abbrev pub counted_size : ℕ
counted_size = 64

-- the most that a row has for each value beside its bytes: two quotes and a delimiter
abbrev pub value_ends : ℕ
value_ends = 3

-- the names lines of tables, joined
unfoldable pub lines : List (List (List ℕ)) → List ℕ
lines [] = []
lines (c ∷ cs) = line c ++ lines cs

unfoldable pub all_lines : List ℕ
all_lines = lines columns

-- a byte is among others
unfoldable pub has : ℕ → List ℕ → Bool
has b [] = false
has b (x ∷ v) = eqb x b || has b v

-- a value with a special byte as it is written
abbrev pub quoted_of : List ℕ → List ℕ
quoted_of v = quote ∷ doubled v ++ (quote ∷ [])
