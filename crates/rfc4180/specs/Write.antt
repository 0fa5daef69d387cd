-- How a row is written. It is in the grammar (specs/Claims.antt: written).
use Rattle.std.specs.Prelude.{ℕ, eqb, Bool, false, ◌||◌, List, [], ◌∷◌, ◌++◌}
use Rattle.base.specs.Number.{pick}
use Rattle.rfc4180.specs.Csv.{quote, comma, carriage_return, line_feed}

-- a byte that makes a value quoted: "a quote, comma, CR or LF"
unfoldable pub special : ℕ → Bool
special b = eqb b quote || (eqb b comma || (eqb b carriage_return || eqb b line_feed))

-- a value has one of these
unfoldable pub any_special : List ℕ → Bool
any_special [] = false
any_special (b ∷ v) = special b || any_special v

-- "inner quotes double"
unfoldable pub doubled : List ℕ → List ℕ
doubled [] = []
doubled (b ∷ v) = pick (eqb b quote) (quote ∷ quote ∷ doubled v) (b ∷ doubled v)

-- a value, quoted where it has to be
unfoldable pub field_of : List ℕ → List ℕ
field_of v = pick (any_special v) (quote ∷ doubled v ++ (quote ∷ [])) v

-- the byte after a field: LF after the last, else a comma
abbrev pub delimiter : List (List ℕ) → ℕ
delimiter [] = line_feed
delimiter (v ∷ vs) = comma

-- the row of some values
unfoldable pub row_of : List (List ℕ) → List ℕ
row_of [] = []
row_of (v ∷ vs) = field_of v ++ (delimiter vs ∷ row_of vs)

-- the same fields with commas between them, and then these bytes: CR and LF make a row as RFC 4180 has it. No call here writes such a row.
unfoldable pub fields_then : List ℕ → List (List ℕ) → List ℕ
fields_then bytes [] = bytes
fields_then bytes (v ∷ []) = field_of v ++ bytes
fields_then bytes (v ∷ w ∷ ws) = field_of v ++ (comma ∷ fields_then bytes (w ∷ ws))
