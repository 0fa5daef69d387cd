-- How a row is read: exactly the rows of the grammar are (specs/Claims.antt: sound, complete).
use Rattle.std.specs.Prelude.{ℕ, zero, suc, eqb, List, [], ◌∷◌, get_or, drop, ◌&&◌}
use Rattle.base.specs.Number.{pick}
use Rattle.rfc4180.specs.Csv.{is_text, quote, comma, carriage_return, line_feed}

-- a value and what follows it
pub data Got : Type 0 where
  got : List ℕ → List ℕ → Got
  bad : Got

-- the value with a byte put before it
abbrev pub push : ℕ → Got → Got
push b (got v r) = got (b ∷ v) r
push b bad = bad

-- a value without quotes ends before the first byte that isn't text; and what follows it
unfoldable pub plain_value : List ℕ → List ℕ
plain_value [] = []
plain_value (b ∷ bs) = pick (is_text b) (b ∷ plain_value bs) []

unfoldable pub plain_rest : List ℕ → List ℕ
plain_rest [] = []
plain_rest (b ∷ bs) = pick (is_text b) (plain_rest bs) (b ∷ bs)

-- after the opening quote; and after a quote there, which closes the value unless another follows
unfoldable mutual
  pub inner : List ℕ → Got
  inner [] = bad
  inner (b ∷ bs) = pick (eqb b quote) (closing bs) (push b (inner bs))

  pub closing : List ℕ → Got
  closing [] = got [] []
  closing (b ∷ bs) = pick (eqb b quote) (push quote (inner bs)) (got [] (b ∷ bs))

-- the field at the start
unfoldable pub field_at : List ℕ → Got
field_at [] = got [] []
field_at (b ∷ bs) = pick (eqb b quote) (inner bs) (got (plain_value (b ∷ bs)) (plain_rest (b ∷ bs)))

-- the values of a row and what follows it
pub data Row : Type 0 where
  row : List (List ℕ) → List ℕ → Row
  malformed : Row

-- the row with a value put before its values
abbrev pub front : List ℕ → Row → Row
front v (row vs r) = row (v ∷ vs) r
front v malformed = malformed

-- how many bytes the row end at the start has: 1, 2, or 0 if there is none. 02, E4: "CRLF outside quotes as one row end, beside LF"
unfoldable pub row_end : List ℕ → ℕ
row_end bs = pick (eqb (get_or bs 0 0) line_feed) 1 (pick (eqb (get_or bs 0 0) carriage_return && eqb (get_or bs 1 0) line_feed) 2 0)

-- after the last value a row end; after another a comma, and `more` reads on
unfoldable pub ended : List ℕ → List ℕ → Row
ended v bs = pick (eqb (row_end bs) 0) malformed (row (v ∷ []) (drop (row_end bs) bs))

unfoldable pub parted : (List ℕ → Row) → List ℕ → List ℕ → Row
parted more v [] = malformed
parted more v (b ∷ r) = pick (eqb b comma) (front v (more r)) malformed

-- after a value that n others follow
abbrev pub next : ℕ → (List ℕ → Row) → Got → Row
next zero more bad = malformed
next (suc n) more bad = malformed
next zero more (got v r) = ended v r
next (suc n) more (got v r) = parted more v r

-- the row of n values at the start of bs
unfoldable pub values : ℕ → List ℕ → Row
values zero bs = malformed
values (suc n) bs = next n (values n) (field_at bs)
