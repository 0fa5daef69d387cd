-- The rows of a stored table: the grammar of RFC 4180, section 2, rules 1 and 4 to 7, rule by rule.
-- `Rule bytes value rest`: the bytes begin with text of this rule, which means the value, and the rest follows it.
-- What departs from the RFC: a row may end in LF too (02, E4: CRLF "beside LF"); the last row needs its row end (01: malformed is "a table that
-- ends before its row does"); and any byte but quote, comma, CR and LF is text, not just those the RFC lists.
use Rattle.std.specs.Prelude.{ℕ, eqb, Bool, true, false, not, ◌||◌, ◌≡◌, List, [], ◌∷◌, get_or}

-- the bytes DQUOTE, COMMA, CR, LF
abbrev pub quote : ℕ
quote = 34

abbrev pub comma : ℕ
comma = 44

abbrev pub carriage_return : ℕ
carriage_return = 13

abbrev pub line_feed : ℕ
line_feed = 10

-- TEXTDATA: a byte of a field without quotes. 02, E4: "A CR outside quotes without an LF after it is malformed", so CR is no text: outside quotes
-- it can only begin a CRLF.
-- These are the bytes for which a writer needs no quotes (specs/Claims.antt: text_unquoted).
unfoldable pub is_text : ℕ → Bool
is_text b = not (eqb b quote || (eqb b comma || (eqb b carriage_return || eqb b line_feed)))

-- non-escaped = *TEXTDATA
pub data NonEscaped : List ℕ → List ℕ → List ℕ → Type 0 where
  none : {r : List ℕ} → NonEscaped r [] r
  text : {b : ℕ} {bs v r : List ℕ} → is_text b ≡ true → NonEscaped bs v r → NonEscaped (b ∷ bs) (b ∷ v) r

-- what follows the opening quote: *(TEXTDATA / COMMA / CR / LF / 2DQUOTE) DQUOTE
pub data Inner : List ℕ → List ℕ → List ℕ → Type 0 where
  close : {r : List ℕ} → Inner (quote ∷ r) [] r
  byte : {b : ℕ} {bs v r : List ℕ} → eqb b quote ≡ false → Inner bs v r → Inner (b ∷ bs) (b ∷ v) r
  twice : {bs v r : List ℕ} → Inner bs v r → Inner (quote ∷ quote ∷ bs) (quote ∷ v) r

-- field = escaped / non-escaped, where escaped = DQUOTE *(TEXTDATA / COMMA / CR / LF / 2DQUOTE) DQUOTE
pub data Field : List ℕ → List ℕ → List ℕ → Type 0 where
  escaped : {bs v r : List ℕ} → Inner bs v r → Field (quote ∷ bs) v r
  non_escaped : {bs v r : List ℕ} → NonEscaped bs v r → Field bs v r

-- the end of a row. 02, E4: "take CRLF outside quotes as one row end, beside LF"
pub data RowEnd : List ℕ → List ℕ → Type 0 where
  lf : {r : List ℕ} → RowEnd (line_feed ∷ r) r
  crlf : {r : List ℕ} → RowEnd (carriage_return ∷ line_feed ∷ r) r

-- record = field *(COMMA field), with its row end
pub data Record : List ℕ → List (List ℕ) → List ℕ → Type 0 where
  last : {bs v e r : List ℕ} → Field bs v e → RowEnd e r → Record bs (v ∷ []) r
  more : {bs v w cs r : List ℕ} {ws : List (List ℕ)} → Field bs v (comma ∷ cs) → Record cs (w ∷ ws) r → Record bs (v ∷ w ∷ ws) r

-- bytes that begin with one or more fields, commas between them, and then have a CR that no LF follows: another byte does, or none (`get_or r 0 0` is
-- r's first byte, 0 if it has none). 02, E4: "A CR outside quotes without an LF after it". What has one elsewhere has a malformed field before it.
pub data LoneCr : List ℕ → Type 0 where
  here : {bs v r : List ℕ} → Field bs v (carriage_return ∷ r) → (get_or r 0 0 ≡ line_feed → ⊥) → LoneCr bs
  later : {bs v cs : List ℕ} → Field bs v (comma ∷ cs) → LoneCr cs → LoneCr bs

-- 01's limit: the most bytes of a row, with its row end
abbrev pub max_row : ℕ
max_row = 8192

-- the most columns of a table
abbrev pub max_columns : ℕ
max_columns = 10
