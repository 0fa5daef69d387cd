-- What the private functions promise each other. Nothing here says what a row is.
use Rattle.std.specs.Prelude.{ℕ, ◌+◌, ◌-◌, ◌≤◌, ◌<◌, ◌≡◌, Bool, true, false, ◌||◌, List, [], ◌∷◌, ◌++◌, ◌⊎◌, eqb, length, take, drop, get_or, Option, Some, None}
use Rattle.std.proofs.lemmas.List.Edits.{sets}
use Rattle.base.specs.Little.{little, long_bytes}
use Rattle.base.specs.Number.{pick}
use Rattle.rfc4180.specs.Csv.{Record, quote, comma, carriage_return, line_feed}
use Rattle.rfc4180.specs.Read.{Got, got, bad, Row, row, malformed, values, inner, field_at}
use Rattle.rowread.specs.declared.Span.{Span}
use Rattle.rowread.specs.declared.line.Found.{Found}
use Rattle.rowread.specs.declared.line.Found.TheVariants.{Stop, Commas}
use Rattle.rowread.specs.declared.unquote.Turn.{Turn}
use Rattle.rowread.specs.declared.unquote.Turn.TheVariants.{On, Closed}
use Rattle.rowread.specs.declared.unquote.ByMarks.{ByMarks}
use Rattle.rowread.specs.declared.unquote.ByMarks.TheVariants.{Whole, Part}
use Rattle.rowread.specs.Marks.{marks, is_quote, since}
use Rattle.rowread.specs.Stored.{joined, ends_of, values_of}

-- how many bytes are copied at once
abbrev pub block_size : ℕ
block_size = 16

-- how many bytes a turn by marks may read
abbrev pub searched_bytes : ℕ
searched_bytes = 24

-- how many bytes after a value may be overwritten
abbrev pub slack_of : Bool → ℕ
slack_of ahead = pick ahead block_size 0

-- something was read: the offset after it, and its size
abbrev pub spanned : ℕ → ℕ → Option Span
spanned next size = Some (record { next = next; size = size })

-- the end of a value in n bytes, and its size
abbrev pub piece_of : ℕ → Got → Option Span
piece_of n (got v r) = spanned (n - length r) (length v)
piece_of n bad = None

abbrev pub value_of : Got → List ℕ
value_of (got v r) = v
value_of bad = []

abbrev pub rest_of : Got → List ℕ
rest_of (got v r) = r
rest_of bad = []

-- a value was read
abbrev pub IsGot : Got → Type 0
IsGot g = g ≡ got (value_of g) (rest_of g)

-- the end in n bytes of a row whose values follow others of `from` bytes, and the size of all these values
abbrev pub scan_from : ℕ → ℕ → Row → Option Span
scan_from n from (row vs r) = spanned (n - length r) (from + length (joined vs))
scan_from n from malformed = None

unfoldable pub scan_of : ℕ → List ℕ → Option Span
scan_of width t = scan_from (length t) 0 (values width t)

abbrev pub IsRow : Row → Type 0
IsRow (row vs r) = Unit {0}
IsRow malformed = ⊥

-- ---- a row without quotes

-- a quote, CR or LF, at which a line without quotes ends
unfoldable pub is_line_stop : ℕ → Bool
is_line_stop b = eqb b quote || (eqb b carriage_return || eqb b line_feed)

-- the bytes before the first quote, CR or LF
unfoldable pub line_of : List ℕ → List ℕ
line_of [] = []
line_of (b ∷ t) = pick (is_line_stop b) [] (b ∷ line_of t)

-- of bytes without quotes: how many are commas; the others; and where in these the values end, those that a comma follows, and all
unfoldable pub commas_in : List ℕ → ℕ
commas_in [] = 0
commas_in (b ∷ v) = pick (eqb b comma) 1 0 + commas_in v

unfoldable pub text_in : List ℕ → List ℕ
text_in [] = []
text_in (b ∷ v) = pick (eqb b comma) (text_in v) (b ∷ text_in v)

unfoldable pub cuts_in : ℕ → List ℕ → List ℕ
cuts_in n [] = []
cuts_in n (b ∷ v) = pick (eqb b comma) (n ∷ cuts_in n v) (cuts_in (n + 1) v)

abbrev pub marks_in : ℕ → List ℕ → List ℕ
marks_in n v = cuts_in n v ++ ((n + length (text_in v)) ∷ [])

unfoldable pub any_line_stop : List ℕ → Bool
any_line_stop [] = false
any_line_stop (b ∷ v) = is_line_stop b || any_line_stop v

-- the first p bytes were searched: they have no quote, CR or LF and k commas, and `marks`, which were `slots`, have where the values before these end,
-- if there are slots for all
pub record At (t slots marks : List ℕ) (p k : ℕ) : Type 0 where
  pub inside : p ≤ length t
  pub line : length (line_of t) ≡ p + length (line_of (drop p t))
  pub many : k ≡ commas_in (take p t)
  pub same : length marks ≡ length slots
  pub ends : k ≤ length slots → marks ≡ sets slots 0 (cuts_in 0 (take p t))

-- a quote, CR or LF is at e
abbrev pub StopAt : List ℕ → ℕ → Type 0
StopAt t e = (e < length t) × (is_line_stop (get_or t e 0) ≡ true)

-- eight bytes from i on were searched
abbrev pub WordSearched : List ℕ → ℕ → ℕ → List ℕ → List ℕ → Found → Type 0
WordSearched t i k before marks (Stop e n) = (slots : List ℕ) → At t slots before i k → At t slots marks e n × StopAt t e
WordSearched t i k before marks (Commas n) = (slots : List ℕ) → At t slots before i k → At t slots marks (i + long_bytes) n

abbrev pub LineFound : List ℕ → List ℕ → List ℕ → Found → Type 0
LineFound t slots marks (Stop e n) = At t slots marks e n × StopAt t e
LineFound t slots marks (Commas n) = Unit {0}

-- v was written at `to`, and b bytes after it are free: what is written there next makes the output that has both
abbrev pub Ahead : ℕ → List ℕ → ℕ → List ℕ → List ℕ → Type 0
Ahead b out to v o = (length o ≡ length out) × ((rest : List ℕ) → b ≤ length rest → sets o (to + length v) rest ≡ sets out to (v ++ rest))

-- ---- a quoted value

-- v put before a value
abbrev pub prefixed : List ℕ → Got → Got
prefixed v (got w r) = got (v ++ w) r
prefixed v bad = bad

-- if `write`, v was written at `to`; else nothing was
pub record Written (b : ℕ) (write : Bool) (out : List ℕ) (to : ℕ) (v o : List ℕ) : Type 0 where
  pub kept : write ≡ false → o ≡ out
  pub ahead : write ≡ true → Ahead b out to v o

-- if `write`, a value that was read was written at `to`; else nothing was. Where no value was read, the output has any bytes, as many as before
pub record Filled (b : ℕ) (write : Bool) (out : List ℕ) (to : ℕ) (g : Got) (o : List ℕ) : Type 0 where
  pub kept : write ≡ false → o ≡ out
  pub same : length o ≡ length out
  pub ahead : write ≡ true → IsGot g → Ahead b out to (value_of g) o

-- the output is long enough for all of t, and b bytes more
abbrev pub Ample : ℕ → List ℕ → List ℕ → Type 0
Ample b t out = length t + b ≤ length out

-- g is a value, and it fits, with b bytes after it
abbrev pub Fitting : ℕ → List ℕ → ℕ → Got → Type 0
Fitting b out to g = IsGot g × (to + length (value_of g) + b ≤ length out)

-- if `write`, the value after the opening quote fits, with b bytes after it, or all of t does, which is enough as `to` is at most `from`
abbrev pub Room : ℕ → Bool → List ℕ → ℕ → List ℕ → ℕ → Type 0
Room b write t from out to = write ≡ true → Fitting b out to (inner (drop from t)) ⊎ Ample b t out

-- the same of any value
abbrev pub FieldRoom : ℕ → Bool → List ℕ → ℕ → List ℕ → ℕ → Type 0
FieldRoom b write t from out to = write ≡ true → Fitting b out to (field_at (drop from t)) ⊎ Ample b t out

-- the same of a row and its ends
abbrev pub RowRoom : ℕ → Bool → List ℕ → ℕ → List ℕ → List ℕ → Type 0
RowRoom b write t width out ends =
    write ≡ true → ((IsRow (values width t) × (length (joined (values_of (values width t))) + b ≤ length out)) ⊎ Ample b t out) × (width ≤ length ends)

-- if `write`, the values of a row and their ends were written; else nothing was. Where there is no row, the outputs have any content, as long as before
pub record RowWritten (b : ℕ) (write : Bool) (t : List ℕ) (width : ℕ) (out ends o s : List ℕ) : Type 0 where
  pub kept : write ≡ false → (o ≡ out) × (s ≡ ends)
  pub same : length o ≡ length out
  pub alike : length s ≡ length ends
  pub ahead : write ≡ true → IsRow (values width t) → Ahead b out 0 (joined (values_of (values width t))) o × (s ≡ sets ends 0 (ends_of 0 (values_of (values width t))))

-- the word at i is searched, from p on: m has the marks of its quotes from there on
pub record Grid (t : List ℕ) (i p m : ℕ) : Type 0 where
  pub low : i ≤ p
  pub high : p ≤ i + long_bytes
  pub inside : i + long_bytes ≤ length t
  pub quotes : m ≡ little (since (p - i) (marks is_quote (take long_bytes (drop i t))))

-- the value goes on after some bytes of it, and another word is searched next; or it ends after them, at a quote
abbrev pub Turned : List ℕ → ℕ → ℕ → Turn → Type 0
Turned t i p (On copied next j m) =
    (copied ≤ long_bytes) × (inner (drop p t) ≡ prefixed (take copied (drop p t)) (inner (drop next t))) × (p + copied ≤ next) × (next ≤ length t) × (i + p < j + next) × Grid t j next m
Turned t i p (Closed copied q) = (copied ≤ long_bytes) × (inner (drop p t) ≡ got (take copied (drop p t)) (drop (q + 1) t)) × (p + copied ≤ q) × (q < length t)

-- a part of the value was read, up to p, and written
pub record Unquoting (b : ℕ) (write : Bool) (t : List ℕ) (from : ℕ) (out : List ℕ) (to : ℕ) (o : List ℕ) (p n : ℕ) : Type 0 where
  pub value : List ℕ
  pub on : inner (drop from t) ≡ prefixed value (inner (drop p t))
  pub upto : n ≡ to + length value
  pub grows : from + length value ≤ p
  pub inside : p ≤ length t
  pub written : Written b write out to value o

-- a value that was read from an offset on is inside t
abbrev pub Inside : List ℕ → ℕ → Option Span → Type 0
Inside t from (Some v) = (from + v.size ≤ v.next) × (v.next ≤ length t)
Inside t from None = Unit {0}

-- the value was read by marks: all of it, or a part
abbrev pub ReadByMarks : Bool → List ℕ → ℕ → List ℕ → ℕ → List ℕ → ByMarks → Type 0
ReadByMarks write t from out to o (Whole v) = (Some v ≡ piece_of (length t) (inner (drop from t))) × Filled block_size write out to (inner (drop from t)) o
ReadByMarks write t from out to o (Part v) = Unquoting block_size write t from out to o v.next (to + v.size)

-- the values of a row from an offset on, with k values before it, were put into out after `to` bytes, and their ends into `ends`
pub record Holds (t : List ℕ) (from to k width : ℕ) (out ends o s : List ℕ) (next size : ℕ) : Type 0 where
  pub values : List (List ℕ)
  pub read : Record (drop from t) values (drop next t)
  pub many : k + length values ≡ width
  pub sized : size ≡ to + length (joined values)
  pub inside : next ≤ length t
  pub fits : size ≤ length out
  pub slots : width ≤ length ends
  pub bytes : o ≡ sets out to (joined values)
  pub marks : s ≡ sets ends k (ends_of to values)

-- a fast path: the row was read, or nothing was written
abbrev pub Quickly : List ℕ → ℕ → List ℕ → List ℕ → List ℕ → List ℕ → Option Span → Type 0
Quickly t width out ends o s (Some r) = Holds t 0 0 0 width out ends o s r.next r.size
Quickly t width out ends o s None = (o ≡ out) × (s ≡ ends)
