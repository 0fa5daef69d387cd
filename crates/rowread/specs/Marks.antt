-- Marks on eight bytes: which of them are delimiters, as one number.
use Rattle.std.specs.Prelude.{ℕ, zero, suc, ◌<◌, Bool, ◌||◌, ◌≡◌, List, [], ◌∷◌, eqb, length, get_or}
use Rattle.base.specs.Little.{little, long_bytes}
use Rattle.base.specs.Number.{pick, byte_values}
use Rattle.rfc4180.specs.Csv.{quote, comma, carriage_return, line_feed}

abbrev pub is_quote : ℕ → Bool
is_quote b = eqb b quote

abbrev pub is_delimiter : ℕ → Bool
is_delimiter b = eqb b quote || (eqb b comma || (eqb b carriage_return || eqb b line_feed))

-- the highest bit of a byte, by which it is marked
abbrev pub high_bit : ℕ
high_bit = 128

-- the mark of a byte
abbrev pub mark : Bool → ℕ
mark q = pick q high_bit 0

-- the marks of some bytes
unfoldable pub marks : (ℕ → Bool) → List ℕ → List ℕ
marks q [] = []
marks q (b ∷ bs) = mark (q b) ∷ marks q bs

-- eight marks, each there or not
pub data AreMarks : List ℕ → Type 0 where
  none : AreMarks []
  more : (q : Bool) {ms : List ℕ} → AreMarks ms → AreMarks (mark q ∷ ms)

pub record Marks (ms : List ℕ) : Type 0 where
  pub eight : length ms ≡ long_bytes
  pub each : AreMarks ms

-- the index of the first mark, the length if there is none
unfoldable pub first_mark : List ℕ → ℕ
first_mark [] = 0
first_mark (m ∷ ms) = pick (eqb m 0) (suc (first_mark ms)) 0

-- the marks without the first
unfoldable pub cleared : List ℕ → List ℕ
cleared [] = []
cleared (m ∷ ms) = pick (eqb m 0) (m ∷ cleared ms) (0 ∷ ms)

-- the marks from an index on
unfoldable pub since : ℕ → List ℕ → List ℕ
since zero ms = ms
since (suc d) [] = []
since (suc d) (m ∷ ms) = 0 ∷ since d ms

-- a list of bytes
abbrev pub Bytes : List ℕ → Type 0
Bytes l = (k : ℕ) → get_or l k 0 < byte_values

-- m is eight marks
abbrev pub HasMarks : ℕ → Type 0
HasMarks m = (ms : List ℕ) × Marks ms × (m ≡ little ms)

-- r has the marks of the bytes of w; the index of the first mark of m; the marks of m without the first
abbrev pub MarksOf : (ℕ → Bool) → ℕ → ℕ → Type 0
MarksOf q w r = (bs : List ℕ) → length bs ≡ long_bytes → Bytes bs → w ≡ little bs → r ≡ little (marks q bs)

abbrev pub FirstOf : ℕ → ℕ → Type 0
FirstOf m r = (ms : List ℕ) → Marks ms → m ≡ little ms → r ≡ first_mark ms

abbrev pub ClearedOf : ℕ → ℕ → Type 0
ClearedOf m r = (ms : List ℕ) → Marks ms → m ≡ little ms → r ≡ little (cleared ms)
