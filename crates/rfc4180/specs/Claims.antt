-- What is proved of the grammar, the writing and the reading (proofs/Grammar.antt, proofs/Frame.antt, proofs/Ends.antt, proofs/Sizes.antt).
use Rattle.std.specs.Prelude.{ℕ, ◌+◌, ◌-◌, ◌≤◌, ◌≡◌, List, [], ◌∷◌, ◌++◌, length, take, drop, get_or, not}
use Rattle.rfc4180.specs.Csv.{Record, LoneCr, is_text, carriage_return, line_feed}
use Rattle.rfc4180.specs.Write.{special, row_of, fields_then}
use Rattle.rfc4180.specs.Read.{row, malformed, values}

-- bytes, a value, or what follows it
abbrev Text : Type 0
Text = List ℕ

-- the last byte, 0 if there is none
unfoldable pub last_of : Text → ℕ
last_of [] = 0
last_of (b ∷ []) = b
last_of (b ∷ c ∷ bs) = last_of (c ∷ bs)

pub record Claims : Type 0 where
  -- what is written is in the grammar, whatever follows it
  pub written : (v : Text) (vs : List Text) (rest : Text) → Record (row_of (v ∷ vs) ++ rest) (v ∷ vs) rest
  -- what is read is in the grammar
  pub sound : (n : ℕ) (bs : Text) (vs : List Text) (rest : Text) → values n bs ≡ row vs rest → Record bs vs rest × (length vs ≡ n)
  -- all that is in the grammar is read
  pub complete : (bs rest : Text) (vs : List Text) → Record bs vs rest → values (length vs) bs ≡ row vs rest
  -- reading what was written gives back the values, for any values and whatever follows
  pub reads_back : (v : Text) (vs : List Text) (rest : Text) → values (length (v ∷ vs)) (row_of (v ∷ vs) ++ rest) ≡ row (v ∷ vs) rest
  -- the grammar is unambiguous: what reads as a row has one reading
  pub one_reading : (bs r s : Text) (vs ws : List Text) → Record bs vs r → Record bs ws s → (vs ≡ ws) × (r ≡ s)
  -- a row of at most n bytes is a row of the first n bytes; and a row of the first n bytes is a row of them all
  pub in_front : (n : ℕ) (bs r : Text) (vs : List Text) → Record bs vs r → length bs - length r ≤ n → (s : Text) × Record (take n bs) vs s
  pub of_all : (n : ℕ) (bs s : Text) (vs : List Text) → Record (take n bs) vs s → Record bs vs (s ++ drop n bs)
  -- 02, E4: a row that ends in CRLF reads as its values, and what follows both bytes is what follows the row
  pub reads_crlf : (v : Text) (vs : List Text) (rest : Text) → values (length (v ∷ vs)) (fields_then (carriage_return ∷ line_feed ∷ rest) (v ∷ vs)) ≡ row (v ∷ vs) rest
  -- 02, E4: "take CRLF outside quotes as one row end, beside LF": if bytes with an LF after them are a row, they are the same row with a CRLF after
  -- them, however their values are quoted; and the reverse. (Bytes that end in CR are left out: with an LF they end in CRLF already.)
  pub lf_to_crlf : (n : ℕ) (bs : Text) (vs : List Text) (rest : Text) → (last_of bs ≡ carriage_return → ⊥) → values n (bs ++ (line_feed ∷ rest)) ≡ row vs rest
      → values n (bs ++ (carriage_return ∷ line_feed ∷ rest)) ≡ row vs rest
  pub crlf_to_lf : (n : ℕ) (bs : Text) (vs : List Text) (rest : Text) → values n (bs ++ (carriage_return ∷ line_feed ∷ rest)) ≡ row vs rest → values n (bs ++ (line_feed ∷ rest)) ≡ row vs rest
  -- in numbers: `a`, comma, `""`, CR, LF, and a byte after them, reads as `a` and an empty value
  pub in_numbers : values 2 (97 ∷ 44 ∷ 34 ∷ 34 ∷ 13 ∷ 10 ∷ 120 ∷ []) ≡ row ((97 ∷ []) ∷ [] ∷ []) (120 ∷ [])
  -- 02, E4: "A CR outside quotes without an LF after it is malformed", whatever number of values is asked for
  pub lone_cr : (n : ℕ) (bs : Text) → LoneCr bs → values n bs ≡ malformed
  -- there are such bytes: whatever the values are, and whatever follows the CR, if it doesn't begin with LF
  pub lone_crs : (v : Text) (vs : List Text) (rest : Text) → (get_or rest 0 0 ≡ line_feed → ⊥) → LoneCr (fields_then (carriage_return ∷ rest) (v ∷ vs))
  -- whatever reads as a row, written afresh, has at most as many bytes as it took
  pub not_longer : (n : ℕ) (bs : Text) (vs : List Text) (rest : Text) → values n bs ≡ row vs rest → length (row_of vs) + length rest ≤ length bs
  -- the bytes of a field without quotes are those for which the writer puts none
  pub text_unquoted : (b : ℕ) → is_text b ≡ not (special b)
