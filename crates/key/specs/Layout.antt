-- The bytes of a key, and when a key is refused.
use Rattle.std.specs.Prelude.{Bool, true, false, List, [], ◌∷◌, ◌++◌, ℕ, zero, suc, ◌/◌, ◌%◌, ◌*◌, length, get_or, leb, Ok, Err, Result}
use Rattle.base.specs.Number.{pick, byte_values}
use Rattle.leaf.specs.Bytes.{written}
use Rattle.refusal.specs.declared.Refusal.TheVariants.{Argument, Identity, Small}
use Rattle.key.specs.Order.{Text, Pick, field_count}
use Rattle.key.specs.Picks.{text, count, passed_picks, distinct}
use Rattle.refusal.specs.declared.Refusal.{Refusal}

-- ---- the bytes

-- the bytes of every element, joined
unfoldable pub joined : {A : Type 0} → (A → List ℕ) → List A → List ℕ
joined bytes_of [] = []
joined bytes_of (x ∷ xs) = bytes_of x ++ joined bytes_of xs

-- a field: a length byte, then the text
abbrev pub field : Text → List ℕ
field t = length t % byte_values ∷ t

-- a pick: its five fields
abbrev pub entry : Pick → List ℕ
entry p = joined field p

-- the first byte of a key that has an identity, and how many bytes are before it
abbrev pub identity_mark : ℕ
identity_mark = 255

abbrev pub prefix_size : ℕ
prefix_size = 3

-- "255, a 16-bit length, the bytes"; an empty identity writes nothing
unfoldable pub prefix : Text → List ℕ
prefix [] = []
prefix (b ∷ bs) = identity_mark ∷ length (b ∷ bs) % byte_values ∷ length (b ∷ bs) / byte_values % byte_values ∷ b ∷ bs

-- "one byte, how many distinct picks", and these
abbrev pub body : List Pick → List ℕ
body s = length s % byte_values ∷ joined entry s

-- the key of an identity and a list of picks
unfoldable pub key_of : Text → List Pick → List ℕ
key_of identity ps = prefix identity ++ body (distinct ps)

-- ---- the limits

-- the most picks that may be passed, equal ones counted too
abbrev pub max_picks : ℕ
max_picks = 16

-- the most bytes of an identity
abbrev pub max_identity : ℕ
max_identity = 65535

-- the longest key (specs/Claims.antt: NoKeyIsLonger, LongestIsReached)
abbrev pub longest_key : ℕ
longest_key = 67795

-- the most bytes of each field: line, route, stop code, stop, stop name
abbrev pub sizes : List ℕ
sizes = 8 ∷ 32 ∷ 16 ∷ 32 ∷ 64 ∷ []

-- the most bytes of a pick in a key: with a code, whose size is the smaller, the name is empty
abbrev pub longest_entry : ℕ
longest_entry = 141

-- the test holds of 0, 1, .., n - 1
unfoldable pub every : ℕ → (ℕ → Bool) → Bool
every zero test = true
every (suc n) test = pick (every n test) (test n) false

-- text k is within its size
abbrev pub sized : (ℕ → Text) → ℕ → Bool
sized t k = leb (length (t k)) (get_or sizes (k % field_count) 0)

-- at most 16 picks, and each text within its size, also a stop name that is left out for a code
unfoldable pub fit : Text → List ℕ → Bool
fit bytes lengths = pick (leb (count lengths) max_picks) (every (count lengths * field_count) (sized (text bytes lengths))) false

-- ---- the call `key`

-- the key's length if the output has the capacity for it, else 9
unfoldable pub within : ℕ → List ℕ → Result ℕ Refusal
within capacity key = pick (leb (length key) capacity) (Ok (length key)) (Err Small)

-- the answer: 2, then 8, then 9, else how many bytes are written
unfoldable pub key_answer : Text → Text → List ℕ → ℕ → Result ℕ Refusal
key_answer identity bytes lengths capacity =
    pick (fit bytes lengths)
    (pick (leb (length identity) max_identity) (within capacity (key_of identity (passed_picks bytes lengths))) (Err Identity))
    (Err Argument)

-- the output after the call: the key at its start, the bytes after it unchanged; on a refusal all unchanged
abbrev pub after : Result ℕ Refusal → List ℕ → List ℕ → List ℕ
after (Ok n) key out = written out 0 key
after (Err r) key out = out
