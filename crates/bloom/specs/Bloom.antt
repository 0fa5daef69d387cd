-- The trip filter: 01, "cache.rs, bloom". The filter is a list of bytes.
use Rattle.std.specs.Prelude.{ℕ, ◌+◌, ◌*◌, ◌/◌, ◌%◌, ◌^◌, Bool, true, ◌&&◌, List, [], ◌∷◌, length, ◌==◌, bit_or, nat_le, slice_set, Ok, Err, Result}
use Rattle.base.specs.Number.{pick, byte_bits, rotation, wrap32, rotate_left32}
use Rattle.base.specs.Lists.{byte}
use Rattle.leaf.specs.Crc.{crc32}
use Rattle.refusal.specs.declared.Refusal.TheVariants.{Argument}
use Rattle.refusal.specs.declared.Refusal.{Refusal}

-- the most bytes of a filter
abbrev pub max_filter : ℕ
max_filter = 65536

-- how many bits a trip id sets
abbrev pub position_count : ℕ
position_count = 4

-- "The hash is the CRC-32 of the trip id."
abbrev pub hash_of : List ℕ → ℕ
hash_of id = crc32 0 id

-- "step is the hash rotated left 13, low bit set"
unfoldable pub step_of : ℕ → ℕ
step_of hash = bit_or (rotate_left32 rotation hash) 1

-- "Wrapping 32-bit sums; position i (0 to 3) is hash + i × step, modulo eight times the filter's bytes"
unfoldable pub position : ℕ → ℕ → ℕ → ℕ
position hash bytes i = wrap32 (hash + i * step_of hash) % (byte_bits * bytes)

-- positions 0 to 3, in order
abbrev pub positions : ℕ → ℕ → List ℕ
positions hash bytes = position hash bytes 0 ∷ position hash bytes 1 ∷ position hash bytes 2 ∷ position hash bytes 3 ∷ []

-- "Position p is bit p modulo 8, counted from the lowest, of byte p / 8": whether it is set
unfoldable pub is_set : List ℕ → ℕ → Bool
is_set bits p = byte bits (p / byte_bits) / 2 ^ (p % byte_bits) % 2 == 1

-- the filter with that bit set, and all else as before
unfoldable pub set_bit : List ℕ → ℕ → List ℕ
set_bit bits p = slice_set bits (p / byte_bits) (bit_or (byte bits (p / byte_bits)) (2 ^ (p % byte_bits)))

-- whether the bit at each of the positions is set
unfoldable pub all_set : List ℕ → List ℕ → Bool
all_set bits [] = true
all_set bits (p ∷ ps) = is_set bits p && all_set bits ps

-- "On insertion each bit is read before it is set, position by position": whether each was set when it was read,
unfoldable pub seen : List ℕ → List ℕ → Bool
seen bits [] = true
seen bits (p ∷ ps) = is_set bits p && seen (set_bit bits p) ps

-- and the filter when all are set
unfoldable pub set_all : List ℕ → List ℕ → List ℕ
set_all bits [] = bits
set_all bits (p ∷ ps) = set_all (set_bit bits p) ps

-- refusal 2: "filter of 0 or over 65,536 bytes"
abbrev pub fits : ℕ → Bool
fits bytes = nat_le 1 bytes && nat_le bytes max_filter

-- the four positions of a trip id in a filter
abbrev pub positions_of : List ℕ → List ℕ → List ℕ
positions_of bits id = positions (hash_of id) (length bits)

-- what a query answers
unfoldable pub query : List ℕ → List ℕ → Result Bool Refusal
query bits id = pick (fits (length bits)) (Ok (all_set bits (positions_of bits id))) (Err Argument)

-- what an insertion answers, and the filter that it leaves
unfoldable pub insert_answer : List ℕ → List ℕ → Result Bool Refusal
insert_answer bits id = pick (fits (length bits)) (Ok (seen bits (positions_of bits id))) (Err Argument)

unfoldable pub inserted : List ℕ → List ℕ → List ℕ
inserted bits id = pick (fits (length bits)) (set_all bits (positions_of bits id)) bits
