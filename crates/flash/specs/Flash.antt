-- The flash model: an erase sets a 4,096-byte sector to 255; a write clears bits only; an operation
-- that is cut has done its first bytes and no others.
use Rattle.std.specs.Prelude.{Bool, ◌&&◌, List, [], ◌∷◌, ◌++◌, ℕ, zero, suc, ◌+◌, ◌*◌, min, leb, eqb, take, drop, length}
use Rattle.std.specs.Int.Bits.{bit_and}
use Rattle.base.specs.Number.{pick}
use Rattle.region.specs.Region.{region_size, bank_size, sector_size, last_bank, erased_byte, bank_of}

-- An operation on a bank: the erase of the sector at an offset, or a write of bytes at an offset. Offsets count from the bank's start.
pub data Op : Type 0 where
  erase : ℕ → Op
  write : ℕ → List ℕ → Op

-- the first n bytes of b become 255
unfoldable pub blank : ℕ → List ℕ → List ℕ
blank zero b = b
blank (suc n) [] = []
blank (suc n) (x ∷ b) = erased_byte ∷ blank n b

-- ws written over the first bytes of b: a bit is 1 afterwards only if it is 1 in both
unfoldable pub clear : List ℕ → List ℕ → List ℕ
clear [] b = b
clear (w ∷ ws) [] = []
clear (w ∷ ws) (x ∷ b) = bit_and x w ∷ clear ws b

-- an operation's offset, and how many bytes it changes
abbrev pub offset : Op → ℕ
offset (erase at) = at
offset (write at ws) = at

abbrev pub size : Op → ℕ
size (erase at) = sector_size
size (write at ws) = length ws

-- the bank once the operation's first j bytes are done; with all of them the operation is done
unfoldable pub done : ℕ → Op → List ℕ → List ℕ
done j (erase at) b = take at b ++ blank (min j sector_size) (drop at b)
done j (write at ws) b = take at b ++ clear (take j ws) (drop at b)

-- the region with b as its bank n
unfoldable pub with_bank : List ℕ → ℕ → List ℕ → List ℕ
with_bank region n b = take (n * bank_size) region ++ (b ++ drop (n * bank_size + bank_size) region)

-- E5: a cut write leaves "a first part of its bytes written", a cut erase "a first part of its sector erased, the rest untouched". The
-- region once an operation on bank n has done its first j bytes; if j is its size or more, the whole operation.
unfoldable pub torn : ℕ → ℕ → Op → List ℕ → List ℕ
torn n j op region = with_bank region n (done j op (bank_of region n))

-- the region after an operation on bank n, whole
unfoldable pub applied : ℕ → Op → List ℕ → List ℕ
applied n op region = torn n (size op) op region

-- the region after operations on bank n, one after the other
unfoldable pub performed : ℕ → List Op → List ℕ → List ℕ
performed n [] region = region
performed n (op ∷ ops) region = performed n ops (applied n op region)

-- the region has its size, n is 0 or 1, and the operation is inside the bank
abbrev pub within : ℕ → ℕ → ℕ → ℕ → Bool
within len n at count = eqb len region_size && (leb n last_bank && leb (at + count) bank_size)

abbrev pub fits : List ℕ → ℕ → Op → Bool
fits region n op = within (length region) n (offset op) (size op)

-- the region after a call that does an operation on bank n; one that doesn't fit changes nothing
unfoldable pub after : ℕ → Op → List ℕ → List ℕ
after n op region = pick (fits region n op) (applied n op region) region

abbrev pub erased_in : List ℕ → ℕ → ℕ → List ℕ
erased_in region n at = after n (erase at) region

abbrev pub written_in : List ℕ → ℕ → ℕ → List ℕ → List ℕ
written_in region n at ws = after n (write at ws) region
