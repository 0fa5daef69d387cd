-- The header CRC of the parts joined is that of the bank's bytes with 40 to 47 set to zero, since these are the front, eight zeros and the
-- records; and it is that of the parts fed one after the other (`crc32-append`).
use mathlib.Core.Path.{◌≡◌, ◌∙◌, sym, ap}
use mathlib.Core.List.{List, ◌++◌, append_assoc}
use Prim.Native.Nat.{ℕ, ◌+◌, ◌*◌, ◌≤◌}
use native.Mathlib.Omega.{arith}
use lib.Dec.{eqb}
use lib.ListN.{length, take, drop, length-append}
use lib.Seq.{sets, sets-eq, length-take-le, take-append-add}
use Rattle.base.specs.Lists.{fill}
use Rattle.base.proofs.Lists.{length-fill}
use Rattle.leaf.specs.Bytes.{word}
use Rattle.leaf.specs.Crc.{crc32}
use Rattle.leaf.proofs.Checksum.{crc32-append}
use Rattle.record.specs.Record.{source_size}
use Rattle.header.specs.Header.{seal_size, seal_of, header_crc, sealed}
use Rattle.header.specs.Claims.{SealedAs, SealInParts}

take_past : (p q : List ℕ) (m n : ℕ) → length p ≡ m → take (m + n) (p ++ q) ≡ p ++ take n q
take_past p q m n e = rw (← e) (take-append-add p q n)

zeroed : (l : List ℕ) (size : ℕ) → 48 ≤ length l → header_crc l size ≡ crc32 0 (take (48 + size * 3) (sets l 40 (fill 0 8)))
unfolding header_crc seal_of
zeroed l size h =
    let a : List ℕ = take 40 l in
    let z : List ℕ = fill 0 8 in
    let d : List ℕ = drop 48 l in
    let n : ℕ = size * 3 in
    let lz : length z ≡ 8 = length-fill {A = ℕ} 0 8 in
    let la : length a ≡ 40 = length-take-le 40 l (omega (arith, h)) in
    let q : length (a ++ z) ≡ 48 = length-append a z ∙ omega (arith, la, lz) in
    let e : sets l 40 z ≡ (a ++ z) ++ d = sets-eq z l 40 (omega (arith, lz, h)) ∙ ap (λ (k : ℕ). (a ++ z) ++ drop (40 + k) l) lz in
    let t : take (48 + n) (sets l 40 z) ≡ a ++ (z ++ take n d) = ap (take (48 + n)) e ∙ take_past (a ++ z) d 48 n q ∙ append_assoc a z (take n d) in
    ap (crc32 0) (sym t)

pub sealed-as : (version size : ℕ) → source_size version ≡ size → SealedAs version size
unfolding sealed
sealed-as version size s l e h = rw (e, s) (ap (eqb (word l 40)) (zeroed l size h))

pub seal-in-parts : SealInParts
unfolding seal_of
seal-in-parts front records =
    sym (crc32-append (crc32 0 front) (fill 0 seal_size) records ∙ crc32-append 0 front (fill 0 seal_size ++ records))
