-- Two's complement as the code computes it equals that of the definitions, and so do the code's tests of signs. Each is by cases: below
-- half of the range, or from half on.
use Rattle.std.proofs.Common.{◌≡◌, ℕ, suc, ◌-◌, ◌%◌, ◌^◌, ◌<◌, Bool, true, false, ◌&&◌, ltb, ℤ, pos, negsuc, ◌/◌, ◌++◌, refl, ap, arith, w32, w64, to_z, of_z}
use mathlib.Core.Bool.{and-true, and-false}
use lib.Signed.{lt_z}
use mir.Val.{sel}
use mir.ValLaws.{of_z-to_z}
use Rattle.std.specs.Int.{to_le_bytes}
use Rattle.leaf.specs.Bytes.{le32, le64}
use Rattle.base.specs.Number.{pick, signed, unsigned}

pick-sel : (t : Bool) (a b : ℤ) → sel t a b ≡ pick t a b
pick-sel true a b = refl
pick-sel false a b = refl

-- the machine's reading of 64 bits is the definition's
pub signed_is : (x : ℕ) → to_z w64 x ≡ signed 64 x
signed_is x = pick-sel (ltb x 9223372036854775808) (pos x) (negsuc (18446744073709551616 - suc x))

pub bits_is : (z : ℤ) → of_z w64 z ≡ unsigned 64 z
bits_is (pos n) = refl
bits_is (negsuc n) = refl

-- a number read from 64 bits is held as those bits
pub kept : (x : ℕ) → x < 2 ^ 64 → to_z w64 (of_z w64 (signed 64 x)) ≡ signed 64 x
kept x h = rw (← signed_is x) (ap (to_z w64) (of_z-to_z w64 x (record { fits = h })))

pub signed32_is : (x : ℕ) → to_z w32 x ≡ signed 32 x
signed32_is x = pick-sel (ltb x 2147483648) (pos x) (negsuc (4294967296 - suc x))

-- the same of 32 bits
pub kept32 : (x : ℕ) → x < 2 ^ 32 → to_z w32 (of_z w32 (signed 32 x)) ≡ signed 32 x
kept32 x h = rw (← signed32_is x) (ap (to_z w32) (of_z-to_z w32 x (record { fits = h })))

-- a distance, read as signed, is above zero if it is neither zero nor from half of the range on
positive-by : (d : ℕ) (t : Bool) → ltb d 2147483648 ≡ t → (ltb 0 d && t) ≡ lt_z (pos 0) (pick t (pos d) (negsuc (4294967296 - suc d)))
positive-by d true e = and-true (ltb 0 d)
positive-by d false e = and-false (ltb 0 d)

pub positive : (d : ℕ) → (ltb 0 d && ltb d 2147483648) ≡ lt_z (pos 0) (signed 32 d)
positive d = positive-by d (ltb d 2147483648) refl

-- the eight bytes of a number are those of its halves
halves : (n : ℕ) → le32 (n % 4294967296) ++ le32 (n / 4294967296) ≡ to_le_bytes w64 n
unfolding le32
halves n =
    let e0 : n % 4294967296 % 256 ≡ n % 256 = omega arith in
    let e1 : n % 4294967296 / 256 % 256 ≡ n / 256 % 256 = omega arith in
    let e2 : n % 4294967296 / 65536 % 256 ≡ n / 65536 % 256 = omega arith in
    let e3 : n % 4294967296 / 16777216 % 256 ≡ n / 16777216 % 256 = omega arith in
    let e5 : n / 4294967296 / 256 % 256 ≡ n / 1099511627776 % 256 = omega arith in
    let e6 : n / 4294967296 / 65536 % 256 ≡ n / 281474976710656 % 256 = omega arith in
    let e7 : n / 4294967296 / 16777216 % 256 ≡ n / 72057594037927936 % 256 = omega arith in
    cc

pub le64-is : (z : ℤ) → le64 z ≡ to_le_bytes w64 (of_z w64 z)
unfolding le64
le64-is z = rw (bits_is z) (halves (unsigned 64 z))
