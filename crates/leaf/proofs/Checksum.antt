-- The laws of CRC-32 that other crates cite. They hold since the CRC is the shift register started from the complement and complemented
-- again (Shift.antt), and a register runs over joined bytes as over the parts.
use Rattle.std.proofs.Common.{◌≡◌, ℕ, zero, suc, ◌-◌, ◌%◌, ◌^◌, ◌<◌, Bool, true, false, not, List, [], ◌∷◌, ◌++◌, length, replicate, sym, refl, ap, ◌∙◌, ap₂, mod-eq_of_lt, arith, lit<}
use Rattle.checksum.specs.Register.{run, steps, step}
use Rattle.checksum.proofs.Steps.{run-append, run-lt}
use Rattle.leaf.specs.Polynomial.{plus, add, remainder, quotient, Division}
use Rattle.leaf.specs.CrcParts.{with_crc_zero}
use Rattle.leaf.specs.Crc.{bits, frame, shifted, complement_first, complemented_remainder, fcs, crc32}
use Rattle.leaf.proofs.Remainder.{division, add-nil, length-add}
use Rattle.leaf.proofs.Shift.{crc32-run, shifted-length}

-- the register that `start` means
begun : ℕ → ℕ
begun start = (2 ^ 32 - 1) - start % 2 ^ 32

begun-lt : (start : ℕ) → begun start < 2 ^ 32
unfolding begun
begun-lt start = omega arith

-- a CRC fits in 32 bits
pub crc32-lt : (start : ℕ) (s : List ℕ) → crc32 start s < 2 ^ 32
crc32-lt start s = omega (arith, crc32-run start s)

-- the CRC of two parts, one after the other, is that of them joined
pub crc32-append : (start : ℕ) (s t : List ℕ) → crc32 (crc32 start s) t ≡ crc32 start (s ++ t)
unfolding begun
crc32-append start s t =
    let r : ℕ = run (begun start) s in
    let e : crc32 start s ≡ (2 ^ 32 - 1) - r = crc32-run start s in
    let l : r < 2 ^ 32 = run-lt s (begun start) (begun-lt start) in
    let m : crc32 start s % 2 ^ 32 ≡ crc32 start s = mod-eq_of_lt (crc32-lt start s) in
    let b : (2 ^ 32 - 1) - crc32 start s % 2 ^ 32 ≡ r = omega arith in
    crc32-run (crc32 start s) t
    ∙ ap (λ (x : ℕ). (2 ^ 32 - 1) - run x t) b
    ∙ ap (λ (x : ℕ). (2 ^ 32 - 1) - x) (sym (run-append (begun start) s t))
    ∙ sym (crc32-run start (s ++ t))

-- no bytes change nothing
pub crc32-nil : (start : ℕ) → start < 2 ^ 32 → crc32 start [] ≡ start
unfolding run
crc32-nil start h =
    let m : start % 2 ^ 32 ≡ start = mod-eq_of_lt h in
    omega (arith, crc32-run start [])

-- an empty part changes nothing, wherever it is
pub empty-before : (start : ℕ) (s : List ℕ) → crc32 (crc32 start []) s ≡ crc32 start s
empty-before start s = crc32-append start [] s

pub empty-between : (start : ℕ) (s t : List ℕ) → crc32 (crc32 (crc32 start s) []) t ≡ crc32 start (s ++ t)
empty-between start s t = empty-before (crc32 start s) t ∙ crc32-append start s t

pub empty-after : (start : ℕ) (s : List ℕ) → crc32 (crc32 start s) [] ≡ crc32 start s
empty-after start s = crc32-nil (crc32 start s) (crc32-lt start s)

pub crc32-none : crc32 0 [] ≡ 0
crc32-none = crc32-nil 0 (lit< tt)

-- bytes that have the CRC 0: the register is all ones after them, as before the first byte
pub crc32-zero : crc32 0 with_crc_zero ≡ 0
unfolding run steps step
crc32-zero = crc32-run 0 with_crc_zero

pub after-zero : (s : List ℕ) → crc32 0 (with_crc_zero ++ s) ≡ crc32 0 s
after-zero s = sym (crc32-append 0 with_crc_zero s) ∙ ap (λ (start : ℕ). crc32 start s) crc32-zero

plus-true : (a : Bool) → plus a true ≡ not a
unfolding plus
plus-true true = refl
plus-true false = refl

complement-add : (n : ℕ) (p : List Bool) → add p (replicate n true) ≡ complement_first n p
unfolding add complement_first
complement-add zero p = add-nil p
complement-add (suc n) [] = refl
complement-add (suc n) (a ∷ p) = ap₂ (λ (x : Bool) (l : List Bool). x ∷ l) (plus-true a) (complement-add n p)

-- started from 0 it is the standard's CRC of a frame
pub crc32-fcs : (s : List ℕ) → crc32 0 s ≡ fcs s
unfolding crc32 fcs bits
crc32-fcs s = ap (complemented_remainder s) (complement-add 32 (shifted s))

-- which is the complement of a division's remainder by the generator
pub fcs-division : (s : List ℕ)
    → Division (complement_first 32 (shifted s)) (quotient (length (frame s)) (complement_first 32 (shifted s))) (remainder (length (frame s)) (complement_first 32 (shifted s)))
fcs-division s =
    division (length (frame s)) (complement_first 32 (shifted s))
    (ap length (sym (complement-add 32 (shifted s))) ∙ length-add (shifted s) (replicate 32 true) ∙ shifted-length 0 s)
