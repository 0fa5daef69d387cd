-- A word of 64 bits can be folded into the words after it: 64 + k steps of the register on it do the same as k steps on what is added to
-- those words. It holds since the exponents of each fold add up to a multiple of the generator (Multiple.antt) and the register is linear
-- (Steps.antt).
use mathlib.Core.Path.{◌≡◌, refl, sym, ap, ap₂, ◌∙◌}
use mathlib.Core.List.{List, [], ◌∷◌, map}
use Prim.Native.Nat.{ℕ, ◌+◌, ◌-◌, ◌*◌, ◌/◌, ◌%◌, ◌^◌, ◌<◌, ◌≤◌}
use native.Mathlib.Nat.{mod-lt, add_comm, add_assoc, zero-add, mul-div-mul_right, lt_of_le_of_lt}
use native.Mathlib.Omega.{arith}
use lib.Pow.{pow_pos, pow-add, high, low, shr_le}
use lib.Bits.{bit_xor, xor_comm, xor_zero_r, xor_shifted, xor_block, xor_lt}
use lib.ListN.{length, take, drop, get_or, length-drop, take-append-drop}
use lib.Seq.{length-take-le, drop-drop, drop-cons}
use native.Mathlib.Numerals.{add-one}
use Rattle.base.specs.Little.{little}
use Rattle.checksum.specs.Register.{step, steps, run}
use Rattle.checksum.specs.Pending.{three, five}
use Rattle.checksum.proofs.Xor.{xor_assoc, xor-four}
use Rattle.base.proofs.Little.{little-append, part-lt}
use Rattle.checksum.proofs.Steps.{steps-xor, steps-add, steps-shift, steps-split, run-steps}
use Rattle.checksum.proofs.Sum.{term, plus, same, xors}
use Rattle.checksum.proofs.Multiple.{Multiple, multiple, steps-zero}

-- ---- shifts

-- x shifted up by r: what stays in the word, and what goes into the next one
abbrev pub shl : ℕ → ℕ → ℕ
shl x r = x * 2 ^ r % 2 ^ 64

abbrev pub shr : ℕ → ℕ → ℕ
shr x r = x / 2 ^ (64 - r)

shift : (k r j x : ℕ) → r + j ≡ 64 → bit_xor (steps (64 + k) (x * 2 ^ r % 2 ^ 64)) (steps k (x / 2 ^ j)) ≡ steps (j + k) x
shift k r j x h =
    ap (λ (y : ℕ). bit_xor (steps (64 + k) (x * 2 ^ r % 2 ^ 64)) (steps k y)) (sym up)
    ∙ sym (steps-split 64 k (x * 2 ^ r))
    ∙ ap (λ (i : ℕ). steps i (x * 2 ^ r)) counts
    ∙ steps-add r (j + k) (x * 2 ^ r)
    ∙ ap (steps (j + k)) (steps-shift r x)
  where
    up : x * 2 ^ r / 2 ^ 64 ≡ x / 2 ^ j
    up = ap (λ (y : ℕ). x * 2 ^ r / y) (ap (λ (i : ℕ). 2 ^ i) (sym h ∙ add_comm r j) ∙ pow-add 2 j r) ∙ mul-div-mul_right x (2 ^ j) (pow_pos r)

    counts : 64 + k ≡ r + (j + k)
    counts = omega arith

-- several shifts at once
data Shifts : List ℕ → Type 0 where
  none : Shifts []
  more : {r : ℕ} {rs : List ℕ} → r ≤ 64 → Shifts rs → Shifts (r ∷ rs)

spread : (k x : ℕ) {rs : List ℕ} → Shifts rs
    → bit_xor (steps (64 + k) (xors (map (shl x) rs))) (steps k (xors (map (shr x) rs))) ≡ xors (map (λ r. steps (64 - r + k) x) rs)
spread k x none = ap₂ bit_xor (steps-zero (64 + k)) (steps-zero k)
spread k x (more {r} {rs} h hs) =
    ap₂ bit_xor (steps-xor (64 + k) (shl x r) (xors (map (shl x) rs))) (steps-xor k (shr x r) (xors (map (shr x) rs)))
    ∙ xor-four (steps (64 + k) (shl x r)) (steps (64 + k) (xors (map (shl x) rs))) (steps k (shr x r)) (steps k (xors (map (shr x) rs)))
    ∙ ap₂ bit_xor (shift k r (64 - r) x (omega arith)) (spread k x hs)

-- ---- pending words: what is still to be added to the next words of the data

-- a low word and the words above it
pub steps-two : (k p q : ℕ) → p < 2 ^ 64 → steps (64 + k) (q * 2 ^ 64 + p) ≡ bit_xor (steps (64 + k) p) (steps k q)
steps-two k p q h =
    steps-split 64 k (q * 2 ^ 64 + p)
    ∙ ap₂ (λ (a b : ℕ). bit_xor (steps (64 + k) a) (steps k b)) (low q 64 h) (high q 64 h)

-- a word added to the lowest one
pub add_low : (p q w : ℕ) → p < 2 ^ 64 → w < 2 ^ 64 → bit_xor (q * 2 ^ 64 + p) w ≡ q * 2 ^ 64 + bit_xor p w
add_low p q w hp hw =
    ap (bit_xor (q * 2 ^ 64 + p)) (sym (zero-add w)) ∙ xor_block 64 q 0 p w hp hw ∙ ap (λ (z : ℕ). z * 2 ^ 64 + bit_xor p w) (xor_zero_r q)

-- ---- the fold into the next three words, by x^185 + x^93 + x^54 + x^46 + x^20 + x^19 + 1

into-three-multiple : Multiple 185 (93 ∷ 54 ∷ 46 ∷ 20 ∷ 19 ∷ 0 ∷ [])
unfolding steps step
into-three-multiple = refl

into-three-shifts : List ℕ
into-three-shifts = 3 ∷ 11 ∷ 37 ∷ 38 ∷ 57 ∷ []

abbrev pub into-three1 : ℕ → ℕ
into-three1 x = shl x 28

abbrev pub into-three2 : ℕ → ℕ
into-three2 x = bit_xor (shr x 28) (bit_xor (shl x 3) (bit_xor (shl x 11) (bit_xor (shl x 37) (bit_xor (shl x 38) (shl x 57)))))

abbrev pub into-three3 : ℕ → ℕ
into-three3 x = bit_xor (shr x 3) (bit_xor (shr x 11) (bit_xor (shr x 37) (bit_xor (shr x 38) (shr x 57))))

into-three-spread : (x : ℕ)
    → bit_xor (steps 128 (bit_xor (shl x 3) (bit_xor (shl x 11) (bit_xor (shl x 37) (bit_xor (shl x 38) (shl x 57)))))) (steps 64 (into-three3 x))
    ≡ xors (map (λ r. steps (64 - r + 64) x) into-three-shifts)
unfolding into-three-shifts
into-three-spread x =
    ap₂
    (λ (a b : ℕ).
    bit_xor (steps 128 (bit_xor (shl x 3) (bit_xor (shl x 11) (bit_xor (shl x 37) (bit_xor (shl x 38) a))))) (steps 64 (bit_xor (shr x 3) (bit_xor (shr x 11) (bit_xor (shr x 37) (bit_xor (shr x 38) b))))))
    (sym (xor_zero_r (shl x 57))) (sym (xor_zero_r (shr x 57)))
    ∙ spread 64 x {rs = into-three-shifts} (more (omega arith) (more (omega arith) (more (omega arith) (more (omega arith) (more (omega arith) none)))))

into-three : (x : ℕ) → x < 2 ^ 64 → steps 256 x ≡ bit_xor (steps 192 (into-three1 x)) (bit_xor (steps 128 (into-three2 x)) (steps 64 (into-three3 x)))
unfolding into-three-shifts
into-three x h =
    multiple 185 (93 ∷ 54 ∷ 46 ∷ 20 ∷ 19 ∷ 0 ∷ []) into-three-multiple 7 x h
    ∙ ap₂ bit_xor (sym (shift 128 28 36 x refl)) (sym (into-three-spread x))
    ∙ same
    (steps 192 (shl x 28) ∷ steps 128 (shr x 28) ∷ steps 128 (bit_xor (shl x 3) (bit_xor (shl x 11) (bit_xor (shl x 37) (bit_xor (shl x 38) (shl x 57))))) ∷ steps 64 (into-three3 x) ∷ [])
    (plus (plus (term 0) (term 1)) (plus (term 2) (term 3)))
    (plus (term 0) (plus (plus (term 1) (term 2)) (term 3)))
    refl
    ∙ ap (λ (z : ℕ). bit_xor (steps 192 (into-three1 x)) (bit_xor z (steps 64 (into-three3 x))))
    (sym (steps-xor 128 (shr x 28) (bit_xor (shl x 3) (bit_xor (shl x 11) (bit_xor (shl x 37) (bit_xor (shl x 38) (shl x 57)))))))

shl_lt : (x r : ℕ) → shl x r < 2 ^ 64
shl_lt x r = mod-lt (x * 2 ^ r) (pow_pos 64)

shr_lt64 : (x r : ℕ) → x < 2 ^ 64 → shr x r < 2 ^ 64
shr_lt64 x r h = lt_of_le_of_lt (shr_le x (64 - r)) h

xor64 : {a b : ℕ} → a < 2 ^ 64 → b < 2 ^ 64 → bit_xor a b < 2 ^ 64
xor64 {a} {b} ha hb = xor_lt 64 a b ha hb

into-three2-lt : (x : ℕ) → x < 2 ^ 64 → into-three2 x < 2 ^ 64
into-three2-lt x h =
    xor64 (shr_lt64 x 28 h) (xor64 (shl_lt x 3) (xor64 (shl_lt x 11) (xor64 (shl_lt x 37) (xor64 (shl_lt x 38) (shl_lt x 57)))))

steps-three : (k a b c : ℕ) → a < 2 ^ 64 → b < 2 ^ 64
    → steps (64 + (64 + k)) (three a b c) ≡ bit_xor (steps (64 + (64 + k)) a) (bit_xor (steps (64 + k) b) (steps k c))
steps-three k a b c ha hb =
    steps-two (64 + k) a (c * 2 ^ 64 + b) ha ∙ ap (bit_xor (steps (64 + (64 + k)) a)) (steps-two k b c hb)

-- three pending words and the next word of the data
module _ (a b c w : ℕ) (ha : a < 2 ^ 64) (hb : b < 2 ^ 64) (hc : c < 2 ^ 64) (hw : w < 2 ^ 64) where
  met : ℕ
  met = bit_xor a w

  met-lt : met < 2 ^ 64
  unfolding met
  met-lt = xor_lt 64 a w ha hw

  pub into-three-fold : steps 192 (three (bit_xor b (into-three1 (bit_xor a w))) (bit_xor c (into-three2 (bit_xor a w))) (into-three3 (bit_xor a w))) ≡ steps 256 (bit_xor (three a b c) w)
  unfolding met
  into-three-fold =
      steps-three 64 (bit_xor b (into-three1 met)) (bit_xor c (into-three2 met)) (into-three3 met) (xor64 hb (shl_lt met 28)) (xor64 hc (into-three2-lt met met-lt))
      ∙ ap₂ bit_xor (steps-xor 192 b (into-three1 met)) (ap (λ (z : ℕ). bit_xor z (steps 64 (into-three3 met))) (steps-xor 128 c (into-three2 met)))
      ∙ same (steps 192 b ∷ steps 192 (into-three1 met) ∷ steps 128 c ∷ steps 128 (into-three2 met) ∷ steps 64 (into-three3 met) ∷ [])
      (plus (plus (term 0) (term 1)) (plus (plus (term 2) (term 3)) (term 4)))
      (plus (plus (term 1) (plus (term 3) (term 4))) (plus (term 0) (term 2)))
      refl
      ∙ ap (λ (z : ℕ). bit_xor z (bit_xor (steps 192 b) (steps 128 c))) (sym (into-three met met-lt))
      ∙ sym (ap (steps 256) (add_low a (c * 2 ^ 64 + b) w ha hw) ∙ steps-three 128 met b c met-lt hb)

-- the same below further pending words
module _ (a b c w h : ℕ) (ha : a < 2 ^ 64) (hb : b < 2 ^ 64) (hc : c < 2 ^ 64) (hw : w < 2 ^ 64) where
  above : steps 256 (bit_xor (three a b (h * 2 ^ 64 + c)) w) ≡ bit_xor (steps 256 (bit_xor (three a b c) w)) (steps 64 h)
  above =
      let m = bit_xor a w in
      let hm : m < 2 ^ 64 = xor_lt 64 a w ha hw in
      ap (steps 256) (add_low a ((h * 2 ^ 64 + c) * 2 ^ 64 + b) w ha hw)
      ∙ steps-three 128 m b (h * 2 ^ 64 + c) hm hb
      ∙ ap (λ (z : ℕ). bit_xor (steps 256 m) (bit_xor (steps 192 b) z)) (steps-two 64 c h hc)
      ∙ same (steps 256 m ∷ steps 192 b ∷ steps 128 c ∷ steps 64 h ∷ [])
      (plus (term 0) (plus (term 1) (plus (term 2) (term 3))))
      (plus (plus (term 0) (plus (term 1) (term 2))) (term 3))
      refl
      ∙ ap (λ (z : ℕ). bit_xor z (steps 64 h)) (sym (ap (steps 256) (add_low a (c * 2 ^ 64 + b) w ha hw) ∙ steps-three 128 m b c hm hb))

  pub into-three-under : (p q r : ℕ) → p < 2 ^ 64 → q < 2 ^ 64 → steps 192 (three p q r) ≡ steps 256 (bit_xor (three a b c) w)
      → steps 192 (three p q (bit_xor r h)) ≡ steps 256 (bit_xor (three a b (h * 2 ^ 64 + c)) w)
  into-three-under p q r hp hq e =
      steps-three 64 p q (bit_xor r h) hp hq
      ∙ ap (λ (z : ℕ). bit_xor (steps 192 p) (bit_xor (steps 128 q) z)) (steps-xor 64 r h)
      ∙ same (steps 192 p ∷ steps 128 q ∷ steps 64 r ∷ steps 64 h ∷ [])
      (plus (term 0) (plus (term 1) (plus (term 2) (term 3))))
      (plus (plus (term 0) (plus (term 1) (term 2))) (term 3))
      refl
      ∙ ap (λ (z : ℕ). bit_xor z (steps 64 h)) (sym (steps-three 64 p q r hp hq) ∙ e)
      ∙ sym above

-- ---- the last fold: into the last two words, by x^120 + x^56 + x^40 + x^33 + x^15 + x^9 + x^8 + x + 1

last-multiple : Multiple 120 (56 ∷ 40 ∷ 33 ∷ 15 ∷ 9 ∷ 8 ∷ 1 ∷ 0 ∷ [])
unfolding steps step
last-multiple = refl

last-shifts : List ℕ
last-shifts = 16 ∷ 23 ∷ 41 ∷ 47 ∷ 48 ∷ 55 ∷ 56 ∷ []

abbrev pub last1 : ℕ → ℕ
last1 x = bit_xor x (bit_xor (shl x 16) (bit_xor (shl x 23) (bit_xor (shl x 41) (bit_xor (shl x 47) (bit_xor (shl x 48) (bit_xor (shl x 55) (shl x 56)))))))

abbrev pub last2 : ℕ → ℕ
last2 x = bit_xor (shr x 16) (bit_xor (shr x 23) (bit_xor (shr x 41) (bit_xor (shr x 47) (bit_xor (shr x 48) (bit_xor (shr x 55) (shr x 56))))))

last : (x : ℕ) → x < 2 ^ 64 → steps 192 x ≡ bit_xor (steps 128 (last1 x)) (steps 64 (last2 x))
unfolding last-shifts
last x h =
    multiple 120 (56 ∷ 40 ∷ 33 ∷ 15 ∷ 9 ∷ 8 ∷ 1 ∷ 0 ∷ []) last-multiple 8 x h
    ∙ ap (bit_xor (steps 128 x))
    (sym (spread 64 x {rs = last-shifts}
    (more (omega arith) (more (omega arith) (more (omega arith) (more (omega arith) (more (omega arith) (more (omega arith) (more (omega arith) none)))))))))
    ∙ sym (xor_assoc (steps 128 x) (steps 128 (xors (map (shl x) last-shifts))) (steps 64 (xors (map (shr x) last-shifts))))
    ∙ ap (λ (z : ℕ). bit_xor z (steps 64 (xors (map (shr x) last-shifts)))) (sym (steps-xor 128 x (xors (map (shl x) last-shifts))))
    ∙ ap₂
    (λ (a b : ℕ).
    bit_xor (steps 128 (bit_xor x (bit_xor (shl x 16) (bit_xor (shl x 23) (bit_xor (shl x 41) (bit_xor (shl x 47) (bit_xor (shl x 48) (bit_xor (shl x 55) a))))))))
    (steps 64 (bit_xor (shr x 16) (bit_xor (shr x 23) (bit_xor (shr x 41) (bit_xor (shr x 47) (bit_xor (shr x 48) (bit_xor (shr x 55) b))))))))
    (xor_zero_r (shl x 56)) (xor_zero_r (shr x 56))

last1-lt : (x : ℕ) → x < 2 ^ 64 → last1 x < 2 ^ 64
last1-lt x h =
    xor64 h
    (xor64 (shl_lt x 16)
    (xor64 (shl_lt x 23) (xor64 (shl_lt x 41) (xor64 (shl_lt x 47) (xor64 (shl_lt x 48) (xor64 (shl_lt x 55) (shl_lt x 56)))))))

-- the first of three pending words goes into the other two
module _ (a b c w : ℕ) (ha : a < 2 ^ 64) (hb : b < 2 ^ 64) (hw : w < 2 ^ 64) where
  seen : ℕ
  seen = bit_xor a w

  seen-lt : seen < 2 ^ 64
  unfolding seen
  seen-lt = xor_lt 64 a w ha hw

  pub last-fold : steps 128 (bit_xor c (last2 (bit_xor a w)) * 2 ^ 64 + bit_xor b (last1 (bit_xor a w))) ≡ steps 192 (bit_xor (three a b c) w)
  unfolding seen
  last-fold =
      steps-two 64 (bit_xor b (last1 seen)) (bit_xor c (last2 seen)) (xor64 hb (last1-lt seen seen-lt))
      ∙ ap₂ bit_xor (steps-xor 128 b (last1 seen)) (steps-xor 64 c (last2 seen))
      ∙ same (steps 128 b ∷ steps 128 (last1 seen) ∷ steps 64 c ∷ steps 64 (last2 seen) ∷ []) (plus (plus (term 0) (term 1)) (plus (term 2) (term 3)))
      (plus (plus (term 1) (term 3)) (plus (term 0) (term 2)))
      refl
      ∙ ap (λ (z : ℕ). bit_xor z (bit_xor (steps 128 b) (steps 64 c))) (sym (last seen seen-lt))
      ∙ sym (ap (steps 192) (add_low a (c * 2 ^ 64 + b) w ha hw) ∙ steps-three 64 seen b c seen-lt hb)

-- ---- the fold past the next word into the four after it, by x^300 + x^155 + x^117 + x^89 + 1

into-five-multiple : Multiple 300 (155 ∷ 117 ∷ 89 ∷ 0 ∷ [])
unfolding steps step
into-five-multiple = refl

abbrev pub into-five1 : ℕ → ℕ
into-five1 x = bit_xor (shl x 17) (shl x 55)

abbrev pub into-five2 : ℕ → ℕ
into-five2 x = bit_xor (shr x 17) (bit_xor (shr x 55) (shl x 19))

abbrev pub into-five3 : ℕ → ℕ
into-five3 x = bit_xor (shr x 19) (shl x 44)

abbrev pub into-five4 : ℕ → ℕ
into-five4 x = shr x 44

into-five : (x : ℕ) → x < 2 ^ 64
    → steps 384 x ≡ bit_xor (steps 256 (into-five1 x)) (bit_xor (steps 192 (into-five2 x)) (bit_xor (steps 128 (into-five3 x)) (steps 64 (into-five4 x))))
into-five x h =
    multiple 300 (155 ∷ 117 ∷ 89 ∷ 0 ∷ []) into-five-multiple 20 x h
    ∙ ap (λ (z : ℕ). bit_xor (steps 239 x) (bit_xor (steps 201 x) (bit_xor (steps 173 x) z))) (xor_zero_r (steps 84 x))
    ∙ sym
    (ap₂ bit_xor (steps-xor 256 (shl x 17) (shl x 55))
    (ap₂ bit_xor (steps-xor 192 (shr x 17) (bit_xor (shr x 55) (shl x 19)) ∙ ap (bit_xor (steps 192 (shr x 17))) (steps-xor 192 (shr x 55) (shl x 19)))
    (ap (λ (z : ℕ). bit_xor z (steps 64 (shr x 44))) (steps-xor 128 (shr x 19) (shl x 44))))
    ∙ same
    (steps 256 (shl x 17) ∷ steps 256 (shl x 55) ∷ steps 192 (shr x 17) ∷ steps 192 (shr x 55) ∷ steps 192 (shl x 19) ∷ steps 128 (shr x 19) ∷ steps 128 (shl x 44) ∷ steps 64 (shr x 44) ∷ [])
    (plus (plus (term 0) (term 1)) (plus (plus (term 2) (plus (term 3) (term 4))) (plus (plus (term 5) (term 6)) (term 7))))
    (plus (plus (term 0) (term 2)) (plus (plus (term 1) (term 3)) (plus (plus (term 4) (term 5)) (plus (term 6) (term 7)))))
    refl
    ∙ ap₂ bit_xor (shift 192 17 47 x refl) (ap₂ bit_xor (shift 192 55 9 x refl) (ap₂ bit_xor (shift 128 19 45 x refl) (shift 64 44 20 x refl))))

-- five pending words
steps-five : (k a b c d e : ℕ) → a < 2 ^ 64 → b < 2 ^ 64 → c < 2 ^ 64 → d < 2 ^ 64
    → steps (64 + (64 + (64 + (64 + k)))) (five a b c d e)
    ≡ bit_xor (steps (64 + (64 + (64 + (64 + k)))) a) (bit_xor (steps (64 + (64 + (64 + k))) b) (bit_xor (steps (64 + (64 + k)) c) (bit_xor (steps (64 + k) d) (steps k e))))
steps-five k a b c d e ha hb hc hd =
    steps-two (64 + (64 + (64 + k))) a (((e * 2 ^ 64 + d) * 2 ^ 64 + c) * 2 ^ 64 + b) ha
    ∙ ap (bit_xor (steps (64 + (64 + (64 + (64 + k)))) a))
    (steps-two (64 + (64 + k)) b ((e * 2 ^ 64 + d) * 2 ^ 64 + c) hb
    ∙ ap (bit_xor (steps (64 + (64 + (64 + k))) b))
    (steps-two (64 + k) c (e * 2 ^ 64 + d) hc ∙ ap (bit_xor (steps (64 + (64 + k)) c)) (steps-two k d e hd)))

pub into-five1-lt : (x : ℕ) → into-five1 x < 2 ^ 64
into-five1-lt x = xor64 (shl_lt x 17) (shl_lt x 55)

pub into-five2-lt : (x : ℕ) → x < 2 ^ 64 → into-five2 x < 2 ^ 64
into-five2-lt x h = xor64 (shr_lt64 x 17 h) (xor64 (shr_lt64 x 55 h) (shl_lt x 19))

pub into-five3-lt : (x : ℕ) → x < 2 ^ 64 → into-five3 x < 2 ^ 64
into-five3-lt x h = xor64 (shr_lt64 x 19 h) (shl_lt x 44)

module _ (a b c d e w : ℕ) (ha : a < 2 ^ 64) (hb : b < 2 ^ 64) (hc : c < 2 ^ 64) (hd : d < 2 ^ 64) (he : e < 2 ^ 64) (hw : w < 2 ^ 64) where
  taken : ℕ
  taken = bit_xor a w

  taken-lt : taken < 2 ^ 64
  unfolding taken
  taken-lt = xor_lt 64 a w ha hw

  -- the five words after the fold
  after : steps 320 (five b (bit_xor c (into-five1 taken)) (bit_xor d (into-five2 taken)) (bit_xor e (into-five3 taken)) (into-five4 taken))
      ≡ bit_xor (steps 320 b) (bit_xor (bit_xor (steps 256 c) (steps 256 (into-five1 taken))) (bit_xor (bit_xor (steps 192 d) (steps 192 (into-five2 taken))) (bit_xor (bit_xor (steps 128 e) (steps 128 (into-five3 taken))) (steps 64 (into-five4 taken)))))
  after =
      steps-five 64 b (bit_xor c (into-five1 taken)) (bit_xor d (into-five2 taken)) (bit_xor e (into-five3 taken)) (into-five4 taken) hb (xor64 hc (into-five1-lt taken)) (xor64 hd (into-five2-lt taken taken-lt)) (xor64 he (into-five3-lt taken taken-lt))
      ∙ ap (bit_xor (steps 320 b))
      (ap₂ bit_xor (steps-xor 256 c (into-five1 taken))
      (ap₂ bit_xor (steps-xor 192 d (into-five2 taken)) (ap (λ (z : ℕ). bit_xor z (steps 64 (into-five4 taken))) (steps-xor 128 e (into-five3 taken)))))

  before : steps 384 (bit_xor (five a b c d e) w) ≡ bit_xor (steps 384 taken) (bit_xor (steps 320 b) (bit_xor (steps 256 c) (bit_xor (steps 192 d) (steps 128 e))))
  unfolding taken
  before =
      ap (steps 384) (add_low a (((e * 2 ^ 64 + d) * 2 ^ 64 + c) * 2 ^ 64 + b) w ha hw)
      ∙ steps-five 128 (bit_xor a w) b c d e taken-lt hb hc hd

  pub into-five-fold : steps 320 (five b (bit_xor c (into-five1 (bit_xor a w))) (bit_xor d (into-five2 (bit_xor a w))) (bit_xor e (into-five3 (bit_xor a w))) (into-five4 (bit_xor a w)))
      ≡ steps 384 (bit_xor (five a b c d e) w)
  unfolding taken
  into-five-fold =
      after
      ∙ same
      (steps 320 b ∷ steps 256 c ∷ steps 256 (into-five1 taken) ∷ steps 192 d ∷ steps 192 (into-five2 taken) ∷ steps 128 e ∷ steps 128 (into-five3 taken) ∷ steps 64 (into-five4 taken) ∷ [])
      (plus (term 0) (plus (plus (term 1) (term 2)) (plus (plus (term 3) (term 4)) (plus (plus (term 5) (term 6)) (term 7)))))
      (plus (plus (term 2) (plus (term 4) (plus (term 6) (term 7)))) (plus (term 0) (plus (term 1) (plus (term 3) (term 5)))))
      refl
      ∙ ap (λ (z : ℕ). bit_xor z (bit_xor (steps 320 b) (bit_xor (steps 256 c) (bit_xor (steps 192 d) (steps 128 e))))) (sym (into-five taken taken-lt))
      ∙ sym before

-- ---- a word of the data

pub word_lt : (s : List ℕ) → little (take 8 s) < 2 ^ 64
word_lt s = part-lt 8 s

split-word : (s : List ℕ) → 8 ≤ length s → little s ≡ little (drop 8 s) * 2 ^ 64 + little (take 8 s)
split-word s h =
    ap little (sym (take-append-drop 8 s)) ∙ little-append (take 8 s) (drop 8 s)
    ∙ ap (λ (k : ℕ). little (drop 8 s) * 2 ^ (8 * k) + little (take 8 s)) (length-take-le 8 s h)

-- a fold of the data's first word: what is pending afterwards gives on the rest what the earlier pending words give on all of it
module _ (k v v' : ℕ) (s : List ℕ) (long : 64 + k ≤ 8 * length s) (does : steps k v' ≡ steps (64 + k) (bit_xor v (little (take 8 s)))) where
  extra : ℕ
  extra = 8 * length s - (64 + k)

  rest : ℕ
  rest = little (drop 8 s)

  word : ℕ
  word = little (take 8 s)

  total : 8 * length s ≡ 64 + (k + extra)
  unfolding extra
  total = omega arith

  total-rest : 8 * length (drop 8 s) ≡ k + extra
  unfolding extra
  total-rest = omega (arith, length-drop 8 s)

  whole : bit_xor v (little s) ≡ bit_xor (bit_xor v word) (rest * 2 ^ 64)
  unfolding word rest
  whole =
      ap (bit_xor v) (split-word s (omega arith) ∙ sym (xor_shifted (little (drop 8 s)) 64 (little (take 8 s)) (word_lt s)))
      ∙ same (v ∷ little (drop 8 s) * 2 ^ 64 ∷ little (take 8 s) ∷ []) (plus (term 0) (plus (term 1) (term 2))) (plus (plus (term 0) (term 2)) (term 1)) refl

  first : steps (64 + (k + extra)) (bit_xor v word) ≡ steps (k + extra) v'
  unfolding word
  first =
      ap (λ (n : ℕ). steps n (bit_xor v (little (take 8 s)))) (sym (add_assoc 64 k extra))
      ∙ steps-add (64 + k) extra (bit_xor v (little (take 8 s)))
      ∙ ap (steps extra) (sym does)
      ∙ sym (steps-add k extra v')

  pub fold-run : run v' (drop 8 s) ≡ run v s
  unfolding rest
  fold-run =
      run-steps (drop 8 s) v'
      ∙ ap (λ (n : ℕ). steps n (bit_xor v' rest)) total-rest
      ∙ steps-xor (k + extra) v' rest
      ∙ sym
      (run-steps s v
      ∙ ap₂ steps total whole
      ∙ steps-xor (64 + (k + extra)) (bit_xor v word) (rest * 2 ^ 64)
      ∙ ap₂ bit_xor first (steps-add 64 (k + extra) (rest * 2 ^ 64) ∙ ap (steps (k + extra)) (steps-shift 64 rest)))

-- the same at an offset of the data, with the word loaded there
pub fold_at : (k v v' w i : ℕ) (s : List ℕ) → 64 + k + 8 * i ≤ 8 * length s → w ≡ little (take 8 (drop i s)) → steps k v' ≡ steps (64 + k) (bit_xor v w)
    → run v' (drop (i + 8) s) ≡ run v (drop i s)
fold_at k v v' w i s h e d =
    ap (run v') (sym (drop-drop 8 i s))
    ∙ fold-run k v v' (drop i s) (omega (arith, length-drop i s)) (d ∙ ap (λ (z : ℕ). steps (64 + k) (bit_xor v z)) e)

-- a word by the table: 64 steps on the lowest pending word leave a register, which is added to the next word
pub taken_at : (v r w i : ℕ) (s : List ℕ) → i + 8 ≤ length s → w ≡ little (take 8 (drop i s)) → r ≡ steps 64 (bit_xor v w)
    → run r (drop (i + 8) s) ≡ run v (drop i s)
unfolding steps
taken_at v r w i s h e d = fold_at 0 v r w i s (omega arith) e d

pub byte_at : (r i : ℕ) (s : List ℕ) → i < length s → run (steps 8 (bit_xor r (get_or s i 0 % 256))) (drop (i + 1) s) ≡ run r (drop i s)
unfolding run
byte_at r i s h = ap (run (steps 8 (bit_xor r (get_or s i 0 % 256)))) (ap (λ (k : ℕ). drop k s) (add-one i)) ∙ ap (run r) (sym (drop-cons s i 0 h))

-- the lowest pending word is used up: what 64 steps leave of it is added to the words above it
pub pending-at : (a q r i : ℕ) (s : List ℕ) → i + 8 ≤ length s → a < 2 ^ 64 → r ≡ steps 64 (bit_xor a (little (take 8 (drop i s))))
    → run (bit_xor r q) (drop (i + 8) s) ≡ run (q * 2 ^ 64 + a) (drop i s)
unfolding steps
pending-at a q r i s h l e =
    taken_at (q * 2 ^ 64 + a) (bit_xor r q) w i s h refl
    (sym
    (ap (steps 64) (add_low a q w l (word_lt (drop i s)))
    ∙ steps-two 0 (bit_xor a w) q (xor_lt 64 a w l (word_lt (drop i s)))
    ∙ ap (λ (z : ℕ). bit_xor z q) (sym e)))
  where
    w : ℕ
    w = little (take 8 (drop i s))

-- the last pending words, one after the other
module _ (s : List ℕ) (at : ℕ) where
  next : (r n : ℕ) → run r (drop (at + n + 8) s) ≡ run r (drop (at + (n + 8)) s)
  next r n = ap (λ (k : ℕ). run r (drop k s)) (add_assoc at n 8)

  pub last_of : (v r w n : ℕ) → at + n + 8 ≤ length s → w ≡ little (take 8 (drop (at + n) s)) → r ≡ steps 64 (bit_xor v w)
      → run r (drop (at + (n + 8)) s) ≡ run v (drop (at + n) s)
  last_of v r w n h e d = sym (next r n) ∙ taken_at v r w (at + n) s h e d

  pub next-after : (a q r n : ℕ) → at + n + 8 ≤ length s → a < 2 ^ 64 → r ≡ steps 64 (bit_xor a (little (take 8 (drop (at + n) s))))
      → run (bit_xor r q) (drop (at + (n + 8)) s) ≡ run (q * 2 ^ 64 + a) (drop (at + n) s)
  next-after a q r n h l e = sym (next (bit_xor r q) n) ∙ pending-at a q r (at + n) s h l e

-- a word that a fold left, with the pending words above it
pub above_low : (r d e : ℕ) → r < 2 ^ 64 → d < 2 ^ 64 → bit_xor r (e * 2 ^ 64 + d) ≡ e * 2 ^ 64 + bit_xor r d
above_low r d e hr hd =
    xor_comm r (e * 2 ^ 64 + d) ∙ add_low d e r hd hr ∙ ap (λ (z : ℕ). e * 2 ^ 64 + z) (xor_comm d r)
