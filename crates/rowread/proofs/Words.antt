-- Operations on a 64-bit number, byte by byte: a bit operation on two numbers is that operation on each of their bytes, and so is a sum where no
-- byte overflows. So an expression on eight bytes is the same expression on each byte, and that is computed for all 256 bytes.
use Prim.Native.Nat.{ℕ, zero, suc, ◌+◌, ◌-◌, ◌*◌, ◌/◌, ◌%◌, ◌<◌}
use native.Mathlib.Nat.{mod-lt, mod-eq_of_lt, not-suc-le-zero}
use native.Mathlib.Omega.{arith}
use mathlib.Core.Path.{◌≡◌, refl, sym, ap, ap₂, ◌∙◌}
use mathlib.Core.Bool.{Bool, true, false}
use mathlib.Core.List.{List, [], ◌∷◌}
use lib.Dec.{T, eqb, eqb→eq}
use borrow.Author.Tests.{eqb-true, eqb-false, ne_eqb}
use lib.Pow.{pow_pos}
use lib.Bits.{bit_and, bit_or, bit_xor, and_block, or_block, xor_block, and_le_r, or_lt, xor_lt, and_lt}
use lib.ListN.{length, get_or}
use Rattle.base.specs.Number.{pick}
use Rattle.base.specs.Little.{little}
use Rattle.rowread.specs.Marks.{high_bit, mark, marks, is_quote, is_delimiter, AreMarks, none, more, Marks, first_mark, cleared}
use Rattle.std.specs.Int.{w64, trailing_zeros}
use lib.Count.{count_trailing_zeros, under}

-- ---- a number of bytes that a function gives

unfoldable pub word : (ℕ → ℕ) → List ℕ → ℕ
word f [] = 0
word f (b ∷ bs) = word f bs * 256 + f b

abbrev pub Small : (ℕ → ℕ) → Type 0
Small f = (b : ℕ) → f b < 256

word_and : (f g : ℕ → ℕ) → Small f → Small g → (bs : List ℕ) → bit_and (word f bs) (word g bs) ≡ word (λ b. bit_and (f b) (g b)) bs
unfolding word
word_and f g hf hg [] = refl
word_and f g hf hg (b ∷ bs) = and_block 8 (word f bs) (word g bs) (f b) (g b) (hf b) (hg b) ∙ ap (λ (z : ℕ). z * 256 + bit_and (f b) (g b)) (word_and f g hf hg bs)

word-or : (f g : ℕ → ℕ) → Small f → Small g → (bs : List ℕ) → bit_or (word f bs) (word g bs) ≡ word (λ b. bit_or (f b) (g b)) bs
unfolding word
word-or f g hf hg [] = refl
word-or f g hf hg (b ∷ bs) = or_block 8 (word f bs) (word g bs) (f b) (g b) (hf b) (hg b) ∙ ap (λ (z : ℕ). z * 256 + bit_or (f b) (g b)) (word-or f g hf hg bs)

word-xor : (f g : ℕ → ℕ) → Small f → Small g → (bs : List ℕ) → bit_xor (word f bs) (word g bs) ≡ word (λ b. bit_xor (f b) (g b)) bs
unfolding word
word-xor f g hf hg [] = refl
word-xor f g hf hg (b ∷ bs) = xor_block 8 (word f bs) (word g bs) (f b) (g b) (hf b) (hg b) ∙ ap (λ (z : ℕ). z * 256 + bit_xor (f b) (g b)) (word-xor f g hf hg bs)

word-add : (f g : ℕ → ℕ) (bs : List ℕ) → word f bs + word g bs ≡ word (λ b. f b + g b) bs
unfolding word
word-add f g [] = refl
word-add f g (b ∷ bs) = let i = word-add f g bs in omega (arith, i)

word-ext : (f g : ℕ → ℕ) → ((b : ℕ) → f b ≡ g b) → (bs : List ℕ) → word f bs ≡ word g bs
unfolding word
word-ext f g e [] = refl
word-ext f g e (b ∷ bs) = ap₂ (λ (x y : ℕ). x * 256 + y) (word-ext f g e bs) (e b)

-- on bytes
word_bytes : (f g : ℕ → ℕ) → ((b : ℕ) → b < 256 → f b ≡ g b) → (bs : List ℕ) → ((k : ℕ) → get_or bs k 0 < 256) → word f bs ≡ word g bs
unfolding word
word_bytes f g e [] h = refl
word_bytes f g e (b ∷ bs) h = ap₂ (λ (x y : ℕ). x * 256 + y) (word_bytes f g e bs (λ k. h (suc k))) (e b (h 0))

-- one byte in each place
unfoldable ones : ℕ → ℕ
ones zero = 0
ones (suc n) = ones n * 256 + 1

word-const : (c : ℕ) (bs : List ℕ) → word (λ b. c) bs ≡ c * ones (length bs)
unfolding word ones
word-const c [] = omega arith
word-const c (b ∷ bs) = let i = word-const c bs in let z : c * (ones (length bs) * 256 + 1) ≡ c * ones (length bs) * 256 + c = omega arith in ap (λ (x : ℕ). x * 256 + c) i ∙ sym z

little-word : (bs : List ℕ) → little bs ≡ word (λ b. b % 256) bs
unfolding word little
little-word [] = refl
little-word (b ∷ bs) = ap (λ (z : ℕ). z * 256 + b % 256) (little-word bs)

little-marks : (q : ℕ → Bool) (bs : List ℕ) → little (marks q bs) ≡ word (λ b. mark (q b)) bs
unfolding word little marks
little-marks q [] = refl
little-marks q (b ∷ bs) = ap₂ (λ (x y : ℕ). x * 256 + y) (little-marks q bs) (go (q b))
  where
    go : (x : Bool) → mark x % 256 ≡ mark x
    go true = refl
    go false = refl

-- ---- what holds of all 256 bytes is computed

abbrev both : Bool → Bool → Bool
both true b = b
both false b = false

both_left : (a b : Bool) → T (both a b) → T a
both_left true b t = tt
both_left false b t = t

both_right : (a b : Bool) → T (both a b) → T b
both_right true b t = t
both_right false b t = absurd t

unfoldable below : ℕ → (ℕ → Bool) → Bool
below zero p = true
below (suc n) p = both (p n) (below n p)

below_holds : (n : ℕ) (p : ℕ → Bool) → T (below n p) → (k : ℕ) → k < n → T (p k)
unfolding below
below_holds zero p h k l = absurd (not-suc-le-zero l)
below_holds (suc n) p h k l = go (eqb k n) refl (below_holds n p (both_right (p n) (below n p) h) k)
  where
    go : (e : Bool) → eqb k n ≡ e → (k < n → T (p k)) → T (p k)
    go true e f = let z : k ≡ n = eqb-true k n e in rw z (both_left (p n) (below n p) h)
    go false e f = let z = eqb-false k n e in f (omega (arith, z))

-- ---- a byte and a pattern

-- above 127 unless the low bits are those of p
abbrev unlike : ℕ → ℕ → ℕ
unlike p x = bit_xor (bit_and x 127) p + 127

low-lt : (x : ℕ) → bit_and x 127 < high_bit
low-lt x = omega (arith, and_le_r x 127)

xor_low : (p x : ℕ) → p < high_bit → bit_xor (bit_and x 127) p < high_bit
xor_low p x h = xor_lt 7 (bit_and x 127) p (low-lt x) h

unlike-small : (p x : ℕ) → p < high_bit → unlike p x < 256
unlike-small p x h = omega (arith, xor_low p x h)

byte_small : Small (λ b. b % 256)
byte_small b = mod-lt b (pow_pos 8)

module _ (bs : List ℕ) (eight : length bs ≡ 8) where
  each : (c : ℕ) → c * 72340172838076673 ≡ word (λ b. c) bs
  unfolding ones
  each c = sym (word-const c bs ∙ ap (λ (n : ℕ). c * ones n) eight)

  -- no byte of the sum overflows
  unlike-word : (p : ℕ) → p < high_bit → bit_xor (bit_and (little bs) 9187201950435737471) (p * 72340172838076673) + 9187201950435737471 ≡ word (λ b. unlike p (b % 256)) bs
  unlike-word p h =
      let a : bit_and (little bs) 9187201950435737471 ≡ word (λ b. bit_and (b % 256) 127) bs = ap₂ bit_and (little-word bs) (each 127) ∙ word_and (λ b. b % 256) (λ b. 127) byte_small (λ b. omega arith) bs in
      let x : bit_xor (bit_and (little bs) 9187201950435737471) (p * 72340172838076673) ≡ word (λ b. bit_xor (bit_and (b % 256) 127) p) bs =
      ap₂ bit_xor a (each p) ∙ word-xor (λ b. bit_and (b % 256) 127) (λ b. p) (λ b. omega (arith, low-lt (b % 256))) (λ b. omega arith) bs in
      ap₂ (λ (y z : ℕ). y + z) x (each 127) ∙ word-add (λ b. bit_xor (bit_and (b % 256) 127) p) (λ b. 127) bs

  word-not : (f : ℕ → ℕ) → Small f → 18446744073709551615 - word f bs ≡ word (λ b. 255 - f b) bs
  word-not f h =
      let s : word f bs + word (λ b. 255 - f b) bs ≡ word (λ b. 255) bs = word-add f (λ b. 255 - f b) bs ∙ word-ext (λ b. f b + (255 - f b)) (λ b. 255) (λ b. omega (arith, h b)) bs in
      let e : 18446744073709551615 ≡ word (λ b. 255) bs = each 255 in
      omega (arith, s, e)

  -- the bytes at which a test of seven bits fails
  marked : (f : ℕ → ℕ) → Small f → bit_and (18446744073709551615 - bit_or (word f bs) (little bs)) 9259542123273814144 ≡ word (λ b. bit_and (255 - bit_or (f b) (b % 256)) high_bit) bs
  marked f h =
      let s : Small (λ b. bit_or (f b) (b % 256)) = λ b. or_lt 8 (f b) (b % 256) (h b) (byte_small b) in
      let o : bit_or (word f bs) (little bs) ≡ word (λ b. bit_or (f b) (b % 256)) bs = ap (bit_or (word f bs)) (little-word bs) ∙ word-or f (λ b. b % 256) h byte_small bs in
      let n : 18446744073709551615 - bit_or (word f bs) (little bs) ≡ word (λ b. 255 - bit_or (f b) (b % 256)) bs = ap (λ (z : ℕ). 18446744073709551615 - z) o ∙ word-not (λ b. bit_or (f b) (b % 256)) s in
      ap₂ bit_and n (each high_bit) ∙ word_and (λ b. 255 - bit_or (f b) (b % 256)) (λ b. high_bit) (λ b. omega arith) (λ b. omega arith) bs

  module _ (bytes : (k : ℕ) → get_or bs k 0 < 256) where
    -- the expression on a byte x gives its mark
    told : (q : ℕ → Bool) (f : ℕ → ℕ) → T (below 256 (λ x. eqb (bit_and (255 - bit_or (f x) x) high_bit) (mark (q x)))) → word (λ b. bit_and (255 - bit_or (f (b % 256)) (b % 256)) high_bit) bs ≡ little (marks q bs)
    told q f t =
        let e : (b : ℕ) → b < 256 → bit_and (255 - bit_or (f (b % 256)) (b % 256)) high_bit ≡ mark (q b) = λ b l. ap (λ (z : ℕ). bit_and (255 - bit_or (f z) z) high_bit) (mod-eq_of_lt l) ∙ eqb→eq (bit_and (255 - bit_or (f b) b) high_bit) (mark (q b)) (below_holds 256 (λ x. eqb (bit_and (255 - bit_or (f x) x) high_bit) (mark (q x))) t b l) in
        word_bytes (λ b. bit_and (255 - bit_or (f (b % 256)) (b % 256)) high_bit) (λ b. mark (q b)) e bs bytes ∙ sym (little-marks q bs)

    pub quotes-told : bit_and (18446744073709551615 - bit_or (bit_xor (bit_and (little bs) 9187201950435737471) 2459565876494606882 + 9187201950435737471) (little bs)) 9259542123273814144 ≡ little (marks is_quote bs)
    unfolding below
    quotes-told =
        let u = unlike-word 34 (omega arith) in
        ap (λ (z : ℕ). bit_and (18446744073709551615 - bit_or z (little bs)) 9259542123273814144) u
        ∙ marked (λ b. unlike 34 (b % 256)) (λ b. unlike-small 34 (b % 256) (omega arith))
        ∙ told is_quote (unlike 34) tt

    pub delimiters-told : bit_and (18446744073709551615 - bit_or (bit_and (bit_xor (bit_and (little bs) 9187201950435737471) 2459565876494606882 + 9187201950435737471) (bit_and (bit_xor (bit_and (little bs) 9187201950435737471) 3182967604875373612 + 9187201950435737471) (bit_and (bit_xor (bit_and (little bs) 9187201950435737471) 940422246894996749 + 9187201950435737471) (bit_xor (bit_and (little bs) 9187201950435737471) 723401728380766730 + 9187201950435737471)))) (little bs)) 9259542123273814144 ≡ little (marks is_delimiter bs)
    unfolding below
    delimiters-told =
        let f : ℕ → ℕ = λ x. bit_and (unlike 34 x) (bit_and (unlike 44 x) (bit_and (unlike 13 x) (unlike 10 x))) in
        let a : Small (λ b. unlike 34 (b % 256)) = λ b. unlike-small 34 (b % 256) (omega arith) in
        let b : Small (λ b. unlike 44 (b % 256)) = λ b. unlike-small 44 (b % 256) (omega arith) in
        let c : Small (λ b. unlike 13 (b % 256)) = λ b. unlike-small 13 (b % 256) (omega arith) in
        let d : Small (λ b. unlike 10 (b % 256)) = λ b. unlike-small 10 (b % 256) (omega arith) in
        let k : Small (λ x. bit_and (unlike 13 (x % 256)) (unlike 10 (x % 256))) = λ x. and_lt 8 (unlike 13 (x % 256)) (unlike 10 (x % 256)) (c x) (d x) in
        let l : Small (λ x. bit_and (unlike 44 (x % 256)) (bit_and (unlike 13 (x % 256)) (unlike 10 (x % 256)))) = λ x. and_lt 8 (unlike 44 (x % 256)) (bit_and (unlike 13 (x % 256)) (unlike 10 (x % 256))) (b x) (k x) in
        let e : Small (λ x. f (x % 256)) = λ x. and_lt 8 (unlike 34 (x % 256)) (bit_and (unlike 44 (x % 256)) (bit_and (unlike 13 (x % 256)) (unlike 10 (x % 256)))) (a x) (l x) in
        let g = ap₂ bit_and (unlike-word 13 (omega arith)) (unlike-word 10 (omega arith)) ∙ word_and (λ x. unlike 13 (x % 256)) (λ x. unlike 10 (x % 256)) c d bs in
        let i = ap₂ bit_and (unlike-word 44 (omega arith)) g ∙ word_and (λ x. unlike 44 (x % 256)) (λ x. bit_and (unlike 13 (x % 256)) (unlike 10 (x % 256))) b k bs in
        let j = ap₂ bit_and (unlike-word 34 (omega arith)) i ∙ word_and (λ x. unlike 34 (x % 256)) (λ x. bit_and (unlike 44 (x % 256)) (bit_and (unlike 13 (x % 256)) (unlike 10 (x % 256)))) a l bs in
        ap (λ (z : ℕ). bit_and (18446744073709551615 - bit_or z (little bs)) 9259542123273814144) j
        ∙ marked (λ x. f (x % 256)) e
        ∙ told is_delimiter f tt

-- ---- what holds of all eight marks is computed

unfoldable every : ℕ → (List Bool → Bool) → Bool
every zero p = p []
every (suc n) p = both (every n (λ l. p (true ∷ l))) (every n (λ l. p (false ∷ l)))

every_holds : (n : ℕ) (p : List Bool → Bool) → T (every n p) → (l : List Bool) → length l ≡ n → T (p l)
unfolding every
every_holds zero p h [] e = h
every_holds zero p h (b ∷ l) e = absurd (omega (arith, e))
every_holds (suc n) p h [] e = absurd (omega (arith, e))
every_holds (suc n) p h (true ∷ l) e = every_holds n (λ l. p (true ∷ l)) (both_left (every n (λ l. p (true ∷ l))) (every n (λ l. p (false ∷ l))) h) l (omega (arith, e))
every_holds (suc n) p h (false ∷ l) e = every_holds n (λ l. p (false ∷ l)) (both_right (every n (λ l. p (true ∷ l))) (every n (λ l. p (false ∷ l))) h) l (omega (arith, e))

unfoldable marks_from : List Bool → List ℕ
marks_from [] = []
marks_from (q ∷ l) = mark q ∷ marks_from l

abbrev Told : List ℕ → Type 0
Told ms = (l : List Bool) × (ms ≡ marks_from l) × (length l ≡ length ms)

told_of : {ms : List ℕ} → AreMarks ms → Told ms
unfolding marks_from
told_of none = ([], refl, refl)
told_of (more q {ms = ms} a) = let t = told_of a in (q ∷ t.0, ap (λ (l : List ℕ). mark q ∷ l) t.1, ap suc t.2)

-- a number of marks, if it isn't 0: where its lowest mark is, and that mark taken away
abbrev lowest : ℕ → ℕ
lowest m = trailing_zeros w64 m / 8

unfoldable lowest-test : List Bool → Bool
lowest-test l = pick (eqb (little (marks_from l)) 0) true (both (eqb (lowest (little (marks_from l))) (first_mark (marks_from l))) (eqb (bit_and (little (marks_from l)) (little (marks_from l) - 1)) (little (cleared (marks_from l)))))

pub record Lowest (ms : List ℕ) (m : ℕ) : Type 0 where
  pub first : lowest m ≡ first_mark ms
  pub others : bit_and m (m - 1) ≡ little (cleared ms)

lowest-checked : (l : List Bool) → length l ≡ 8 → T (lowest-test l)
unfolding every lowest-test little marks_from count_trailing_zeros under first_mark cleared
lowest-checked l e = every_holds 8 lowest-test tt l e

lowest-of : (ms : List ℕ) (m : ℕ) → 0 < m → T (pick (eqb m 0) true (both (eqb (lowest m) (first_mark ms)) (eqb (bit_and m (m - 1)) (little (cleared ms))))) → Lowest ms m
lowest-of ms m h t =
    let a : Bool = eqb (lowest m) (first_mark ms) in
    let b : Bool = eqb (bit_and m (m - 1)) (little (cleared ms)) in
    let c : T (both a b) = rw (ne_eqb m 0 (λ e. omega (arith, e))) at t in
    record {
      first = eqb→eq (lowest m) (first_mark ms) (both_left a b c);
      others = eqb→eq (bit_and m (m - 1)) (little (cleared ms)) (both_right a b c);
    }

pub lowest-told : (ms : List ℕ) (m : ℕ) → Marks ms → m ≡ little ms → 0 < m → Lowest ms m
unfolding lowest-test
lowest-told ms m h e n =
    let t : Told ms = told_of h.each in
    let c = lowest-checked t.0 (t.2 ∙ h.eight) in
    let k : little (marks_from t.0) ≡ m = ap little (sym t.1) ∙ sym e in
    lowest-of ms m n (rw (k, ← t.1) at c)
