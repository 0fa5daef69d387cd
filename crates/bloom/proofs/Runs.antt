-- A list of positions set one after the other: what insertion leaves and what it answers. By induction on the list; the positions are
-- distinct, so setting one doesn't change what is read at the others.
use Rattle.std.proofs.Common.{◌≡◌, ℕ, true, List, [], ◌∷◌, length, sym, refl, ◌∙◌}
use Rattle.bloom.specs.Bloom.{is_set, set_bit, all_set, seen, set_all}
use Rattle.bloom.specs.Positions.{Within}
use Rattle.bloom.proofs.Bits.{length-bit, bit-here, bit_kept, bit-other}

pub length-all : (ps bits : List ℕ) → length (set_all bits ps) ≡ length bits
unfolding set_all
length-all [] bits = refl
length-all (p ∷ ps) bits = length-all ps (set_bit bits p) ∙ length-bit bits p

pub kept-all : (ps bits : List ℕ) (p : ℕ) → is_set bits p ≡ true → is_set (set_all bits ps) p ≡ true
unfolding set_all
kept-all [] bits p h = h
kept-all (q ∷ ps) bits p h = kept-all ps (set_bit bits q) p (bit_kept bits q p h)

-- p is none of the positions
abbrev pub None : ℕ → List ℕ → Type 0
None p [] = Unit
None p (q ∷ ps) = (p ≡ q → ⊥) × None p ps

-- no two of the positions are the same
abbrev pub Distinct : List ℕ → Type 0
Distinct [] = Unit
Distinct (p ∷ ps) = None p ps × Distinct ps

pub other-all : (ps bits : List ℕ) (p : ℕ) → None p ps → is_set (set_all bits ps) p ≡ is_set bits p
unfolding set_all
other-all [] bits p h = refl
other-all (q ∷ ps) bits p h = other-all ps (set_bit bits q) p h.1 ∙ bit-other bits q p h.0

pub found_all : (ps bits : List ℕ) → Within (length bits) ps → all_set (set_all bits ps) ps ≡ true
unfolding set_all all_set
found_all [] bits h = refl
found_all (p ∷ ps) bits h =
    let here : is_set (set_all (set_bit bits p) ps) p ≡ true = kept-all ps (set_bit bits p) p (bit-here bits p h.0) in
    let rest : all_set (set_all (set_bit bits p) ps) ps ≡ true = found_all ps (set_bit bits p) (rw (length-bit bits p) h.1) in
    rw (here, rest)

-- setting a bit changes no answer at other positions
unchanged : (ps bits : List ℕ) (p : ℕ) → None p ps → all_set (set_bit bits p) ps ≡ all_set bits ps
unfolding all_set
unchanged [] bits p h = refl
unchanged (q ∷ ps) bits p h = rw (bit-other bits p q (λ e. h.0 (sym e)), unchanged ps bits p h.1)

pub seen_all : (ps bits : List ℕ) → Distinct ps → seen bits ps ≡ all_set bits ps
unfolding seen all_set
seen_all [] bits h = refl
seen_all (p ∷ ps) bits h = rw (seen_all ps (set_bit bits p) h.1, unchanged ps bits p h.0)
