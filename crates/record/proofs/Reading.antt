-- A list of elements of one size that was written reads back, at whatever offset it is: a reader that looks only from its offset on sees
-- each element after the ones before it.
use mathlib.Core.Path.{◌≡◌, refl, ap, ◌∙◌, sym}
use mathlib.Core.List.{List, [], ◌∷◌, ◌++◌, append_assoc}
use Prim.Native.Nat.{ℕ, suc, zero, ◌+◌, ◌-◌, ◌<◌, ◌≤◌}
use native.Mathlib.Omega.{arith}
use native.Mathlib.Nat.{add-zero, zero-add, add_assoc}
use lib.ListN.{length, take, drop, get_or, get_or-eq_default}
use lib.Seq.{get_or-append-add}
use Rattle.std.proofs.Common.{get_or-drop}
use Rattle.leaf.specs.Bytes.{word, le32}
use Rattle.base.specs.Lists.{many, puts, fill, byte}
use Rattle.leaf.proofs.Laws.{Shifts, word-shifts, word-front, length-le32}
use Rattle.record.specs.Types.{All}

pub byte-shifts : Shifts byte
byte-shifts p q k = get_or-append-add p q k 0

module _ {A : Type 0} (f : List ℕ → ℕ → A) (step : ℕ) (shifts : Shifts f) where
  pub many-shifts : (n : ℕ) (p q : List ℕ) (k : ℕ) → many f step (p ++ q) (length p + k) n ≡ many f step q k n
  unfolding many
  many-shifts zero p q k = refl
  many-shifts (suc n) p q k = rw (shifts p q k, add_assoc (length p) k step) (ap (λ t. f q k ∷ t) (many-shifts n p q (k + step)))

  pub many-at : (n : ℕ) (p q : List ℕ) (k : ℕ) → length p ≡ k → many f step (p ++ q) k n ≡ many f step q 0 n
  many-at n p q k e = rw (← e, ← add-zero (length p)) (many-shifts n p q 0)

  module _ (g : A → List ℕ) (Good : A → Type 0) (each : (x : A) → length (g x) ≡ step) (one : (x : A) → Good x → (q : List ℕ) → f (g x ++ q) 0 ≡ x) where
    pub all_back : (xs : List A) → All Good xs → (q : List ℕ) → many f step (puts g xs ++ q) 0 (length xs) ≡ xs
    unfolding many puts All
    all_back [] h q = refl
    all_back (x ∷ xs) h q =
        let e : puts g (x ∷ xs) ++ q ≡ g x ++ (puts g xs ++ q) = append_assoc (g x) (puts g xs) q in
        ap (λ (l : List ℕ). many f step l 0 (suc (length xs))) e
        ∙ rw (one x h.0 (puts g xs ++ q), zero-add step)
        (ap (λ t. x ∷ t) (many-at (length xs) (g x) (puts g xs ++ q) step (each x) ∙ all_back xs h.1 q))

    pub run-back : (xs : List A) → All Good xs → (p q : List ℕ) (k n : ℕ) → length p ≡ k → length xs ≡ n → many f step (p ++ (puts g xs ++ q)) k n ≡ xs
    run-back xs h p q k n e m = many-at n p (puts g xs ++ q) k e ∙ rw (← m) (all_back xs h q)

bytes-front : (m q : List ℕ) → many byte 1 (m ++ q) 0 (length m) ≡ m
unfolding many
bytes-front [] q = refl
bytes-front (x ∷ m) q = ap (λ t. x ∷ t) (many-at byte 1 byte-shifts (length m) (x ∷ []) (m ++ q) 1 refl ∙ bytes-front m q)

pub bytes_back : (m p q : List ℕ) (k n : ℕ) → length p ≡ k → length m ≡ n → many byte 1 (p ++ (m ++ q)) k n ≡ m
bytes_back m p q k n e h = many-at byte 1 byte-shifts n p (m ++ q) k e ∙ rw (← h) (bytes-front m q)

pub words_back : (xs : List ℕ) → All (λ n. n < 4294967296) xs → (p q : List ℕ) (k n : ℕ) → length p ≡ k → length xs ≡ n → many word 4 (p ++ (puts le32 xs ++ q)) k n ≡ xs
words_back = run-back word 4 word-shifts le32 (λ n. n < 4294967296) length-le32 (λ n h q. word-front n q h)

-- past the end bytes read as zeros
pub past : (n : ℕ) (l : List ℕ) (at : ℕ) → length l ≤ at → many byte 1 l at n ≡ fill 0 n
unfolding many fill
past zero l at h = refl
past (suc n) l at h = rw (get_or-eq_default l 0 h) (ap (λ (t : List ℕ). 0 ∷ t) (past n l (at + 1) (omega arith)))

many-drop : (n : ℕ) (l : List ℕ) (at k : ℕ) → many byte 1 (drop at l) k n ≡ many byte 1 l (at + k) n
unfolding many
many-drop zero l at k = refl
many-drop (suc n) l at k = rw (get_or-drop at l k 0, add_assoc at k 1) (ap (λ (t : List ℕ). get_or l (at + k) 0 ∷ t) (many-drop n l at (k + 1)))

there : (n : ℕ) (d : List ℕ) → take n d ++ fill 0 (n - length (take n d)) ≡ many byte 1 d 0 n
unfolding many fill
there zero d = refl
there (suc n) [] =
    let e : suc n - 0 ≡ suc n = omega arith in
    rw e (sym (past (suc n) [] 0 (omega arith)))
there (suc n) (x ∷ d) =
    let e : suc n - suc (length (take n d)) ≡ n - length (take n d) = omega arith in
    rw e (ap (λ (t : List ℕ). x ∷ t) (there n d ∙ sym (many-at byte 1 byte-shifts n (x ∷ []) d 1 refl)))

-- n bytes from an offset on: those that are there, and zeros past the end
pub bytes-there : (n : ℕ) (l : List ℕ) (at : ℕ) → take n (drop at l) ++ fill 0 (n - length (take n (drop at l))) ≡ many byte 1 l at n
bytes-there n l at = there n (drop at l) ∙ many-drop n l at 0 ∙ rw add-zero
