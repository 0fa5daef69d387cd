-- A search from an index on: a byte that differs is passed over, one that is equal ends it, and past the end nothing is found. Each is a turn or
-- an exit of the loop in `text::find`.
use Rattle.std.proofs.Common.{◌≡◌, ℕ, suc, ◌+◌, ◌<◌, ◌≤◌, min, List, length, get_or, add-one, arith, drop_of_length-le, drop-cons, eq-eqb, ne_eqb}
use Rattle.program.specs.Text.{count_before, index_from}

module _ (s : List ℕ) (i b : ℕ) where
  pub passes : i < length s → (get_or s i 0 ≡ b → ⊥) → index_from s i b ≡ index_from s (i + 1) b
  unfolding index_from count_before
  passes h e =
      let m : min i (length s) ≡ i = omega arith in
      let n : min (i + 1) (length s) ≡ suc i = omega arith in
      rw (m, n, add-one, drop-cons s i 0 h, ne_eqb (get_or s i 0) b e) (omega arith)

  pub found : i < length s → get_or s i 0 ≡ b → i ≡ index_from s i b
  unfolding index_from count_before
  found h e =
      let m : min i (length s) ≡ i = omega arith in
      rw (m, drop-cons s i 0 h, eq-eqb (get_or s i 0) b e) (omega arith)

  pub ends : length s ≤ i → length s ≡ index_from s i b
  unfolding index_from count_before
  ends h =
      let m : min i (length s) ≡ length s = omega arith in
      rw (m, drop_of_length-le s {i = i} h) (omega arith)
