-- The two calls of a commit, case by case, as the definitions nest them: the answer and the region of each case. A refused call leaves the
-- region.
use mathlib.Core.Path.{◌≡◌, refl, ap}
use mathlib.Core.Bool.{Bool, true, false, ◌&&◌}
use mathlib.Core.List.{List, [], ◌∷◌}
use Prim.Native.Nat.{ℕ, ◌≤◌}
use native.Mathlib.Omega.{arith}
use lib.Dec.{eqb}
use lib.ListN.{length, take}
use borrow.Author.Tests.{eq-eqb, ne_eqb}
use Rattle.refusal.specs.declared.Refusal.TheVariants.{Region, Turn, Obsolete, Unfit}
use Rattle.header.specs.declared.Bank.{Bank}
use Rattle.region.specs.Region.{region_size}
use Rattle.header.specs.WriteHeader.{header_bytes, blank_word, commit_bytes, is_fit}
use Rattle.flash.specs.Flash.{write, performed}
use Rattle.writer.specs.declared.Stage.TheVariants.{HeaderWritten, Committed}
use Rattle.writer.specs.declared.Writer.{Writer}
use Rattle.writer.specs.State.{target, in_range, did, stays}
use Rattle.due.specs.Due.{with_stage}
use Rattle.due.proofs.Laws.{target_fits}
use Rattle.commit.specs.Commit.{bank_for, records_for, is_header_written, may_commit, is_current, commit_step, commit_ops, commit_region, word_step, word_ops, word_region}
use Rattle.header.specs.Header.{commit_offset}
use Rattle.std.specs.Prelude.{Option, ℤ}

and-false : (a : Bool) → (a && false) ≡ false
and-false true = refl
and-false false = refl

-- ---- the second call of a commit

module _ (region : List ℕ) (w : Writer) where
  pub word-done : length region ≡ region_size → (in_range w && is_header_written w.stage) ≡ true → did (with_stage w Committed) ≡ word_step region w
  unfolding word_step
  word-done e h = rw (eq-eqb (length region) region_size e, h)

  pub word-turn : length region ≡ region_size → (in_range w && is_header_written w.stage) ≡ false → stays w Turn ≡ word_step region w
  unfolding word_step
  word-turn e h = rw (eq-eqb (length region) region_size e, h)

  pub word-region : (length region ≡ region_size → ⊥) → stays w Region ≡ word_step region w
  unfolding word_step
  word-region e = rw (ne_eqb (length region) region_size e)

  pub word-written : length region ≡ region_size → (in_range w && is_header_written w.stage) ≡ true → performed (target w.beginning.active) (write commit_offset commit_bytes ∷ []) region ≡ word_region region w
  unfolding word_region word_ops
  word-written e h = rw (eq-eqb (length region) region_size e, h)

  pub word_kept : (in_range w && is_header_written w.stage) ≡ false → region ≡ word_region region w
  unfolding word_region word_ops performed
  word_kept h = rw (h, and-false (eqb (length region) region_size))

  pub word-other : (length region ≡ region_size → ⊥) → region ≡ word_region region w
  unfolding word_region word_ops performed
  word-other e = rw (ne_eqb (length region) region_size e)

-- ---- the bank to be committed

module _ (w : Writer) (stamp : Option ℤ) (b : Bank) (e : b ≡ bank_for w stamp) where
  pub number_fits : b.number ≤ 1
  unfolding bank_for
  number_fits = omega (arith, ap (λ (x : Bank). x.number) e, target_fits w.beginning.active)

  pub fit_is : is_fit b (take b.count w.sources) ≡ is_fit (bank_for w stamp) (records_for w)
  unfolding bank_for
  fit_is = ap (λ (x : Bank). is_fit x (take x.count w.sources)) e

  pub header_is : (region : List ℕ)
      → performed b.number (write 0 (header_bytes b (take b.count w.sources) blank_word) ∷ []) region
      ≡ performed (target w.beginning.active) (write 0 (header_bytes (bank_for w stamp) (records_for w) blank_word) ∷ []) region
  unfolding bank_for
  header_is region = ap (λ (x : Bank). performed x.number (write 0 (header_bytes x (take x.count w.sources) blank_word) ∷ []) region) e

-- ---- the first call of a commit

module _ (region : List ℕ) (w : Writer) (stamp : Option ℤ) (current : Bool) where
  module _ (e : length region ≡ region_size) where
    module _ (m : may_commit w ≡ true) where
      module _ (c : is_current w current ≡ true) where
        pub commit-done : is_fit (bank_for w stamp) (records_for w) ≡ true → did (with_stage w HeaderWritten) ≡ commit_step region w stamp current
        unfolding commit_step
        commit-done f = rw (eq-eqb (length region) region_size e, m, c, f)

        pub commit-written : is_fit (bank_for w stamp) (records_for w) ≡ true
            → performed (target w.beginning.active) (write 0 (header_bytes (bank_for w stamp) (records_for w) blank_word) ∷ []) region ≡ commit_region region w stamp current
        unfolding commit_region commit_ops
        commit-written f = rw (eq-eqb (length region) region_size e, m, c, f)

        pub commit-unfit : is_fit (bank_for w stamp) (records_for w) ≡ false → stays w Unfit ≡ commit_step region w stamp current
        unfolding commit_step
        commit-unfit f = rw (eq-eqb (length region) region_size e, m, c, f)

        pub kept-unfit : is_fit (bank_for w stamp) (records_for w) ≡ false → region ≡ commit_region region w stamp current
        unfolding commit_region commit_ops performed
        kept-unfit f = rw (eq-eqb (length region) region_size e, m, c, f)

      pub commit-obsolete : is_current w current ≡ false → stays w Obsolete ≡ commit_step region w stamp current
      unfolding commit_step
      commit-obsolete c = rw (eq-eqb (length region) region_size e, m, c)

      pub kept-obsolete : is_current w current ≡ false → region ≡ commit_region region w stamp current
      unfolding commit_region commit_ops performed
      kept-obsolete c = rw (eq-eqb (length region) region_size e, m, c)

    pub commit-turn : may_commit w ≡ false → stays w Turn ≡ commit_step region w stamp current
    unfolding commit_step
    commit-turn m = rw (eq-eqb (length region) region_size e, m)

    pub kept-turn : may_commit w ≡ false → region ≡ commit_region region w stamp current
    unfolding commit_region commit_ops performed
    kept-turn m = rw (eq-eqb (length region) region_size e, m)

  pub commit-region : (length region ≡ region_size → ⊥) → stays w Region ≡ commit_step region w stamp current
  unfolding commit_step
  commit-region e = rw (ne_eqb (length region) region_size e)

  pub kept-region : (length region ≡ region_size → ⊥) → region ≡ commit_region region w stamp current
  unfolding commit_region commit_ops performed
  kept-region e = rw (ne_eqb (length region) region_size e)
