-- Key match, two cases: region, picks and header pass and the stored key is compared, or one of them is refused.
use mathlib.Core.Path.{◌≡◌, ap, sym}
use mathlib.Core.List.{List}
use Prim.Native.Nat.{ℕ}
use Rattle.refusal.specs.declared.Refusal.{Refusal}
use Rattle.key.specs.Order.{Text}
use Rattle.key.specs.Layout.{fit}
use Rattle.key.specs.Match.{match_answer}
use Rattle.header.specs.declared.Bank.{Bank}
use Rattle.snapshot.specs.Freshness.{named_if}
use Rattle.snapshot.specs.KeyMatch.{key_in, then_match, key_match_answer}
use Rattle.std.specs.Prelude.{Ok, Err}

module _ (region : List ℕ) (n : ℕ) (identity texts : Text) (lengths : List ℕ) where
  pub match-good : (b : Bank) → named_if (fit texts lengths) region n ≡ Ok b → match_answer (key_in region b) identity texts lengths ≡ key_match_answer region n identity texts lengths
  unfolding key_match_answer
  match-good b h = sym (ap (then_match region identity texts lengths) h)

  pub match-bad : (r : Refusal) → named_if (fit texts lengths) region n ≡ Err r → Err r ≡ key_match_answer region n identity texts lengths
  unfolding key_match_answer
  match-bad r h = sym (ap (then_match region identity texts lengths) h)
