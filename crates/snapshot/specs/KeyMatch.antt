-- Key match: "A key matches exactly when the bank's key has its length and its bytes."
use Rattle.std.specs.Prelude.{List, ℕ, Ok, Err, Result, Bool}
use Rattle.key.specs.Order.{Text}
use Rattle.key.specs.Layout.{fit}
use Rattle.key.specs.Match.{match_answer}
use Rattle.header.specs.declared.Bank.{Bank}
use Rattle.region.specs.Region.{bank_of, data_of}
use Rattle.snapshot.specs.Freshness.{named_if}
use Rattle.refusal.specs.declared.Refusal.{Refusal}

-- a bank's key: the first bytes of its data
unfoldable pub key_in : List ℕ → Bank → List ℕ
key_in region b = data_of (bank_of region b.number) b.key

abbrev pub then_match : List ℕ → Text → Text → List ℕ → Result Bank Refusal → Result Bool Refusal
then_match region identity texts lengths (Ok b) = match_answer (key_in region b) identity texts lengths
then_match region identity texts lengths (Err r) = Err r

-- 1, 2 (bank and picks), 3 to 6, 8, then the match
unfoldable pub key_match_answer : List ℕ → ℕ → Text → Text → List ℕ → Result Bool Refusal
key_match_answer region n identity texts lengths = then_match region identity texts lengths (named_if (fit texts lengths) region n)
