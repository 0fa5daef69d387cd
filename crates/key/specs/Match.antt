-- The call `same_key`: a stored key against the key of an identity and picks.
use Rattle.std.specs.Prelude.{List, ℕ, length, leb, Ok, Err, Result, Bool}
use Rattle.base.specs.Number.{pick}
use Rattle.base.specs.Same.{same}
use Rattle.refusal.specs.declared.Refusal.TheVariants.{Argument, Identity}
use Rattle.key.specs.Order.{Text}
use Rattle.key.specs.Picks.{passed_picks}
use Rattle.key.specs.Layout.{fit, key_of, max_identity}
use Rattle.refusal.specs.declared.Refusal.{Refusal}

-- the answer: 2, then 8, else whether the stored key is the key
unfoldable pub match_answer : List ℕ → Text → Text → List ℕ → Result Bool Refusal
match_answer stored identity bytes lengths =
    pick (fit bytes lengths)
    (pick (leb (length identity) max_identity)
    (Ok (same stored (key_of identity (passed_picks bytes lengths))))
    (Err Identity))
    (Err Argument)
