-- What is proved of data checking in turns, beyond the calls' promises.
use Rattle.std.specs.Prelude.{◌≡◌, List, ℕ, Ok}
use Rattle.header.specs.declared.Bank.{Bank}
use Rattle.bank.specs.Bank.{named}
use Rattle.bank.specs.Turns.{fresh, started, TurnsValidate}

-- all of them: what `turns_hold` promises
pub record Claims : Type 0 where
  -- on a bank that passes 3 to 6 a check starts with no byte hashed
  pub starts_fresh : (region : List ℕ) (n : ℕ) (b : Bank) → named region n ≡ Ok b → (started region n).next ≡ fresh n
  pub turns_validate : TurnsValidate
