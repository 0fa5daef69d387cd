-- What the types of a bank's numbers and records say of their values. It holds of all of them in a program.
use Rattle.std.specs.Prelude.{List, ℕ, ◌<◌}
use Rattle.std.specs.Int.{w64}
use Rattle.std.proofs.Common.{SFits}
use Rattle.base.specs.Number.{byte_values}
use Rattle.base.specs.Lists.{byte}
use Rattle.record.specs.declared.Source.{Source}
use Rattle.record.specs.Types.{U32, Sized, Ranged}
use Rattle.header.specs.declared.Bank.{Bank}

-- every number of a list is a byte
abbrev pub Bytes : List ℕ → Type 0
Bytes l = (k : ℕ) → byte l k < byte_values

pub record TextBytes (s : Source) : Type 0 where
  pub stamp : Bytes s.stamp
  pub idlen : s.idlen < byte_values
  pub id : Bytes s.id
  pub validator : Bytes s.validator

pub record Proper (s : Source) : Type 0 where
  pub sized : Sized s
  pub ranged : Ranged s
  pub texts : TextBytes s

pub record Numbers (b : Bank) : Type 0 where
  pub version : U32 b.version
  pub generation : U32 b.generation
  pub length : U32 b.length
  pub crc : U32 b.crc
  pub count : U32 b.count
  pub key : U32 b.key
  pub checked : SFits w64 b.checked
