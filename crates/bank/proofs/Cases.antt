-- A turn of data checking, case by case, as the definition nests them: no region, a state out of range, a header that fails, bytes left to
-- hash, and the verdict once all are hashed.
use mathlib.Core.Path.{◌≡◌, ap, sym}
use mathlib.Core.Bool.{true, false, ◌&&◌}
use mathlib.Core.List.{List}
use Prim.Native.Nat.{ℕ}
use lib.Dec.{leb, eqb}
use lib.ListN.{length}
use Rattle.refusal.specs.declared.Refusal.{Refusal}
use Rattle.refusal.specs.declared.Refusal.TheVariants.{Region, Data, Turn as OutOfTurn}
use Rattle.header.specs.declared.Bank.{Bank}
use Rattle.region.specs.Region.{region_size, capacity, bank_of}
use Rattle.header.specs.Header.{header_of}
use Rattle.bank.specs.declared.turns.Checking.{Checking}
use Rattle.bank.specs.declared.turns.Progress.TheVariants.{Hashed, Yes}
use Rattle.bank.specs.Bank.{named}
use Rattle.bank.specs.Turns.{stays, fresh, begin, started, hashed, on_bank, then_turn, turned}
use Rattle.std.specs.Prelude.{Ok, Err}

module _ (region : List ℕ) where
  pub start-good : (n : ℕ) (b : Bank) → named region n ≡ Ok b → stays (fresh n) (Ok (Hashed 0)) ≡ started region n
  unfolding started
  start-good n b h = sym (ap (begin n) h)

  pub start-bad : (n : ℕ) (r : Refusal) → named region n ≡ Err r → stays (fresh 255) (Err r) ≡ started region n
  unfolding started
  start-bad n r h = sym (ap (begin n) h)

  module _ (b : Bank) (s : Checking) (n : ℕ) where
    pub past-data : leb s.position b.length ≡ false → stays s (Err OutOfTurn) ≡ on_bank region b s n
    unfolding on_bank
    past-data e = rw e

    pub verdict-yes : leb s.position b.length ≡ true → eqb s.position b.length ≡ true → eqb s.crc b.crc ≡ true → stays s (Ok Yes) ≡ on_bank region b s n
    unfolding on_bank
    verdict-yes e f g = rw (e, f, g)

    pub verdict-no : leb s.position b.length ≡ true → eqb s.position b.length ≡ true → eqb s.crc b.crc ≡ false → stays s (Err Data) ≡ on_bank region b s n
    unfolding on_bank
    verdict-no e f g = rw (e, f, g)

    pub some_left : leb s.position b.length ≡ true → eqb s.position b.length ≡ false → hashed region b s n ≡ on_bank region b s n
    unfolding on_bank
    some_left e f = rw (e, f)

  module _ (s : Checking) (n : ℕ) where
    pub turn-no-region : eqb (length region) region_size ≡ false → stays s (Err Region) ≡ turned region s n
    unfolding turned
    turn-no-region e = rw e

    pub turn-forged : eqb (length region) region_size ≡ true → (leb s.bank 1 && leb s.position capacity) ≡ false → stays s (Err OutOfTurn) ≡ turned region s n
    unfolding turned
    turn-forged e f = rw (e, f)

    pub turn-bank : (b : Bank) → eqb (length region) region_size ≡ true → (leb s.bank 1 && leb s.position capacity) ≡ true → header_of s.bank (bank_of region s.bank) ≡ Ok b
        → on_bank region b s n ≡ turned region s n
    unfolding turned
    turn-bank b e f h = sym (rw (e, f) (ap (then_turn region s n) h))

    pub turn-bad : (r : Refusal) → eqb (length region) region_size ≡ true → (leb s.bank 1 && leb s.position capacity) ≡ true → header_of s.bank (bank_of region s.bank) ≡ Err r
        → stays s (Err r) ≡ turned region s n
    unfolding turned
    turn-bad r e f h = sym (rw (e, f) (ap (then_turn region s n) h))
