-- Data checking in turns.
use Rattle.std.specs.Prelude.{◌&&◌, List, [], ◌∷◌, ◌≡◌, ℕ, ◌+◌, ◌-◌, ◌≤◌, ◌<◌, min, leb, eqb, length, take, drop, Ok, Err, Result}
use Rattle.base.specs.Number.{pick}
use Rattle.leaf.specs.Crc.{crc32}
use Rattle.refusal.specs.declared.Refusal.TheVariants.{Region, Data, Turn as OutOfTurn}
use Rattle.header.specs.declared.Bank.{Bank}
use Rattle.region.specs.Region.{region_size, capacity, last_bank, bank_of}
use Rattle.header.specs.Header.{header_of}
use Rattle.bank.specs.declared.turns.Checking.{Checking}
use Rattle.bank.specs.declared.turns.Progress.TheVariants.{Hashed, Yes}
use Rattle.bank.specs.declared.turns.Turn.{Turn}
use Rattle.bank.specs.Bank.{named, validated, data_in}
use Rattle.refusal.specs.declared.Refusal.{Refusal}
use Rattle.bank.specs.declared.turns.Progress.{Progress}

-- the answer p with the state s; a refusal and a verdict leave the state unchanged
abbrev pub stays : Checking → Result Progress Refusal → Turn
stays s p = record { progress = p; next = s }

-- a number of no bank
abbrev pub no_bank : ℕ
no_bank = 255

-- the state before the first turn on bank n, and the one that a refused beginning gives, which every turn refuses
abbrev pub fresh : ℕ → Checking
fresh n = record { bank = n; position = 0; crc = 0 }

abbrev pub begin : ℕ → Result Bank Refusal → Turn
begin n (Ok b) = stays (fresh n) (Ok (Hashed 0))
begin n (Err r) = stays (fresh no_bank) (Err r)

-- a beginning on bank n
unfoldable pub started : List ℕ → ℕ → Turn
started region n = begin n (named region n)

-- a turn given n bytes hashes the smaller of n and what is left
abbrev pub count_of : Bank → Checking → ℕ → ℕ
count_of b s n = min n (b.length - s.position)

unfoldable pub hashed : List ℕ → Bank → Checking → ℕ → Turn
hashed region b s n =
    record {
      progress = Ok (Hashed (count_of b s n));
      next = record {
        bank = s.bank;
        position = s.position + count_of b s n;
        crc = crc32 s.crc (take (count_of b s n) (drop s.position (data_in region b)));
      };
    }

-- a turn with nothing left gives the verdict
abbrev pub verdict : Bank → Checking → Result Progress Refusal
verdict b s = pick (eqb s.crc b.crc) (Ok Yes) (Err Data)

unfoldable pub on_bank : List ℕ → Bank → Checking → ℕ → Turn
on_bank region b s n =
    pick (leb s.position b.length)
    (pick (eqb s.position b.length) (stays s (verdict b s)) (hashed region b s n))
    (stays s (Err OutOfTurn))

abbrev pub then_turn : List ℕ → Checking → ℕ → Result Bank Refusal → Turn
then_turn region s n (Ok b) = on_bank region b s n
then_turn region s n (Err r) = stays s (Err r)

-- 1; 11 for a bank or a position past its range; 3 to 6; 11 for a position past the data; then the turn
unfoldable pub turned : List ℕ → Checking → ℕ → Turn
turned region s n =
    pick (eqb (length region) region_size)
    (pick (leb s.bank last_bank && leb s.position capacity)
    (then_turn region s n (header_of s.bank (bank_of region s.bank)))
    (stays s (Err OutOfTurn)))
    (stays s (Err Region))

-- after turns of these numbers of bytes: the state, and the sum of the reported numbers
unfoldable pub after : List ℕ → Checking → List ℕ → Checking
after region s [] = s
after region s (n ∷ ns) = after region (turned region s n).next ns

abbrev pub reported : Result Progress Refusal → ℕ
reported (Ok (Hashed n)) = n
reported (Ok Yes) = 0
reported (Err r) = 0

unfoldable pub total : List ℕ → Checking → List ℕ → ℕ
total region s [] = 0
total region s (n ∷ ns) = reported (turned region s n).progress + total region (turned region s n).next ns

-- validate's answer as a turn's
abbrev pub as_verdict : Result Bank Refusal → Result Progress Refusal
as_verdict (Ok b) = Ok Yes
as_verdict (Err r) = Err r

-- However the bytes are divided: the reported numbers sum to at most the data length; below it a further turn reports a number;
-- at it, and only there, a further turn gives the verdict, which is validate's.
pub record Divided (region : List ℕ) (n : ℕ) (b : Bank) (ns : List ℕ) : Type 0 where
  pub within : total region (fresh n) ns ≤ b.length
  pub going : (m : ℕ) → total region (fresh n) ns < b.length → (turned region (after region (fresh n) ns) m).progress ≡ Ok (Hashed (min m (b.length - total region (fresh n) ns)))
  pub done : (m : ℕ) → total region (fresh n) ns ≡ b.length → (turned region (after region (fresh n) ns) m).progress ≡ as_verdict (validated region n)

abbrev pub TurnsValidate : Type 0
TurnsValidate = (region : List ℕ) (n : ℕ) (b : Bank) → named region n ≡ Ok b → (ns : List ℕ) → Divided region n b ns
