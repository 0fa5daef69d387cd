-- What is proved of the leaves beyond the calls' promises.
use Rattle.std.specs.Prelude.{◌≡◌, ℕ, ◌+◌, ◌^◌, ◌<◌, ◌≤◌, Bool, true, false, ◌⊎◌, List, [], ◌++◌, length, ℤ, FitsSigned}
use Rattle.std.specs.Int.{w64}
use Rattle.base.specs.Lists.{byte}
use Rattle.leaf.specs.Bytes.{word_size, time_size, word, time, le32, le64, written}
use Rattle.leaf.specs.Crc.{frame, complement_first, shifted, fcs, crc32}
use Rattle.leaf.specs.Date.{is_date, date_number, valid_date, SomeDate}
use Rattle.leaf.specs.Generation.{newer, next}
use Rattle.leaf.specs.Polynomial.{degree, remainder, quotient, Division}

-- numbers in bytes: what `numbers_hold` promises (proofs/Laws.antt)
pub record Numbers : Type 0 where
  -- what is written is read back, and no other byte changes
  pub word_back : (l : List ℕ) (at n : ℕ) → n < 2 ^ 32 → at + word_size ≤ length l → word (written l at (le32 n)) at ≡ n
  pub time_back : (l : List ℕ) (at : ℕ) (z : ℤ) → FitsSigned w64 z → at + time_size ≤ length l → time (written l at (le64 z)) at ≡ z
  pub written_other : (l : List ℕ) (at : ℕ) (v : List ℕ) (k : ℕ) → (k < at) ⊎ (at + length v ≤ k) → byte (written l at v) k ≡ byte l k
  -- what is read from bytes fits
  pub word_fits : (l : List ℕ) (at : ℕ) → ((k : ℕ) → byte l k < 256) → word l at < 2 ^ 32
  pub time_fits : (l : List ℕ) (at : ℕ) → ((k : ℕ) → byte l k < 256) → FitsSigned w64 (time l at)

-- generations: what `generations_hold` promises (proofs/Laws.antt)
pub record Generations : Type 0 where
  -- none is newer than itself, of two at most one is newer, the next one is
  pub not_itself : (g : ℕ) → newer g g ≡ false
  pub not_both : (a b : ℕ) → a < 2 ^ 32 → b < 2 ^ 32 → newer a b ≡ true → newer b a ≡ false
  pub next_is_newer : (g : ℕ) → g < 2 ^ 32 → newer (next g) g ≡ true

-- dates: what `dates_hold` promises (proofs/Laws.antt). A number is valid exactly when it is some date's.
pub record Dates : Type 0 where
  pub number_is_valid : (y m d : ℕ) → is_date y m d ≡ true → valid_date (date_number y m d) ≡ true
  pub valid_is_some : (n : ℕ) → valid_date n ≡ true → SomeDate n

-- CRC-32: what `crc_holds` promises (proofs/Checksum.antt, proofs/Remainder.antt)
pub record Crc : Type 0 where
  -- from 0 it is the standard's CRC of a frame, which is the complement of a division's remainder
  pub standard : (s : List ℕ) → crc32 0 s ≡ fcs s
  pub divided : (s : List ℕ)
      → Division (complement_first degree (shifted s)) (quotient (length (frame s)) (complement_first degree (shifted s))) (remainder (length (frame s)) (complement_first degree (shifted s)))
  -- dividend = quotient × G + remainder, the remainder of lower degree; no other quotient and remainder do that
  pub division : (n : ℕ) (p : List Bool) → length p ≡ n + degree → Division p (quotient n p) (remainder n p)
  pub unique : (p q r s t : List Bool) → Division p q r → Division p s t → (q ≡ s) × (r ≡ t)
  -- two parts, one after the other, give the CRC of the parts joined; no bytes leave it; it has 32 bits
  pub append : (start : ℕ) (s t : List ℕ) → crc32 (crc32 start s) t ≡ crc32 start (s ++ t)
  pub nothing : (start : ℕ) → start < 2 ^ 32 → crc32 start [] ≡ start
  pub fits : (start : ℕ) (s : List ℕ) → crc32 start s < 2 ^ 32
