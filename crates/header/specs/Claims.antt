-- What is proved of the header as written, beyond the calls' promises (proofs/Laws.antt).
use Rattle.std.specs.Prelude.{◌≡◌, true, List, ◌++◌, ℕ, ◌+◌, ◌*◌, ◌≤◌, eqb, length, take, Ok, Err}
use Rattle.std.proofs.lemmas.List.Edits.{sets}
use Rattle.base.specs.Lists.{fill}
use Rattle.leaf.specs.Bytes.{word}
use Rattle.leaf.specs.Crc.{crc32}
use Rattle.record.specs.declared.Source.{Source}
use Rattle.record.specs.Types.{All}
use Rattle.refusal.specs.declared.Refusal.TheVariants.{Mark}
use Rattle.header.specs.declared.Bank.{Bank}
use Rattle.header.specs.Header.{seal_size, seal_of, sealed, judge, header_of, max_sources}
use Rattle.header.specs.WriteHeader.{header_bytes, blank_word, commit_bytes, is_fit}
use Rattle.header.specs.Types.{Proper, Numbers}
use Rattle.record.specs.Record.{current_version}

-- while the commit word is blank the bank meets 3, whatever follows the header
abbrev pub BlankRefused : Type 0
BlankRefused = (n : ℕ) (b : Bank) (ss : List Source) (rest : List ℕ) → header_of n (header_bytes b ss blank_word ++ rest) ≡ Err Mark

-- the same numbers, of bank n
abbrev pub numbered : ℕ → Bank → Bank
numbered n b =
    record {
      number = n;
      version = b.version;
      generation = b.generation;
      length = b.length;
      crc = b.crc;
      count = b.count;
      key = b.key;
      checked = b.checked;
    }

-- once the commit word is written, what is read is what was written, and 5 and 6 decide
abbrev pub HeaderBack : Type 0
HeaderBack =
    (b : Bank) (ss : List Source) (rest : List ℕ) → b.version ≡ current_version → Numbers b → All Proper ss → length ss ≤ max_sources → length ss ≡ b.count
    → (n : ℕ) → header_of n (header_bytes b ss commit_bytes ++ rest) ≡ judge (numbered n b) ss

-- a bank that passes 13 passes 3 to 6 once it is committed
abbrev pub Committed : Type 0
Committed =
    (b : Bank) (ss : List Source) (rest : List ℕ) → b.version ≡ current_version → Numbers b → All Proper ss → length ss ≡ b.count → is_fit b ss ≡ true
    → header_of b.number (header_bytes b ss commit_bytes ++ rest) ≡ Ok b

-- all of them: what `header_holds` promises
pub record Claims : Type 0 where
  pub blank_refused : BlankRefused
  pub header_back : HeaderBack
  pub committed : Committed

-- 01's own words and numbers: "header CRC 40 (over 48 bytes and all three records, bytes 40 to 47 as zero)", and "versions 1, 2, 3 have three
-- records of 160, 352, 384 bytes". The tests and what commit writes share `seal_of`, so `HeaderBack` and `Committed` would hold of many another sum;
-- this says which it is.
abbrev pub SealedAs : ℕ → ℕ → Type 0
SealedAs version size = (l : List ℕ) → word l 4 ≡ version → 48 ≤ length l → sealed l ≡ eqb (word l 40) (crc32 0 (take (48 + size * 3) (sets l 40 (fill 0 8))))

-- 02, E6: "fed part after part": the bytes before them, eight zeros, the records, each from the CRC of those before. So the zeros are a part
-- that is fed, and "the header's eight blank bytes" (blank: counted as zero) "need no copy".
abbrev pub SealInParts : Type 0
SealInParts = (front records : List ℕ) → seal_of front records ≡ crc32 (crc32 (crc32 0 front) (fill 0 seal_size)) records

-- all of the CRC: what `seal_holds` promises
pub record SealClaims : Type 0 where
  pub sealed1 : SealedAs 1 160
  pub sealed2 : SealedAs 2 352
  pub sealed3 : SealedAs 3 384
  pub seal_in_parts : SealInParts
