-- What is proved of flash operations, whole and cut, beyond the calls' promises (proofs/Laws.antt).
use Rattle.std.specs.Prelude.{◌≡◌, List, ◌++◌, ℕ, ◌+◌, ◌*◌, ◌≤◌, ◌<◌, take, drop, length}
use Rattle.std.specs.Int.Bits.{bit_and}
use Rattle.base.specs.Lists.{fill, byte}
use Rattle.region.specs.Region.{region_size, bank_size, sector_size, erased_byte, last_bank, bank_of}
use Rattle.flash.specs.Flash.{Op, erase, write, clear, offset, size, done, torn, applied, performed}

-- E5: "Take a write that is cut to leave a first part of its bytes written, and an erase that is cut to leave a first part of its sector
-- erased, the rest untouched." Up to the end of the operation's first j bytes the region is as the whole operation leaves it; after that
-- it is as it was.
abbrev pub FirstPart : Type 0
FirstPart =
    (n j : ℕ) (op : Op) (region : List ℕ) → n ≤ last_bank → length region ≡ region_size → offset op + size op ≤ bank_size → j ≤ size op
    → torn n j op region ≡ take (n * bank_size + (offset op + j)) (applied n op region) ++ drop (n * bank_size + (offset op + j)) region

-- every number of a list is below 256
abbrev pub Bytes : List ℕ → Type 0
Bytes l = (k : ℕ) → byte l k < 256

-- all of them: what `flash_holds` promises
pub record Claims : Type 0 where
  -- "a write clears bits only"
  pub clears_only : (ws b : List ℕ) (i : ℕ) → bit_and (byte (clear ws b) i) (byte b i) ≡ byte (clear ws b) i
  -- "an erase sets a 4,096-byte sector to 255", and no other byte
  pub erase_over : (p x r : List ℕ) (at : ℕ) → length p ≡ at → length x ≡ sector_size → done sector_size (erase at) (p ++ (x ++ r)) ≡ p ++ (fill erased_byte sector_size ++ r)
  -- a write over erased bytes leaves what is written, and every other byte
  pub write_over : (p ws r : List ℕ) (at : ℕ) → length p ≡ at → Bytes ws → done (length ws) (write at ws) (p ++ (fill erased_byte (length ws) ++ r)) ≡ p ++ (ws ++ r)
  -- operations on a bank leave the other one
  pub other_performed : (n m : ℕ) (ops : List Op) (region : List ℕ) → n ≤ last_bank → m ≤ last_bank → (m ≡ n → ⊥) → length region ≡ region_size → bank_of (performed n ops region) m ≡ bank_of region m
  -- cut before its first byte, an operation does nothing; it never touches a byte before its offset
  pub done_zero : (op : Op) (b : List ℕ) → done 0 op b ≡ b
  pub done_before : (j : ℕ) (op : Op) (i : ℕ) (b : List ℕ) → i < offset op → offset op ≤ length b → byte (done j op b) i ≡ byte b i
  -- cut after its last byte it is whole; and it leaves the other bank
  pub torn_whole : (region : List ℕ) (n j : ℕ) (op : Op) → length region ≡ region_size → n ≤ last_bank → size op ≤ j → torn n j op region ≡ applied n op region
  pub other_torn : (region : List ℕ) (n m j : ℕ) (op : Op) → length region ≡ region_size → n ≤ last_bank → m ≤ last_bank → (m ≡ n → ⊥) → bank_of (torn n j op region) m ≡ bank_of region m
  pub first_part : FirstPart
