-- The invariant: what holds between region, state and history between two calls. Load gives the bank held; the state is what the history
-- notes; and the bytes are in the bank as the stage says, or, in comparing mode, `different` says how they compare with the active bank's.
-- An operation that leaves the written bank unmarked keeps the held one.
use mathlib.Core.Path.{◌≡◌, refl, ap, ◌∙◌}
use mathlib.Core.Bool.{Bool, true, false}
use mathlib.Core.Logic.{◌⊎◌}
use mathlib.Core.List.{List, [], ◌++◌}
use Prim.Native.Nat.{ℕ, zero, suc, ◌+◌, ◌-◌, ◌%◌, ◌^◌, ◌≤◌, ◌<◌}
use native.Mathlib.Omega.{arith}
use lib.IntN.{ℤ}
use lib.ListN.{length, take, drop}
use mir.Syntax.{w64}
use mir.Val.{SFits}
use Rattle.leaf.specs.Crc.{crc32}
use Rattle.record.specs.declared.Source.{Source}
use Rattle.base.specs.Lists.{fill}
use Rattle.record.specs.Types.{All}
use Rattle.refusal.specs.declared.Refusal.TheVariants.{Mark}
use Rattle.header.specs.declared.Bank.{Bank}
use Rattle.region.specs.Region.{region_size, sector_size, bank_of, data_of}
use Rattle.header.specs.Header.{marked}
use Rattle.header.specs.WriteHeader.{header_bytes, blank_word, is_fit}
use Rattle.header.specs.Types.{Bytes, Proper, Numbers}
use Rattle.bank.specs.Bank.{validated, or_else, loaded}
use Rattle.flash.specs.Flash.{Op, done, torn}
use Rattle.flash.proofs.Laws.{length-torn, bank-torn, other-torn}
use Rattle.writer.specs.declared.Operation.TheVariants.{Erase, Write, Compare}
use Rattle.writer.specs.declared.Stage.{Stage}
use Rattle.writer.specs.declared.Stage.TheVariants.{Idle, Due, HeaderWritten, Committed}
use Rattle.writer.specs.declared.Beginning.{Beginning}
use Rattle.writer.specs.declared.Contents.{Contents}
use Rattle.writer.specs.declared.Tables.{Tables}
use Rattle.writer.specs.declared.Writer.{Writer}
use Rattle.writer.specs.State.{position, target, next_generation, is_open, in_range, tail_size}
use Rattle.powerloss.specs.History.{Note, Update, bank_of as bank_of_update, records_of, records_after}
use Rattle.powerloss.specs.Machine.{Image, bank_in, records_in}
use Rattle.powerloss.specs.Claim.{Holds}
use Rattle.powerloss.proofs.Load.{load-own, load-other, unmarked-refused, valid_same, target_fits}
use Rattle.powerloss.proofs.Records.{table_of, from_of}
use Rattle.std.specs.Prelude.{Ok, Err, Some, None, Result, Option}
use Rattle.refusal.specs.declared.Refusal.{Refusal}

-- ---- the region and the held bank

abbrev pub Small : Result (Option Bank) Refusal → Type 0
Small (Ok (Some b)) = b.generation < 2 ^ 32
Small (Ok None) = Unit {0}
Small (Err r) = Unit {0}

pub record Kept (region : List ℕ) (hd : Result (Option Bank) Refusal) (rs : List Source) (im : Image) : Type 0 where
  pub size : length region ≡ region_size
  pub loads : loaded region ≡ hd
  pub records : records_in region hd ≡ rs
  pub image : bank_in region hd ≡ im.bank
  pub given : Holds im.bank im.given
  pub small : Small hd

-- the bank that isn't written is the one held
pub record Live (region : List ℕ) (hd a : Result (Option Bank) Refusal) : Type 0 where
  pub active : a ≡ hd
  pub other : or_else (validated region (1 - target hd)) (Ok None) ≡ hd

-- ---- the state and the open update

pub record Began (b : Beginning) (n g : ℕ) (t : ℤ) : Type 0 where
  pub number : n ≡ target b.active
  pub generation : g ≡ next_generation b.active
  pub now : t ≡ b.now
  pub fits : SFits w64 b.now

pub record Counted (t : Contents) (d : List ℕ) : Type 0 where
  pub length· : length d ≡ position t
  pub crc : t.crc ≡ crc32 0 d

pub record OpenTable (s : Tables) (d : List ℕ) (ns : List Note) : Type 0 where
  pub table : table_of 0 ns ≡ s.table
  pub start : from_of 0 ns ≡ s.start
  pub crc : s.crc ≡ crc32 0 (drop s.start d)

pub record Noted (s : Tables) (ss : List Source) (d : List ℕ) (ns : List Note) : Type 0 where
  pub records : (ys : List ℕ) → records_after (d ++ ys) [] 0 0 ns ≡ take s.count ss
  pub proper : All Proper (take s.count ss)
  pub sources : length ss ≡ 3
  pub table : is_open s ≡ true → OpenTable s d ns

pub record Tailed (tail : List ℕ) : Type 0 where
  pub length· : length tail ≡ tail_size
  pub bytes : Bytes tail

pub record Tied (w : Writer) (u : Update) : Type 0 where
  pub range : in_range w ≡ true
  pub began : Began w.beginning u.number u.generation u.now
  pub counted : Counted w.contents u.data·
  pub noted : Noted w.tables w.sources u.data· u.notes
  pub tailed : Tailed w.tail
  pub ended : w.contents.closed ≡ true → is_open w.tables ≡ false

-- ---- where the bytes are in the bank that is written

-- nothing is done yet: the bytes are in the tail
pub record Bare (wr fl : ℕ) (tail d : List ℕ) : Type 0 where
  pub written : wr ≡ 0
  pub all : d ≡ take fl tail

-- the header sector is blank, the written bytes follow, then blank bytes up to the end of the erased sectors: at least lo, below hi
pub record Laid (lo hi wr fl : ℕ) (tail d b : List ℕ) : Type 0 where
  pub front : List ℕ
  pub rest : List ℕ
  pub gap : ℕ
  pub lies : b ≡ fill 255 sector_size ++ (front ++ (fill 255 gap ++ rest))
  pub count : length front ≡ wr
  pub all : d ≡ front ++ take fl tail
  pub ends : (wr + gap) % sector_size ≡ 0
  pub least : lo ≤ gap
  pub most : gap < hi

-- the header is written, its commit word blank
pub record HeaderLies (u : Update) (b : List ℕ) : Type 0 where
  pub rest : List ℕ
  pub lies : b ≡ header_bytes (bank_of_update u) (records_of u) blank_word ++ (fill 255 2896 ++ (u.data· ++ rest))
  pub fit : is_fit (bank_of_update u) (records_of u) ≡ true
  pub numbers : Numbers (bank_of_update u)
  pub proper : All Proper (records_of u)

abbrev pub Lies : Stage → Contents → List ℕ → Update → List ℕ → Type 0
Lies Idle t tail u b = Bare t.written t.fill tail u.data· ⊎ (Laid 0 sector_size t.written t.fill tail u.data· b × (0 < t.written))
Lies (Due (Erase zero)) t tail u b = Bare t.written t.fill tail u.data·
Lies (Due (Erase (suc k))) t tail u b = Laid 0 sector_size t.written t.fill tail u.data· b
Lies (Due (Write a n)) t tail u b = Laid tail_size 4097 t.written t.fill tail u.data· b
Lies (Due (Compare a n)) t tail u b = ⊥
Lies HeaderWritten t tail u b = HeaderLies u b
Lies Committed t tail u b = Unit {0}

abbrev pub LiveAt : Stage → List ℕ → Result (Option Bank) Refusal → Result (Option Bank) Refusal → Type 0
LiveAt Committed region hd active = Unit {0}
LiveAt Idle region hd active = Live region hd active
LiveAt (Due o) region hd active = Live region hd active
LiveAt HeaderWritten region hd active = Live region hd active

-- ---- which bytes were compared

-- these bytes are the first ones of the bank's data
pub record Begins (region : List ℕ) (b : Bank) (xs : List ℕ) : Type 0 where
  pub fits : length xs ≤ b.length
  pub same : data_of (bank_of region b.number) (length xs) ≡ xs

-- `different` is false exactly while the active bank's data begin with the bytes compared
abbrev pub Told : List ℕ → Result (Option Bank) Refusal → List ℕ → Bool → Type 0
Told region (Ok (Some b)) xs d = (d ≡ false → Begins region b xs) × (Begins region b xs → d ≡ false)
Told region (Ok None) xs d = Unit {0}
Told region (Err r) xs d = Unit {0}

-- the bytes compared, front, are the first `written` ones of the update; the others are in the tail
pub record Compared (region : List ℕ) (active : Result (Option Bank) Refusal) (wr fl : ℕ) (different : Bool) (tail d : List ℕ) : Type 0 where
  pub front : List ℕ
  pub count : length front ≡ wr
  pub all : d ≡ front ++ take fl tail
  pub told : Told region active front different

-- comparing does nothing to the region
abbrev pub Mode : Bool → Stage → List ℕ → Result (Option Bank) Refusal → Result (Option Bank) Refusal → Contents → List ℕ → Update → Type 0
Mode true st region hd active t tail u = (active ≡ hd) × Compared region active t.written t.fill t.different tail u.data·
Mode false st region hd active t tail u = LiveAt st region hd active × Lies st t tail u (bank_of region (target active))

pub record Open (region : List ℕ) (hd : Result (Option Bank) Refusal) (w : Writer) (u : Update) : Type 0 where
  pub tied : Tied w u
  pub mode : Mode w.beginning.comparing w.stage region hd w.beginning.active w.contents w.tail u

-- without a state nothing is required; with one an update is open
abbrev pub State : List ℕ → Result (Option Bank) Refusal → Option Writer → Option Update → Type 0
State region hd None v = Unit {0}
State region hd (Some w) None = ⊥
State region hd (Some w) (Some u) = Open region hd w u

-- ---- an operation, whole or in part, that leaves the written bank without its mark

module _ (region : List ℕ) (hd : Result (Option Bank) Refusal) (rs : List Source) (im : Image) (k : Kept region hd rs im) (j : ℕ) (op : Op) where
  abbrev after : List ℕ
  after = torn (target hd) j op region

  length-after : length after ≡ region_size
  length-after = length-torn region (target hd) k.size (target_fits hd) j op

  same-bank : (m : ℕ) → m ≤ 1 → (m ≡ target hd → ⊥) → bank_of after m ≡ bank_of region m
  same-bank m h ne = other-torn region (target hd) k.size (target_fits hd) j op m h ne

  same-other : validated after (1 - target hd) ≡ validated region (1 - target hd)
  same-other =
      valid_same region after (1 - target hd) k.size length-after (omega arith) (same-bank (1 - target hd) (omega arith) (λ e. omega arith))

  pub live-after : (active : Result (Option Bank) Refusal) → Live region hd active → Live after hd active
  live-after active v = record { active = v.active; other = ap (λ (x : Result Bank Refusal). or_else x (Ok None)) same-other ∙ v.other }

same-records : (region region' : List ℕ) (hd : Result (Option Bank) Refusal) → length region ≡ region_size → loaded region ≡ hd → ((m : ℕ) → m ≤ 1 → (m ≡ target hd → ⊥) → bank_of region' m ≡ bank_of region m)
    → (records_in region' hd ≡ records_in region hd) × (bank_in region' hd ≡ bank_in region hd)
unfolding target
same-records region region' (Ok (Some b)) e g f =
    let o = load-own region b e g in
    let q = f b.number o.number (λ h. omega (arith, o.number)) in
    rw q (refl, refl)
same-records region region' (Ok None) e g f = (refl, refl)
same-records region region' (Err r) e g f = (refl, refl)

module _ (region : List ℕ) (hd : Result (Option Bank) Refusal) (rs : List Source) (im : Image) (k : Kept region hd rs im) (j : ℕ) (op : Op) where
  -- the held bank's bytes stay
  pub kept-records : records_in (torn (target hd) j op region) hd ≡ rs
  kept-records = (same-records region (torn (target hd) j op region) hd k.size k.loads (same-bank region hd rs im k j op)).0 ∙ k.records

  pub kept-image : bank_in (torn (target hd) j op region) hd ≡ im.bank
  kept-image = (same-records region (torn (target hd) j op region) hd k.size k.loads (same-bank region hd rs im k j op)).1 ∙ k.image

  pub kept-unmarked : (active : Result (Option Bank) Refusal) → Live region hd active → marked (done j op (bank_of region (target hd))) ≡ false → Kept (torn (target hd) j op region) hd rs im
  kept-unmarked active v f =
      let n = target hd in
      let r' = torn n j op region in
      let l = length-after region hd rs im k j op in
      record {
        size = l;
        loads =
            load-other r' n Mark l (target_fits hd) (unmarked-refused r' n l (target_fits hd) (ap marked (bank-torn region n k.size (target_fits hd) j op) ∙ f))
            ∙ (live-after region hd rs im k j op active v).other;
        records = kept-records;
        image = kept-image;
        given = k.given;
        small = k.small;
      }
