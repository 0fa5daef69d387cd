-- However the bytes are divided into turns, the verdict is that of `validate`. After turns that hashed k bytes the state holds the CRC of
-- the first k, since the CRC of two parts in turn is that of them joined.
use mathlib.Core.Path.{◌≡◌, refl, ap, ◌∙◌, sym}
use mathlib.Core.Bool.{Bool, true, false}
use mathlib.Core.List.{List, [], ◌∷◌}
use Prim.Native.Nat.{ℕ, ◌+◌, ◌-◌, ◌≤◌, ◌<◌, min}
use native.Mathlib.Omega.{arith}
use native.Mathlib.Nat.{add-zero, zero-add, add_assoc}
use borrow.Author.Tests.{eq-eqb, ne_eqb, eqb-true, eqb-false, le-leb}
use lib.Dec.{leb, eqb, lit<}
use lib.ListN.{length, take, drop, length-take}
use lib.Seq.{take-add, take_all}
use Rattle.base.specs.Number.{pick}
use Rattle.leaf.specs.Crc.{crc32}
use Rattle.leaf.proofs.Checksum.{crc32-append, crc32-nil}
use Rattle.refusal.specs.declared.Refusal.TheVariants.{Region, Argument, Data}
use Rattle.header.specs.declared.Bank.{Bank}
use Rattle.region.specs.Region.{region_size, capacity, bank_of, data_of, sector_size}
use Rattle.header.specs.Header.{header_of}
use Rattle.header.proofs.Laws.{no-refusal, passed, span-length}
use Rattle.bank.specs.declared.turns.Checking.{Checking}
use Rattle.bank.specs.declared.turns.Progress.TheVariants.{Hashed, Yes}
use Rattle.bank.specs.declared.turns.Turn.{Turn}
use Rattle.bank.specs.Bank.{named, validated, then_data, data_ok, data_in}
use Rattle.bank.specs.Turns.{stays, fresh, verdict, hashed, on_bank, turned, after, total, reported, as_verdict, Divided, TurnsValidate}
use Rattle.bank.proofs.Laws.{no-region, no-bank, named-is}
use Rattle.bank.proofs.Cases.{turn-bank, some_left}
use Rattle.std.specs.Prelude.{Ok, Err, Result}
use Rattle.refusal.specs.declared.Refusal.{Refusal}

-- a bank that `named` finds is in a region of its size, and its header passes
pub record Named (region : List ℕ) (n : ℕ) (b : Bank) : Type 0 where
  pub region-size : eqb (length region) region_size ≡ true
  pub bank-number : leb n 1 ≡ true
  pub header : header_of n (bank_of region n) ≡ Ok b

named_by : (region : List ℕ) (n : ℕ) (b : Bank) (s t : Bool) → eqb (length region) region_size ≡ s → leb n 1 ≡ t → named region n ≡ Ok b → Named region n b
named_by region n b false t es et e = no-refusal Region b (no-region region n es ∙ e)
named_by region n b true false es et e = no-refusal Argument b (no-bank region n es et ∙ e)
named_by region n b true true es et e = record { region-size = es; bank-number = et; header = named-is region n es et ∙ e }

pub named-passes : (region : List ℕ) (n : ℕ) (b : Bank) → named region n ≡ Ok b → Named region n b
named-passes region n b e = named_by region n b (eqb (length region) region_size) (leb n 1) refl refl e

module _ (region : List ℕ) (n : ℕ) (b : Bank) (e : named region n ≡ Ok b) where
  abbrev bytes : List ℕ
  bytes = data_in region b

  -- the state once k bytes are hashed
  abbrev at : ℕ → Checking
  at k = record { bank = n; position = k; crc = crc32 0 (take k bytes) }

  length-fits : b.length ≤ capacity
  length-fits = (span-length b (passed n (bank_of region n) b (named-passes region n b e).header).span).1

  turn_at : (k m : ℕ) → k ≤ b.length → turned region (at k) m ≡ on_bank region b (at k) m
  turn_at k m h =
      let p = named-passes region n b e in
      sym (turn-bank region (at k) m b p.region-size (rw p.bank-number (le-leb k capacity (omega (arith, length-fits)))) p.header)

  hash_at : (k m : ℕ) → k < b.length → turned region (at k) m ≡ record { progress = Ok (Hashed (min m (b.length - k))); next = at (k + min m (b.length - k)) }
  unfolding hashed
  hash_at k m h =
      let c = min m (b.length - k) in
      let j : crc32 (crc32 0 (take k bytes)) (take c (drop k bytes)) ≡ crc32 0 (take (k + c) bytes) =
      crc32-append 0 (take k bytes) (take c (drop k bytes)) ∙ ap (crc32 0) (sym (take-add k c bytes)) in
      turn_at k m (omega arith)
      ∙ sym (some_left region b (at k) m (le-leb k b.length (omega arith)) (ne_eqb k b.length (λ q. omega arith)))
      ∙ (λ i. record { progress = Ok (Hashed c); next = record { bank = n; position = k + c; crc = j i } })

  verdict-at : (k m : ℕ) → k ≡ b.length → turned region (at k) m ≡ stays (at k) (verdict b (at k))
  unfolding on_bank
  verdict-at k m h = turn_at k m (omega arith) ∙ rw (le-leb k b.length (omega arith), eq-eqb k b.length h)

  -- one turn, from k hashed bytes on
  record Step (k m : ℕ) : Type 0 where
    count : ℕ
    told : reported (turned region (at k) m).progress ≡ count
    next : (turned region (at k) m).next ≡ at (k + count)
    fits : k + count ≤ b.length

  said : (p : Bool) → reported (pick p (Ok Yes) (Err Data)) ≡ 0
  said true = refl
  said false = refl

  step_by : (t : Bool) (k m : ℕ) → eqb k b.length ≡ t → k ≤ b.length → Step k m
  step_by true k m t h =
      let v = verdict-at k m (eqb-true k b.length t) in
      record {
        count = 0;
        told = ap (λ (x : Turn). reported x.progress) v ∙ said (eqb (crc32 0 (take k bytes)) b.crc);
        next = ap (λ (x : Turn). x.next) v ∙ ap at (sym (add-zero k));
        fits = omega arith;
      }
  step_by false k m t h =
      let l : k < b.length = omega (arith, eqb-false k b.length t) in
      let v = hash_at k m l in
      record {
        count = min m (b.length - k);
        told = ap (λ (x : Turn). reported x.progress) v;
        next = ap (λ (x : Turn). x.next) v;
        fits = omega arith;
      }

  step : (k m : ℕ) → k ≤ b.length → Step k m
  step k m h = step_by (eqb k b.length) k m refl h

  -- several turns, from k hashed bytes on
  record Walk (k : ℕ) (ns : List ℕ) : Type 0 where
    within : k + total region (at k) ns ≤ b.length
    there : after region (at k) ns ≡ at (k + total region (at k) ns)

  walk : (ns : List ℕ) (k : ℕ) → k ≤ b.length → Walk k ns
  unfolding total after
  walk [] k h = record { within = omega arith; there = ap at (sym (add-zero k)) }
  walk (m ∷ ns) k h =
      let s = step k m h in
      let w = walk ns (k + s.count) s.fits in
      let rest = total region (at (k + s.count)) ns in
      let sum : total region (at k) (m ∷ ns) ≡ s.count + rest = λ i. s.told i + total region (s.next i) ns in
      let to : k + total region (at k) (m ∷ ns) ≡ k + s.count + rest = ap (λ (x : ℕ). k + x) sum ∙ sym (add_assoc k s.count rest) in
      record {
        within = rw to w.within;
        there = ap (λ (x : Checking). after region x ns) s.next ∙ w.there ∙ ap at (sym to);
      }

  -- at first no byte is hashed
  first : fresh n ≡ at 0
  first = ap (λ (x : ℕ). record { bank = n; position = 0; crc = x }) (sym (crc32-nil 0 (lit< tt)))

  as-verdict : (t : Bool) → pick t (Ok Yes) (Err Data) ≡ as_verdict (pick t (Ok b) (Err Data))
  as-verdict true = refl
  as-verdict false = refl

  all-bytes : take b.length bytes ≡ bytes
  unfolding data_of
  all-bytes = take_all b.length bytes (rw (length-take b.length (drop sector_size (bank_of region b.number))) (omega arith))

  verdict-is : verdict b (at b.length) ≡ as_verdict (validated region n)
  unfolding validated data_ok
  verdict-is =
      ap (λ (l : List ℕ). pick (eqb (crc32 0 l) b.crc) (Ok Yes) (Err Data)) all-bytes
      ∙ as-verdict (eqb (crc32 0 bytes) b.crc)
      ∙ ap (λ (x : Result Bank Refusal). as_verdict (then_data region x)) (sym e)

  pub divided : (ns : List ℕ) → Divided region n b ns
  divided ns =
      let w = walk ns 0 (omega arith) in
      let k = total region (fresh n) ns in
      let same : total region (at 0) ns ≡ k = ap (λ (s : Checking). total region s ns) (sym first) in
      let count : 0 + total region (at 0) ns ≡ k = zero-add (total region (at 0) ns) ∙ same in
      let state : after region (fresh n) ns ≡ at k = ap (λ (s : Checking). after region s ns) first ∙ w.there ∙ ap at count in
      let short : k ≤ b.length = rw count at w.within in
      record {
        within = short;
        going = λ m h. ap (λ (s : Checking). (turned region s m).progress) state ∙ ap (λ (x : Turn). x.progress) (hash_at k m h);
        done = λ m h. ap (λ (s : Checking). (turned region s m).progress) state ∙ ap (λ (x : Turn). x.progress) (verdict-at k m h) ∙ ap (λ (j : ℕ). verdict b (at j)) h ∙ verdict-is;
      }

pub turns-validate : TurnsValidate
turns-validate region n b e ns = divided region n b e ns
