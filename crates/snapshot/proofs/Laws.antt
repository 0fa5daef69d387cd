-- Calls on a loaded bank, case by case, as the definitions nest them; and that a bank with a good header has at most three sources.
use mathlib.Core.Path.{◌≡◌, refl, ap, ◌∙◌, sym}
use mathlib.Core.Bool.{Bool, true, false}
use mathlib.Core.List.{List, ◌++◌}
use Prim.Native.Nat.{ℕ, ◌*◌, ◌-◌, ◌≤◌}
use native.Mathlib.Nat.{mul_comm, mul-le-mul_right}
use lib.Dec.{eqb, ltb}
use lib.IntN.{ℤ}
use lib.ListN.{length}
use Rattle.refusal.specs.declared.Refusal.{Refusal}
use Rattle.refusal.specs.declared.Refusal.TheVariants.{Region, Argument, Source as NoSuchSource}
use Rattle.base.specs.Lists.{each, fill}
use Rattle.record.specs.declared.Source.{Source}
use Rattle.record.specs.Record.{no_source}
use Rattle.header.specs.Header.{records_of, max_sources}
use Rattle.header.specs.declared.Bank.{Bank}
use Rattle.region.specs.Region.{region_size, bank_of}
use Rattle.header.proofs.Laws.{span-count, passed, no-refusal}
use Rattle.bank.specs.Bank.{named}
use Rattle.bank.proofs.Sequence.{named-passes}
use Rattle.snapshot.specs.declared.freshness.Days.{Days}
use Rattle.snapshot.specs.Source.{source_in, then_source, source_answer, sources_in, then_sources, sources_answer}
use Rattle.snapshot.specs.Freshness.{named_if, days_of, is_day, freshness, then_fresh, fresh_answer}
use Rattle.std.specs.Prelude.{Ok, Err}

pub bound : (i k : ℕ) → k ≤ 384 → i * k ≤ i * 384
bound i k h = rw (mul_comm i k, mul_comm i 384) (mul-le-mul_right i h)

module _ (region : List ℕ) (n : ℕ) where
  pub named-fits : named region n ≡ named_if true region n
  unfolding named_if
  named-fits = refl

  pub unfit-no-region : eqb (length region) region_size ≡ false → Err Region ≡ named_if false region n
  unfolding named_if
  unfit-no-region e = rw e

  pub unfit : eqb (length region) region_size ≡ true → Err Argument ≡ named_if false region n
  unfolding named_if
  unfit e = rw e

  module _ (i : ℕ) where
    pub source-done : (b : Bank) → named region n ≡ Ok b → ltb i b.count ≡ true → Ok (source_in region b i) ≡ source_answer region n i
    unfolding source_answer
    source-done b h e = sym (ap (then_source region i) h ∙ rw e)

    pub source-past : (b : Bank) → named region n ≡ Ok b → ltb i b.count ≡ false → Err NoSuchSource ≡ source_answer region n i
    unfolding source_answer
    source-past b h e = sym (ap (then_source region i) h ∙ rw e)

    pub source-bad : (r : Refusal) → named region n ≡ Err r → Err r ≡ source_answer region n i
    unfolding source_answer
    source-bad r h = sym (ap (then_source region i) h)

  pub sources-done : (b : Bank) (l : List ℕ) (t : List Source) → named region n ≡ Ok b → l ≡ bank_of region b.number
      → t ≡ records_of b.version l b.count ++ fill no_source (3 - b.count) → Ok t ≡ sources_answer region n
  unfolding sources_answer sources_in
  sources-done b l t h e f =
      ap Ok (f ∙ ap (λ (x : List ℕ). records_of b.version x b.count ++ fill no_source (3 - b.count)) e)
      ∙ sym (ap (then_sources region) h)

  pub sources-bad : (r : Refusal) → named region n ≡ Err r → Err r ≡ sources_answer region n
  unfolding sources_answer
  sources-bad r h = sym (ap (then_sources region) h)

-- a bank that passed has at most three sources
count_by : (fits t : Bool) (region : List ℕ) (n : ℕ) (b : Bank) → eqb (length region) region_size ≡ t → named_if fits region n ≡ Ok b → b.count ≤ max_sources
unfolding named_if
count_by true t region n b e h = span-count b (passed n (bank_of region n) b (named-passes region n b h).header).span
count_by false true region n b e h = no-refusal Argument b (unfit region n e ∙ h)
count_by false false region n b e h = no-refusal Region b (unfit-no-region region n e ∙ h)

pub few : (fits : Bool) (region : List ℕ) (n : ℕ) (b : Bank) → named_if fits region n ≡ Ok b → b.count ≤ max_sources
few fits region n b h = count_by fits (eqb (length region) region_size) region n b refl h

module _ (region : List ℕ) (n : ℕ) (days : Days) (now : ℤ) where
  pub fresh-good : (b : Bank) → named_if (each is_day (days_of days)) region n ≡ Ok b → Ok (freshness region b days now) ≡ fresh_answer region n days now
  unfolding fresh_answer
  fresh-good b h = sym (ap (then_fresh region days now) h)

  pub fresh-bad : (r : Refusal) → named_if (each is_day (days_of days)) region n ≡ Err r → Err r ≡ fresh_answer region n days now
  unfolding fresh_answer
  fresh-bad r h = sym (ap (then_fresh region days now) h)
