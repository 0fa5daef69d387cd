-- Header, validate and load, case by case, as the definitions nest them: each case's premises are what the code's branches have tested.
use Rattle.std.specs.Result.{result_ok}
use mathlib.Core.Path.{◌≡◌, ap, ◌∙◌, sym}
use mathlib.Core.Bool.{true, false}
use mathlib.Core.List.{List}
use Prim.Native.Nat.{ℕ, ◌-◌}
use lib.Dec.{leb, eqb}
use lib.ListN.{length}
use Rattle.refusal.specs.declared.Refusal.{Refusal}
use Rattle.refusal.specs.declared.Refusal.TheVariants.{Region, Argument, Data}
use Rattle.header.specs.declared.Bank.{Bank}
use Rattle.region.specs.Region.{region_size, bank_of}
use Rattle.header.specs.Header.{header_of}
use Rattle.bank.specs.Bank.{named, data_ok, then_data, validated, first_tried, loaded}
use Rattle.std.specs.Prelude.{Ok, Err, Some, None, Result}

module _ (region : List ℕ) where
  module _ (n : ℕ) where
    pub no-region : eqb (length region) region_size ≡ false → Err Region ≡ named region n
    unfolding named
    no-region e = rw e

    pub no-bank : eqb (length region) region_size ≡ true → leb n 1 ≡ false → Err Argument ≡ named region n
    unfolding named
    no-bank e f = rw (e, f)

    pub named-is : eqb (length region) region_size ≡ true → leb n 1 ≡ true → header_of n (bank_of region n) ≡ named region n
    unfolding named
    named-is e f = rw (e, f)

    pub data-good : (b : Bank) → named region n ≡ Ok b → data_ok region b ≡ true → Ok b ≡ validated region n
    unfolding validated
    data-good b h d = sym (ap (then_data region) h ∙ rw d)

    pub data-bad : (b : Bank) → named region n ≡ Ok b → data_ok region b ≡ false → Err Data ≡ validated region n
    unfolding validated
    data-bad b h d = sym (ap (then_data region) h ∙ rw d)

    pub header-bad : (r : Refusal) → named region n ≡ Err r → Err r ≡ validated region n
    unfolding validated
    header-bad r h = sym (ap (then_data region) h)

  pub load-no-region : eqb (length region) region_size ≡ false → Err Region ≡ loaded region
  unfolding loaded
  load-no-region e = rw e

  pub load-first : (b : Bank) → eqb (length region) region_size ≡ true → validated region (first_tried region) ≡ Ok b → Ok (Some b) ≡ loaded region
  unfolding loaded
  load-first b e f = rw (e, f)

  pub load-second : (r : Refusal) (b : Bank) → eqb (length region) region_size ≡ true → validated region (first_tried region) ≡ Err r → validated region (1 - first_tried region) ≡ Ok b
      → Ok (Some b) ≡ loaded region
  unfolding loaded
  load-second r b e f g = rw (e, f, g)

  pub load-none : (r s : Refusal) → eqb (length region) region_size ≡ true → validated region (first_tried region) ≡ Err r → validated region (1 - first_tried region) ≡ Err s
      → Ok None ≡ loaded region
  unfolding loaded
  load-none r s e f g = rw (e, f, g)

  pub load-other : (r : Refusal) (v : Result Bank Refusal) → eqb (length region) region_size ≡ true → validated region (first_tried region) ≡ Err r → validated region (1 - first_tried region) ≡ v
      → Ok (result_ok v) ≡ loaded region
  load-other r (Ok b) e f g = load-second r b e f g
  load-other r (Err x) e f g = load-none r x e f g
