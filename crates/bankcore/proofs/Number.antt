-- The number for what Date::new answers.
use mathlib.Core.Path.{◌≡◌, refl, sym, ap, ◌∙◌}
use mathlib.Core.Bool.{Bool, true, false}
use Prim.Native.Nat.{ℕ}
use Rattle.base.specs.Number.{pick}
use Rattle.leaf.specs.Date.{is_date, date_number, new_date}
use Rattle.leaf.specs.declared.date.Date.{Date}
use Rattle.bankcore.specs.LeafAnswers.{date_or_zero}
use Rattle.std.specs.Prelude.{Some, None, Option}

abbrev number_of : Option Date → ℕ
number_of (Some d) = d.0
number_of None = 0

by-test : (t : Bool) (n : ℕ) → number_of (pick t (Some (record { 0 = n })) None) ≡ pick t n 0
by-test true n = refl
by-test false n = refl

number-of : (y m d : ℕ) → number_of (new_date y m d) ≡ date_or_zero y m d
unfolding new_date date_or_zero
number-of y m d = by-test (is_date y m d) (date_number y m d)

pub made : (y m d : ℕ) (x : Date) → new_date y m d ≡ Some x → x.0 ≡ date_or_zero y m d
made y m d x e = ap number_of (sym e) ∙ number-of y m d

pub invalid : (y m d : ℕ) → new_date y m d ≡ None → 0 ≡ date_or_zero y m d
invalid y m d e = ap number_of (sym e) ∙ number-of y m d
