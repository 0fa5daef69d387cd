-- Dates by the Gregorian rule.
use Rattle.std.specs.Prelude.{◌≡◌, ℕ, ◌+◌, ◌-◌, ◌*◌, ◌/◌, ◌%◌, Bool, true, not, ◌&&◌, ◌||◌, List, [], ◌∷◌, ◌==◌, nat_le, slice_index, Some, None, Option}
use Rattle.base.specs.Number.{pick}
use Rattle.leaf.specs.declared.date.Date.{Date}

-- n divides y
abbrev pub divides : ℕ → ℕ → Bool
divides n y = y % n == 0

-- a leap year is divisible by 4, and if it is divisible by 100, also by 400
unfoldable pub leap : ℕ → Bool
leap y = divides 4 y && (not (divides 100 y) || divides 400 y)

-- the days of each month; February has one more in a leap year
unfoldable pub month_days : ℕ → List ℕ
month_days y = 31 ∷ pick (leap y) 29 28 ∷ 31 ∷ 30 ∷ 31 ∷ 30 ∷ 31 ∷ 31 ∷ 30 ∷ 31 ∷ 30 ∷ 31 ∷ []

-- the days of month m, counted from 1
abbrev pub days_in : ℕ → ℕ → ℕ
days_in y m = slice_index (month_days y) (m - 1)

-- x is from a to b
abbrev pub between : ℕ → ℕ → ℕ → Bool
between a x b = nat_le a x && nat_le x b

-- year, month and day are a date: years 1 to 9999, months 1 to 12, days 1 to the month's last
unfoldable pub is_date : ℕ → ℕ → ℕ → Bool
is_date y m d = between 1 y 9999 && (between 1 m 12 && between 1 d (days_in y m))

-- what a year and a month count in a date's number
abbrev pub year_weight : ℕ
year_weight = 10000

abbrev pub month_weight : ℕ
month_weight = 100

-- a date's number
abbrev pub date_number : ℕ → ℕ → ℕ → ℕ
date_number y m d = y * year_weight + m * month_weight + d

-- what Date::new answers: the date by its number, or that there is none
unfoldable pub new_date : ℕ → ℕ → ℕ → Option Date
new_date y m d = pick (is_date y m d) (Some (record { 0 = date_number y m d })) None

-- n is the number of a date
unfoldable pub valid_date : ℕ → Bool
valid_date n = is_date (n / year_weight) (n / month_weight % month_weight) (n % month_weight)

-- n is the number of some date
pub record SomeDate (n : ℕ) : Type 0 where
  pub year : ℕ
  pub month : ℕ
  pub day : ℕ
  pub date : is_date year month day ≡ true
  pub number : n ≡ date_number year month day
