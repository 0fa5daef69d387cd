-- Numbers for C where the core's own answer is an enum.
use Rattle.std.specs.Prelude.{ℕ, ◌+◌, leb}
use Rattle.base.specs.Number.{pick}
use Rattle.refusal.specs.declared.Refusal.TheVariants.{Small}
use Rattle.refusal.specs.Refusal.{number_of}
use Rattle.leaf.specs.Date.{is_date, date_number}

-- 9 if n bytes at offset i don't fit in `length` bytes
abbrev pub put_refusal : ℕ → ℕ → ℕ → ℕ
put_refusal length i n = pick (leb (i + n) length) 0 (number_of Small)

-- Date::new's answer as a number: the date's, or 0 if there is no such date
unfoldable pub date_or_zero : ℕ → ℕ → ℕ → ℕ
date_or_zero y m d = pick (is_date y m d) (date_number y m d) 0
