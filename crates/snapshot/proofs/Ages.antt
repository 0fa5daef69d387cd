-- The loop over the sources gives the time of the used ones: a source that gives a wanted day is counted and its days are dropped, so that
-- after the last one the result is the definition's.
use mathlib.Core.Path.{◌≡◌, refl, ap, ◌∙◌, sym}
use mathlib.Core.Bool.{Bool, true, false, ◌&&◌, and-true, and_assoc}
use mathlib.Core.List.{List, [], ◌∷◌}
use Prim.Native.Nat.{ℕ, suc, ◌+◌, ◌-◌, ◌<◌, ◌≤◌}
use native.Mathlib.Omega.{arith}
use lib.IntN.{ℤ}
use Rattle.std.proofs.Common.{Some}
use Rattle.base.specs.Number.{pick}
use Rattle.record.specs.declared.Source.{Source}
use Rattle.base.specs.Lists.{many, each}
use Rattle.snapshot.specs.declared.freshness.Days.{Days}
use Rattle.snapshot.specs.declared.freshness.SourceTimes.{SourceTimes}
use Rattle.snapshot.specs.declared.freshness.Seen.{Seen}
use Rattle.snapshot.specs.Freshness.{unknown, days_of, gives_any, all_wanted_after, used, known, older, oldest, updated_at}
use Rattle.snapshot.specs.Steps.{three_wanted_after, observed, updated_of, after_source, seen, none_seen}

-- the used sources, one after the other
ended : ℤ → SourceTimes → List Source → ℤ
ended now t [] = updated_of t
ended now t (s ∷ ss) = ended now (observed now t s) ss

ended_some : (now : ℤ) (c : Bool) (o : ℤ) (ss : List Source) → ended now (record { complete = c; oldest = Some o }) ss ≡ pick (c && each (known now) ss) (oldest o ss) unknown
unfolding ended each oldest
ended_some now c o [] = ap (λ t. pick t o unknown) (sym (and-true c))
ended_some now c o (s ∷ ss) =
    ended_some now (c && known now s) (older o s.updated) ss
    ∙ ap (λ t. pick t (oldest (older o s.updated) ss) unknown) (and_assoc c (known now s) (each (known now) ss))

ended_is : (now : ℤ) (days : Days) (ss : List Source) → ended now (none_seen days).times ss ≡ updated_at now ss
unfolding ended updated_at each
ended_is now days [] = refl
ended_is now days (s ∷ ss) = ended_some now (known now s) s.updated ss

module _ (now : ℤ) where
  abbrev Comes : List Source → Seen → Type 0
  Comes ss x = seen now x ss ≡ ended now x.times (used (days_of x.days) ss)

  walk-by : (s : Source) (ss : List Source) (x : Seen) (t : Bool) → gives_any s (days_of x.days) ≡ t → ((y : Seen) → Comes ss y) → Comes (s ∷ ss) x
  unfolding seen used ended all_wanted_after
  walk-by s ss x true e rest = rw e (rest (record { times = observed now x.times s; days = three_wanted_after s x.days }))
  walk-by s ss x false e rest = rw e (rest x)

  walk : (ss : List Source) (x : Seen) → Comes ss x
  unfolding seen used ended
  walk [] x = refl
  walk (s ∷ ss) x = walk-by s ss x (gives_any s (days_of x.days)) refl (walk ss)

  pub seen_all : (ss : List Source) (days : Days) → seen now (none_seen days) ss ≡ updated_at now (used (days_of days) ss)
  seen_all ss days = walk ss (none_seen days) ∙ ended_is now days (used (days_of days) ss)

  -- a turn of the loop over the records
  pub one_more : (f : List ℕ → ℕ → Source) (step : ℕ) (l : List ℕ) (at n i : ℕ) (x : Seen) → i < n
      → seen now x (many f step l at (n - i)) ≡ seen now (after_source now x (f l at)) (many f step l (at + step) (n - (i + 1)))
  unfolding seen many
  one_more f step l at n i x h =
      let e : n - i ≡ suc (n - (i + 1)) = omega arith in
      ap (λ (k : ℕ). seen now x (many f step l at k)) e

  pub no_more : (f : List ℕ → ℕ → Source) (step : ℕ) (l : List ℕ) (at n i : ℕ) (x : Seen) → n ≤ i → updated_of x.times ≡ seen now x (many f step l at (n - i))
  unfolding seen many
  no_more f step l at n i x h =
      let e : n - i ≡ 0 = omega arith in
      sym (ap (λ (k : ℕ). seen now x (many f step l at k)) e)
