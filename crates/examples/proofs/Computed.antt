-- Every example in the table is answered as stated, by computing: one test over the whole table is true, and a test that is true gives the
-- claim of each line.
use mathlib.Core.Path.{◌≡◌, refl, sym}
use mathlib.Core.Bool.{Bool, true, false, true≢false, ◌&&◌}
use mathlib.Core.List.{List, [], ◌∷◌}
use Rattle.leaf.specs.Generation.{newer}
use Rattle.leaf.specs.Date.{leap, month_days, is_date, valid_date}
use Rattle.key.specs.Order.{pick_order, text_order}
use Rattle.key.specs.Picks.{sum, text, pick_of, firsts, insert, distinct}
use Rattle.key.specs.Layout.{joined, prefix, key_of}
use Rattle.base.specs.Same.{same}
use Rattle.rfc4180.specs.Write.{special, any_special, doubled, field_of}
use Rattle.base.proofs.Bools.{and_left, and_right}
use Rattle.examples.specs.Examples.{Question, answer, table, Answered}

abbrev agree : Bool → Bool → Bool
agree true b = b
agree false true = false
agree false false = true

same-is : (a b : Bool) → agree a b ≡ true → a ≡ b
same-is true b e = sym e
same-is false true e = absurd (true≢false (sym e))
same-is false false e = refl

abbrev test : List (Question × Bool) → Bool
test [] = true
test (row ∷ rows) = agree (answer row.0) row.1 && test rows

answered : (rows : List (Question × Bool)) → test rows ≡ true → Answered rows
unfolding Answered
answered [] e = tt
answered (row ∷ rows) e =
    let t = agree (answer row.0) row.1 in
    (same-is (answer row.0) row.1 (and_left t (test rows) e), answered rows (and_right t (test rows) e))

pub theorem : Answered table
unfolding table newer valid_date is_date month_days leap same key_of firsts pick_of text sum distinct insert pick_order text_order joined prefix special any_special doubled field_of
theorem = answered table refl
