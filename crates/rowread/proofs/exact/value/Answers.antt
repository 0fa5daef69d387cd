-- After a quote the value is what `unquote` reads, else the bytes before the first delimiter. These are copied block by block (`copy_value`), or
-- exactly (`copy_part`), or not at all.
use Rattle.std.proofs.Common.{◌≡◌, ◌+◌, ◌-◌, ◌≤◌, length, drop, ℕ, true, List}
use Rattle.rfc4180.specs.Read.{plain_value, field_at}
use Rattle.rowread.specs.Steps.{spanned, piece_of, slack_of}
use Rattle.rowread.proofs.exact.value.Goals as goal
use Rattle.rowread.proofs.exact.value.Goals.{After-text_end-end}
use native.Mathlib.Omega.{arith}
use mathlib.Core.Path.{refl, sym, ap, ◌∙◌}
use lib.Dec.{leb}
use lib.ListN.{take, get_or}
use Rattle.rfc4180.specs.Csv.{quote}
use mathlib.Core.Logic.{inl, inr}
use Rattle.rowread.specs.Steps.{value_of}
use Rattle.base.proofs.Bools.{and_left, and_right}
use Rattle.rowread.proofs.Blocks.{ahead-exact}
use Rattle.rowread.proofs.Laws.{plain_size, plain-part, plain-piece, field-quote, field_plain}
use Rattle.rowread.proofs.Quoted.{both_ways}
use borrow.Author.Tests.{leb-true}

-- ---- a quoted value
pub unquote-requires-clause-room : goal.unquote-requires-clause-room
unquote-requires-clause-room c =
    let a = c.args in
    rw (field-quote a.t.now a.from (sym c.get8.ensures ∙ c.if-get8-eq-QUOTE.true)) at c.requires.field_room

pub returns-then-get8-eq-QUOTE : goal.returns-then-get8-eq-QUOTE
returns-then-get8-eq-QUOTE c =
    let a = c.args in
    let f = field-quote a.t.now a.from (sym c.get8.ensures ∙ c.if-get8-eq-QUOTE.true) in
    let e = c.unquote.ensures in
    rw f (e.0, e.1)

-- ---- a value without quotes
module _ (c : After-text_end-end) where
  abbrev t : List ℕ
  t = c.args.t.now

  plain : get_or t c.args.from 0 ≡ quote → ⊥
  plain z = c.if-get8-eq-QUOTE.false (c.get8.ensures ∙ z)

  value-is : value_of (field_at (drop c.args.from t)) ≡ plain_value (drop c.args.from t)
  value-is = ap value_of (field_plain t c.args.from plain)

  starts-before : c.args.from ≤ c.text_end-end.result
  starts-before = omega (arith, c.text_end-end.ensures)

  ends-inside : c.text_end-end.result ≤ length t
  ends-inside = omega (arith, c.text_end-end.ensures, plain_size t c.args.from, c.requires.from_in_bounds.0)

  part-is : take (c.text_end-end.result - c.args.from) (drop c.args.from t) ≡ plain_value (drop c.args.from t)
  part-is = plain-part t c.args.from c.text_end-end.result c.text_end-end.ensures

  piece_is : spanned c.text_end-end.result (c.text_end-end.result - c.args.from) ≡ piece_of (length t) (field_at (drop c.args.from t))
  piece_is = plain-piece t c.args.from c.text_end-end.result c.requires.from_in_bounds.0 plain c.text_end-end.ensures

  -- the value fits, with what may be overwritten after it
  fits : c.args.write ≡ true → c.args.to + (c.text_end-end.result - c.args.from) + slack_of c.args.ahead ≤ length c.args.out.now
  fits w =
      elim (c.requires.field_room w) [
        | inl y ↦ omega (arith, c.text_end-end.ensures, y.1, ap length value-is)
        | inr y ↦ omega (arith, y, starts-before, ends-inside, c.requires.from_in_bounds.1)
      ]

pub overflow_sub-t : goal.overflow_sub-t
overflow_sub-t c = ends-inside (goal.at.overflow_sub-t c).After-text_end-end

pub copy_value-requires : goal.copy_value-requires
copy_value-requires c =
    let x = (goal.at.copy_value-requires c).After-text_end-end in
    let b : 16 ≤ length (t x) - c.text_end-end.result = leb-true 16 _ (and_right c.args.ahead (leb 16 (length (t x) - c.text_end-end.result)) c.if-ahead-t.true) in
    let k : slack_of c.args.ahead ≡ 16 = ap slack_of (and_left _ _ c.if-ahead-t.true) in
    (omega (arith, starts-before x, ends-inside x, b), omega (arith, fits x c.if-write.true, k))

pub copy_part-requires : goal.copy_part-requires
copy_part-requires c =
    let x = (goal.at.copy_part-requires c).After-text_end-end in
    (starts-before x, ends-inside x, omega (arith, fits x c.if-write.true))

pub returns-then-ahead-t : goal.returns-then-ahead-t
returns-then-ahead-t c =
    let x = (goal.at.returns-then-ahead-t c).After-text_end-end in
    let e = c.copy_value.ensures in
    let b : slack_of c.args.ahead ≡ 16 = ap slack_of (and_left _ _ c.if-ahead-t.true) in
    (piece_is x, record { kept = λ z. absurd (both_ways _ c.if-write.true z); same = e.0; ahead = λ z i. rw (value-is x, b, ← part-is x) e })

pub returns-else-ahead-t : goal.returns-else-ahead-t
returns-else-ahead-t c =
    let x = (goal.at.returns-else-ahead-t c).After-text_end-end in
    let e = c.copy_part.ensures in
    let w = ahead-exact _ c.args.out.now _ (take (c.text_end-end.result - c.args.from) (drop c.args.from (t x))) _ e in
    (piece_is x, record { kept = λ z. absurd (both_ways _ c.if-write.true z); same = w.0; ahead = λ z i. rw (value-is x, ← part-is x) w })

pub returns-else-write : goal.returns-else-write
returns-else-write c =
    let x = (goal.at.returns-else-write c).After-text_end-end in
    (piece_is x, record { kept = λ z. refl; same = refl; ahead = λ z. absurd (both_ways _ z c.if-write.false) })
