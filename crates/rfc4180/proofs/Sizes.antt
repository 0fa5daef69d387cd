-- A row that is written afresh is never longer than the row that was read: a field without quotes has none of the writer's special bytes, so it
-- needs no quotes; a field with quotes took two quotes and each inner quote twice, which is what the writer puts at most; and a row end took one
-- byte or two.
use Prim.Native.Nat.{ℕ, suc, ◌+◌, ◌≤◌, ◌<◌}
use native.Mathlib.Omega.{arith}
use mathlib.Core.Bool.{Bool, true, false, not, ◌||◌, true≢false}
use mathlib.Core.Path.{◌≡◌, refl, sym, ◌∙◌}
use mathlib.Core.List.{List, [], ◌∷◌, ◌++◌}
use lib.Dec.{eqb}
use lib.ListN.{length, length-append}
use Rattle.base.specs.Number.{pick}
use Rattle.rfc4180.specs.Csv.{NonEscaped, none, text, Inner, close, byte, twice, Field, escaped, non_escaped, RowEnd, lf, crlf, Record, last, more, LoneCr, here, later, quote}
use Rattle.rfc4180.specs.Write.{special, any_special, doubled, field_of, row_of}
use Rattle.rfc4180.specs.Read.{row, values}
use Rattle.rfc4180.proofs.Grammar.{text-unquoted, sound}

plain-special : {bs v r : List ℕ} → NonEscaped bs v r → any_special v ≡ false
unfolding any_special
plain-special none = refl
plain-special (text {b = b} {v = v} h q) = go (special b) (sym h ∙ text-unquoted b) (plain-special q)
  where
    go : (t : Bool) → true ≡ not t → any_special v ≡ false → (t || any_special v) ≡ false
    go true e i = absurd (true≢false e)
    go false e i = i

plain_size : {bs v r : List ℕ} → NonEscaped bs v r → length v + length r ≡ length bs
plain_size none = omega arith
plain_size (text h q) = omega (arith, plain_size q)

doubled-more : (v : List ℕ) → length v ≤ length (doubled v)
unfolding doubled
doubled-more [] = omega arith
doubled-more (b ∷ v) = go (eqb b quote) (doubled-more v)
  where
    go : (t : Bool) → length v ≤ length (doubled v) → suc (length v) ≤ length (pick t (quote ∷ quote ∷ doubled v) (b ∷ doubled v))
    go true i = omega arith
    go false i = omega arith

inner-size : {bs v r : List ℕ} → Inner bs v r → suc (length (doubled v) + length r) ≡ length bs
unfolding doubled
inner-size close = omega arith
inner-size (byte h q) = rw h (omega (arith, inner-size q))
inner-size (twice q) = omega (arith, inner-size q)

field-size : {bs v r : List ℕ} → Field bs v r → length (field_of v) + length r ≤ length bs
unfolding field_of
field-size (escaped {bs = bs} {v = v} {r = r} q) = go (any_special v)
  where
    go : (t : Bool) → length (pick t (quote ∷ doubled v ++ (quote ∷ [])) v) + length r ≤ suc (length bs)
    go true = omega (arith, inner-size q, length-append (doubled v) (quote ∷ []))
    go false = omega (arith, inner-size q, doubled-more v)
field-size (non_escaped {v = v} q) = rw (plain-special q) (omega (arith, plain_size q))

-- a value has no more bytes than its field
pub value-size : {bs v r : List ℕ} → Field bs v r → length v + length r ≤ length bs
value-size (escaped {v = v} q) = omega (arith, inner-size q, doubled-more v)
value-size (non_escaped q) = omega (arith, plain_size q)

end-size : {e r : List ℕ} → RowEnd e r → suc (length r) ≤ length e
end-size lf = omega arith
end-size crlf = omega arith

-- a row has some byte
pub row-some : {bs r : List ℕ} {vs : List (List ℕ)} → Record bs vs r → length r < length bs
row-some (last f e) = omega (arith, field-size f, end-size e)
row-some (more f p) = omega (arith, field-size f, row-some p)

pub lone-some : {bs : List ℕ} → LoneCr bs → 0 < length bs
lone-some (here f h) = omega (arith, field-size f)
lone-some (later f p) = omega (arith, field-size f)

row-size : {bs r : List ℕ} {vs : List (List ℕ)} → Record bs vs r → length (row_of vs) + length r ≤ length bs
unfolding row_of
row-size (last {v = v} f e) = omega (arith, field-size f, end-size e, length-append (field_of v) (10 ∷ []))
row-size (more {v = v} {w = w} {ws = ws} f p) = omega (arith, field-size f, row-size p, length-append (field_of v) (44 ∷ row_of (w ∷ ws)))

pub not-longer : (n : ℕ) (bs : List ℕ) (vs : List (List ℕ)) (r : List ℕ) → values n bs ≡ row vs r → length (row_of vs) + length r ≤ length bs
not-longer n bs vs r e = row-size (sound n bs vs r e).0
