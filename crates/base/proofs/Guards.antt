-- A guard refuses if one of two conditions fails; its definition goes on if both hold. One test is the opposite of the other.
use mathlib.Core.Path.{◌≡◌, sym, ◌∙◌}
use mathlib.Core.Bool.{Bool, true, false, not, ◌&&◌, ◌||◌}

opposite : (a b x : Bool) → (not a || b) ≡ x → (a && not b) ≡ not x
opposite true true x e = λ i. not (e i)
opposite true false x e = λ i. not (e i)
opposite false b x e = λ i. not (e i)

opposite-both : (a b x : Bool) → (not a || not b) ≡ x → (a && b) ≡ not x
opposite-both true true x e = λ i. not (e i)
opposite-both true false x e = λ i. not (e i)
opposite-both false b x e = λ i. not (e i)

-- a and b are the conditions, x and y what the code has of them
module _ {a b x y : Bool} (p : x ≡ a) (q : y ≡ b) where
  pub one-fails : (not x || not y) ≡ true → (a && b) ≡ false
  one-fails h = (λ i. sym p i && sym q i) ∙ opposite-both x y true h

  pub both_hold : (not x || not y) ≡ false → (a && b) ≡ true
  both_hold h = (λ i. sym p i && sym q i) ∙ opposite-both x y false h

  -- the second condition is negated
  pub one-fails-not : (not x || y) ≡ true → (a && not b) ≡ false
  one-fails-not h = (λ i. sym p i && not (sym q i)) ∙ opposite x y true h

  pub both-hold-not : (not x || y) ≡ false → (a && not b) ≡ true
  both-hold-not h = (λ i. sym p i && not (sym q i)) ∙ opposite x y false h
