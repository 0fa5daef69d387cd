-- Two spans that are equal have the same offset and the same size.
use Prim.Native.Nat.{ℕ}
use mathlib.Core.Path.{◌≡◌, ap}
use Rattle.rowread.specs.declared.Span.{Span}
use Rattle.rowread.specs.Steps.{spanned}

pub span-parts : (a b c d : ℕ) → spanned a b ≡ spanned c d → (a ≡ c) × (b ≡ d)
span-parts a b c d e =
    let f : ◌≡◌ {A = Span} (record { next = a; size = b }) (record { next = c; size = d }) = cc in
    (ap (λ (s : Span). s.next) f, ap (λ (s : Span). s.size) f)
