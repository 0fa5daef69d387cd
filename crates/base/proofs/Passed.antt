-- The error that a `?` passes on is the one that it met.
use Rattle.std.proofs.Common.{◌≡◌, Result, Ok, Err, IsErrAnd, ap}

pub passed-on : {T E : Type 0} {e : E} (r : Result T E) → IsErrAnd r (λ y. y ≡ e) → r ≡ Err e
passed-on (Ok x) h = absurd h
passed-on (Err y) h = ap Err h
