-- Adding the step three times, wrapping, gives the positions of the definition (`summed`), and each is inside the filter.
use Rattle.std.proofs.Common.{ℕ, ◌+◌, ◌%◌, rules, refl}
use Rattle.bloom.proofs.positions.Goals as goal
use Rattle.bloom.proofs.Sums.{summed}

pub returns : goal.returns
returns c =
    let a = c.args in
    let s = c.step_of-step in
    let x : ℕ = (a.hash + s.result) % 4294967296 in
    let y : ℕ = (x + s.result) % 4294967296 in
    let z : ℕ = (y + s.result) % 4294967296 in
    let p = c.position_in in
    let q = c.position_in-2 in
    let u = c.position_in-3 in
    let v = c.position_in-4 in (
      summed a.hash a.bytes s.result s.ensures x y z p.result q.result u.result v.result (search rules) refl refl refl p.ensures.0 q.ensures.0 u.ensures.0 v.ensures.0,
      (p.ensures.1, (q.ensures.1, (u.ensures.1, (v.ensures.1, tt)))),
    )
