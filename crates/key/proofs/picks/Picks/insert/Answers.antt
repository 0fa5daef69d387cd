-- `index_of` says that the pick is there already, and nothing changes, or its index, and it is written there (`moved`).
use Rattle.std.proofs.Common.{◌≡◌, List, ℕ, Some, map, ◌+◌, ◌-◌, ◌≤◌, take, set, ap, ◌∙◌, arith}
use Rattle.key.specs.Steps.{pick_in, Goes}
use Rattle.key.proofs.picks.Picks.insert.Goals as goal
use lib.ListN.{length-set}
use Rattle.key.proofs.Insert.{moved, index-low, goes_in}

pub returns : goal.returns
returns c =
    let a = c.args in
    let f = pick_in a.self.now.texts.now a.self.now.starts.now in
    let e : a.m - 0 ≡ a.m = omega arith in
    let k = c.in-Some.k in
    let g : Goes (f a.i) (map f (take a.m a.order.now)) (Some k) = rw (e, c.in-Some.is) at c.index_of.ensures in
    let low : k ≤ a.m = index-low f a.self.now.n a.i a.m a.order.now c.requires.0 c.requires.1 c.requires.2 k g in (
      omega arith,
      goes_in f a.self.now.n a.i a.m a.order.now c.requires.0 c.requires.1 c.requires.2 k (set c.copy_within.new.self k a.i) g
          (length-set c.copy_within.new.self k a.i ∙ c.copy_within.ensures.len)
          (ap (λ (l : List ℕ). take (a.m + 1) (set l k a.i)) c.copy_within.ensures.after ∙ moved a.order.now k a.m a.i low c.requires.1),
    )
