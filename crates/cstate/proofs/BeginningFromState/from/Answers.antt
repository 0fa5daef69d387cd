-- The active bank is read from its numbers by contract; the time is held as it is, since it fits an i64.
use Rattle.std.proofs.Common.{w64}
use Rattle.cstate.proofs.BeginningFromState.from.Goals as goal
use mir.ValLaws.{to_z-of_z}
use Rattle.cstate.specs.State.{writer_of}

pub returns : goal.returns
unfolding writer_of
returns c =
    let s = c.args.s in
    let t = to_z-of_z w64 s.now (record { sfits = c.struct_told-1.given.1.1.1.1.1.0.1 }) in
    λ i. record { active = c.active_of-active.ensures i; comparing = c.is_set.ensures i; now = t i }
