-- The bank's fields are the definition's, each by its function's contract.
use Rattle.std.proofs.Common.{w64}
use Rattle.commit.proofs.bank_for.Goals as goal
use mathlib.Core.Path.{ap, ◌∙◌}
use mir.ValLaws.{to_z-of_z}
use Rattle.writer.specs.State.{key_length}
use Rattle.commit.specs.Commit.{bank_for, checked_time}

pub returns : goal.returns
unfolding bank_for
returns c =
    let k = c in
    let o = k in
    let g = o in
    let t = g in
    let a = t.args in
    let z = to_z-of_z w64 a.w.beginning.now (record { sfits = c.struct_told-1.given.1.1.0.1 }) in
    λ i. record {
      number = t.target.ensures i;
      version = 3;
      generation = g.next_generation.ensures i;
      length = a.w.contents.written;
      crc = a.w.contents.crc;
      count = a.w.tables.count;
      key = (k.key_length.ensures ∙ ap key_length o.routes_offset.ensures) i;
      checked = (to_z-of_z w64 c.checked_time.result (record { sfits = c.checked_time.type_inv }) ∙ c.checked_time.ensures ∙ ap (checked_time a.stamp) z) i;
    }
