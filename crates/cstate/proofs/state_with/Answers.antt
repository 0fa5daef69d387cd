-- Each field of the C state is that of the definition, by the functions' contracts; the time is held as it is, since it fits an i64.
use Rattle.std.proofs.Common.{w64}
use Rattle.cstate.proofs.state_with.Goals as goal
use mir.ValLaws.{to_z-of_z}
use Rattle.cstate.specs.State.{saved_of}

pub returns : goal.returns
unfolding saved_of
returns c =
    let e = c.stage_numbers-n.ensures in
    let a = c.args in
    let p = a.p in
    let t = to_z-of_z w64 a.b.now (record { sfits = c.struct_told-1.given.1.1.0.1 }) in
    λ i. record {
      stage = (e i).kind;
      first = (e i).first;
      second = (e i).second;
      active = c.active_kind-active.ensures i;
      bank = c.bank_in-bank.ensures i;
      now = t i;
      comparing = c.flag.ensures i;
      written = p.contents.written;
      fill = p.contents.fill;
      crc = p.contents.crc;
      different = c.flag-2.ensures i;
      closed = c.flag-3.ensures i;
      tables = p.tables;
      sources = a.sources;
      tail = a.tail;
    }
