use Rattle.std.proofs.Common.{w64}
use Rattle.lower.proofs.source.emptied.Goals as goal
use mir.ValLaws.{to_z-of_z}
use Rattle.record.specs.Record.{no_block}
use Rattle.base.proofs.Lists.{replicate-fill}
use Rattle.base.specs.Table.{max_tables}

pub returns : goal.returns
returns c =
    let a = c.args in
    let u = to_z-of_z w64 a.s.updated (record { sfits = c.struct_told-1.given.1.1.1.0.1 }) in
    let t = replicate-fill no_block max_tables in
    λ i. record {
      start = a.s.start;
      end = a.s.end;
      present = a.s.present;
      updated = u i;
      original = a.s.original;
      tables = t i;
      stamp = a.s.stamp;
      idlen = a.s.idlen;
      id = a.s.id;
      validator = a.s.validator;
    }
