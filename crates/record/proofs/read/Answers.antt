-- Each field is read at its offset, which follows from the number of tables; together they are `source_of`.
use Rattle.std.proofs.Common.{w64}
use Rattle.record.specs.Record.{source_of}
use Rattle.record.proofs.read.Goals as goal
use mathlib.Core.Path.{◌∙◌}
use mir.ValLaws.{to_z-of_z}

pub returns : goal.returns
unfolding source_of
returns c =
    let updated = to_z-of_z w64 c.get_time.result (record { sfits = c.get_time.type_inv }) ∙ c.get_time.ensures in
    λ i. record {
      start = c.word_at.ensures i;
      end = c.word_at-2.ensures i;
      present = c.word_at-3.ensures i;
      updated = updated i;
      original = c.words_at.ensures i;
      tables = c.blocks_at.ensures i;
      stamp = c.bytes_at.ensures i;
      idlen = c.get8.ensures i;
      id = c.bytes_at-2.ensures i;
      validator = c.bytes_at-3.ensures i;
    }
