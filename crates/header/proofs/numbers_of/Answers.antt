-- Each number is read at its offset; the time fits an i64, so it is held as it is.
use Rattle.std.proofs.Common.{w64}
use Rattle.header.specs.Header.{numbers_of}
use Rattle.header.proofs.numbers_of.Goals as goal
use mir.ValLaws.{to_z-of_z}
use mathlib.Core.Path.{◌∙◌}

pub returns : goal.returns
unfolding numbers_of
returns c =
    let u = to_z-of_z w64 c.get_time.result (record { sfits = c.get_time.type_inv }) ∙ c.get_time.ensures in
    λ i. record {
      number = c.args.number;
      version = c.get.ensures i;
      generation = c.get-2.ensures i;
      length = c.get-3.ensures i;
      crc = c.get-4.ensures i;
      count = c.get-5.ensures i;
      key = c.get-6.ensures i;
      checked = u i;
    }
