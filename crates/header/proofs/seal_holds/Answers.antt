-- What holds of the header CRC is proved in Parts.antt.
use Rattle.header.proofs.seal_holds.Goals as goal
use mathlib.Core.Path.{refl}
use Rattle.header.proofs.Parts.{sealed-as, seal-in-parts}

pub returns : goal.returns
returns c =
    record {
      sealed1 = sealed-as 1 160 refl;
      sealed2 = sealed-as 2 352 refl;
      sealed3 = sealed-as 3 384 refl;
      seal_in_parts = seal-in-parts;
    }
