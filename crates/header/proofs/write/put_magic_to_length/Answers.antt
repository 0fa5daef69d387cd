-- Four numbers written one after the other are the first 16 bytes (`magic-to-length-written`).
use Rattle.header.proofs.write.put_magic_to_length.Goals as goal
use mathlib.Core.Path.{◌∙◌}
use Rattle.header.proofs.Writing.{magic-to-length-written}

pub returns : goal.returns
returns c =
    c.put-4.ensures ∙ rw (c.put-3.ensures, c.put-2.ensures, c.put.ensures) (magic-to-length-written c.args.out.now c.args.b c.requires)
