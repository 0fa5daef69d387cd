-- The stored CRC is compared with that of the header, whose size follows from the version.
use Rattle.std.proofs.Common.{◌≡◌}
use Rattle.header.specs.Header.{header_crc, sealed}
use Rattle.header.proofs.is_sealed.Goals as goal
use Rattle.record.specs.Record.{source_size}
use Rattle.leaf.specs.Bytes.{word}
use mathlib.Core.Path.{ap, ◌∙◌}

pub returns : goal.returns
unfolding sealed
returns c =
    let l = c.args.b.now in
    let s : c.source_size-size.result ≡ source_size (word l 4) = c.source_size-size.ensures.0 ∙ ap source_size c.get.ensures in
    let t : c.header_crc.result ≡ header_crc l (source_size (word l 4)) = c.header_crc.ensures ∙ ap (header_crc l) s in
    rw (c.get-2.ensures, t)
