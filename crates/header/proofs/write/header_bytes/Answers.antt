-- An array of zeros is the list of as many zeros (`replicate-fill`).
use Rattle.std.proofs.Common.{refl}
use Rattle.header.specs.Header.{header_size}
use Rattle.base.proofs.Lists.{replicate-fill}
use Rattle.header.proofs.write.header_bytes.Goals as goal

pub put_header-requires : goal.put_header-requires
put_header-requires c = (refl, replicate-fill 0 header_size)
