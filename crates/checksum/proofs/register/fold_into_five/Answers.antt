use Rattle.std.proofs.Common.{get_or, rules}
use Rattle.checksum.proofs.register.fold_into_five.Goals as goal
use Rattle.checksum.proofs.Fold.{into-five-fold}

pub returns : goal.returns
returns c =
    let p = c.args.p in
    into-five-fold (get_or p 0 0) (get_or p 1 0) (get_or p 2 0) (get_or p 3 0) (get_or p 4 0) c.args.w (search rules) (search rules) (search rules) (search rules) (search rules) c.ranges.w.fits
