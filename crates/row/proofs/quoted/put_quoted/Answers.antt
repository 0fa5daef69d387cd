-- A quote, the doubled bytes, a quote (`quoted-sets`).
use Rattle.rfc4180.specs.Csv.{quote}
use Rattle.row.proofs.quoted.put_quoted.Goals as goal
use mathlib.Core.Path.{sym}
use native.Mathlib.Omega.{arith}
use lib.ListN.{length-set}
use Rattle.row.proofs.Laws.{quoted-length, quoted-sets}

pub returns : goal.returns
returns c =
    let a = c.args in
    let q = quoted-length a.v.now in
    let s = length-set a.out.now a.to quote in
    let e = c.put_doubled-end.ensures in
    (omega (arith, e.0), rw (e.1, e.0) (sym (quoted-sets a.out.now a.to a.v.now)))
