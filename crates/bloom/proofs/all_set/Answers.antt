use Rattle.std.proofs.Common.{sym, ◌∙◌, arith}
use Rattle.bloom.proofs.all_set.Goals as goal
use Rattle.bloom.proofs.Calls.{within-at, looked, none-looked}

pub is_set-all-requires : goal.is_set-all-requires
is_set-all-requires c = within-at _ c.args.positions.now c.loop-p.p-index c.requires (omega arith)

pub loop-p-preserved : goal.loop-p-preserved
loop-p-preserved c =
    let l = c.loop-p in
    looked c.args.bits.now c.args.positions.now l.p-index (omega arith) l.all _ c.is_set-all.ensures ∙ l.invariant

pub returns : goal.returns
returns c =
    let l = c.loop-p in
    sym (none-looked c.args.bits.now c.args.positions.now l.p-index (omega arith) l.all) ∙ l.invariant
