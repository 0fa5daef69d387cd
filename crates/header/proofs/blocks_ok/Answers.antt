-- The test of each block is the definition's (`each-all`).
use Rattle.std.proofs.Common.{◌∙◌, rules, tests}
use Rattle.std.proofs.lemmas.Iterator.{YieldsList-from_slice}
use Rattle.std.proofs.lemmas.Iterator.Search.{all_from_yields_List}
use Rattle.header.specs.Header.{block_ok}
use Rattle.header.proofs.Laws.{each-all}
use Rattle.header.proofs.blocks_ok.Goals as goal

pub returns : goal.returns
returns c =
    let p = block_ok c.args.b in
    all_from_yields_List p _ _ _ c.all.ensures.ran (YieldsList-from_slice c.args.ts cc) (λ x b q k. search (rules, tests)) ∙ each-all p c.args.ts
