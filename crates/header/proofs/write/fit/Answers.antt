-- The flags say whether the records below the count pass 6 and have texts of allowed length. Only those are looked at (`below-count`).
use Rattle.std.proofs.Common.{◌≡◌, ◌∙◌, take, length, rules, tests}
use Rattle.std.proofs.lemmas.Iterator.{YieldsList-from_slice}
use Rattle.std.proofs.lemmas.Iterator.Search.{all_from_yields_List}
use Rattle.base.specs.Lists.{each}
use Rattle.header.specs.Header.{source_ok}
use Rattle.header.specs.WriteHeader.{text_ok, is_fit}
use Rattle.header.proofs.Laws.{each-all}
use Rattle.header.proofs.Writing.{below-count, judge-is}
use Rattle.header.proofs.write.fit.Goals as goal

pub returns : goal.returns
unfolding is_fit
returns c =
    let b = c.args.b in
    let n = c.records-n.result in
    let xs = take n c.args.ss in
    let ys = take b.count c.args.ss in
    let three : length c.args.ss ≡ 3 = search rules in
    let t : xs ≡ ys = rw c.records-n.ensures (below-count c.args.ss b.count three) in
    let p : c.all-sources.result ≡ each (source_ok b) xs =
    all_from_yields_List (source_ok b) _ _ c.all-sources.result c.all-sources.ensures.ran (YieldsList-from_slice xs cc) (λ x r q k. search (rules, tests)) ∙ each-all (source_ok b) xs in
    let q : c.all-texts.result ≡ each text_ok xs =
    all_from_yields_List text_ok _ _ c.all-texts.result c.all-texts.ensures.ran (YieldsList-from_slice xs cc) (λ x r q k. search (rules, tests)) ∙ each-all text_ok xs in
    rw (c.span_ok.ensures, p, q, t, judge-is b ys)
