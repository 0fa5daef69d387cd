-- The test of each record is the definition's (`each-read`).
use Rattle.std.proofs.Common.{◌≡◌, ◌∙◌, ◌+◌, ◌*◌, ◌-◌, rules, tests, arith}
use Rattle.std.specs.List.{list_all, range_with_len}
use Rattle.std.proofs.lemmas.Iterator.{YieldsList-from_range}
use Rattle.std.proofs.lemmas.Iterator.Search.{all_from_yields_List}
use Rattle.base.specs.Lists.{many, each}
use Rattle.record.specs.Record.{source_size}
use Rattle.header.specs.Header.{record_at, source_ok}
use Rattle.header.proofs.Laws.{each-read}
use Rattle.header.proofs.records_ok.Goals as goal

pub returns : goal.returns
returns c =
    let b = c.args.b in
    let l = c.args.l.now in
    let n = c.args.n in
    let f = record_at b.version in
    let p = source_ok b in
    let z = source_size b.version in
    let e : n - 0 ≡ n = omega arith in
    let first : 48 + 0 * z ≡ 48 = omega arith in
    let h : list_all (λ i. p (f l (48 + i * z))) (range_with_len 0 n) ≡ each p (many f z l (48 + 0 * z) n) = each-read p f z l 48 0 n in
    all_from_yields_List (λ i. p (f l (48 + i * z))) _ _ _ c.all.ensures.ran (YieldsList-from_range 0 n n (cc) e) (λ x r q k. search (rules, tests)) ∙ rw first at h
