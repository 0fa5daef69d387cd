-- Each of the first n sources is compared with the record at its index (`same-read`).
use Rattle.std.proofs.Common.{◌≡◌, ◌∙◌, ◌+◌, ◌*◌, ◌-◌, take, drop, get_or, rules, tests, arith}
use Rattle.std.specs.List.{list_all, range_with_len}
use Rattle.std.proofs.lemmas.Iterator.{YieldsList-from_range}
use Rattle.std.proofs.lemmas.Iterator.Search.{all_from_yields_List}
use Rattle.base.specs.Lists.{many}
use Rattle.record.specs.Record.{source_size}
use Rattle.header.specs.Header.{record_at}
use Rattle.lower.specs.Lower.{past_end}
use Rattle.commit.specs.Unchanged.{same_source, same_each}
use Rattle.commit.proofs.UnchangedLaws.{same-read}
use Rattle.commit.proofs.unchanged.same_sources.Goals as goal

pub returns : goal.returns
returns c =
    let ss = c.args.ss in
    let l = c.args.l.now in
    let n = c.args.n in
    let f = record_at c.args.version in
    let z = source_size c.args.version in
    let e : n - 0 ≡ n = omega arith in
    let first : 48 + 0 * z ≡ 48 = omega arith in
    let h : list_all (λ i. same_source (get_or ss i past_end) (f l (48 + i * z))) (range_with_len 0 n) ≡ same_each same_source (take n (drop 0 ss)) (many f z l (48 + 0 * z) n) = same-read same_source f z l 48 ss past_end 0 n (search rules) in
    all_from_yields_List (λ i. same_source (get_or ss i past_end) (f l (48 + i * z))) _ _ _ c.all.ensures.ran (YieldsList-from_range 0 n n (cc) e) (λ x r q k. search (rules, tests)) ∙ rw first at h
