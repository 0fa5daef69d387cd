-- One case for each guard, in the order of the definition: mark, seal, span, source; and good if all pass. Test 5 bounds the count, which
-- the loop over the records needs.
use Rattle.base.specs.Lists.{each}
use Rattle.header.specs.Header.{numbers_of, records_of, span_ok, source_ok}
use Rattle.header.proofs.header_of.Goals as goal
use Rattle.header.proofs.Laws.{span-count, not-marked, not-sealed, not-spanned, bad-source, all-good}
use mathlib.Core.Path.{sym, ap, ◌∙◌}
use Rattle.std.specs.Prelude.{Ok, true, false}

pub returns-then-not-is_marked : goal.returns-then-not-is_marked
returns-then-not-is_marked c = not-marked c.args.number c.args.l.now (sym c.is_marked.ensures ∙ c.if-not-is_marked.true)

pub returns-then-not-is_sealed : goal.returns-then-not-is_sealed
returns-then-not-is_sealed c =
    let marks = sym c.is_marked.ensures ∙ c.if-not-is_marked.false in
    not-sealed c.args.number c.args.l.now marks (sym c.is_sealed.ensures ∙ c.if-not-is_sealed.true)

pub returns-then-not-span_ok : goal.returns-then-not-span_ok
returns-then-not-span_ok c =
    let marks = sym c.is_marked.ensures ∙ c.if-not-is_marked.false in
    let seals = sym c.is_sealed.ensures ∙ c.if-not-is_sealed.false in
    not-spanned c.args.number c.args.l.now marks seals (ap span_ok (sym c.numbers_of-b.ensures) ∙ sym c.span_ok.ensures ∙ c.if-not-span_ok.true)

pub records_ok-requires : goal.records_ok-requires
records_ok-requires c = span-count c.numbers_of-b.result (sym c.span_ok.ensures ∙ c.if-not-span_ok.false)

pub returns-then-not-records_ok : goal.returns-then-not-records_ok
unfolding numbers_of
returns-then-not-records_ok c =
    let l = c.args.l.now in
    let marks = sym c.is_marked.ensures ∙ c.if-not-is_marked.false in
    let seals = sym c.is_sealed.ensures ∙ c.if-not-is_sealed.false in
    let spans = ap span_ok (sym c.numbers_of-b.ensures) ∙ sym c.span_ok.ensures ∙ c.if-not-span_ok.false in
    let bad =
    ap (λ h. each (source_ok h) (records_of h.version l h.count)) (sym c.numbers_of-b.ensures) ∙ sym c.records_ok.ensures ∙ c.if-not-records_ok.true in
    bad-source c.args.number l marks seals spans bad

pub returns : goal.returns
unfolding numbers_of
returns c =
    let l = c.args.l.now in
    let marks = sym c.is_marked.ensures ∙ c.if-not-is_marked.false in
    let seals = sym c.is_sealed.ensures ∙ c.if-not-is_sealed.false in
    let spans = ap span_ok (sym c.numbers_of-b.ensures) ∙ sym c.span_ok.ensures ∙ c.if-not-span_ok.false in
    let good =
    ap (λ h. each (source_ok h) (records_of h.version l h.count)) (sym c.numbers_of-b.ensures) ∙ sym c.records_ok.ensures ∙ c.if-not-records_ok.false in
    ap Ok c.numbers_of-b.ensures ∙ all-good c.args.number l marks seals spans good
